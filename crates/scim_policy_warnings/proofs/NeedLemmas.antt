-- The first need that is missing at the leaves of a unit, by the first of some leaves.
use Rattle.std.proofs.Common.{◌≡◌, refl, ◌∙◌, Bool, true, false, List, ◌∷◌, ◌++◌}
use Rattle.std.specs.Prelude.{Option, None, Some, filter, find, is_some}
use Rattle.std.specs.List.{flat_map}
use Rattle.std.specs.Option.{option_or}
use Rattle.std.proofs.lemmas.List.Folds.{find-append}
use Rattle.scim_schema.specs.declared.Leaf.{Leaf}
use Rattle.scim_policy_warnings.specs.declared.needs.Need.{Need}

or_found : {X : Type 0} (o p : Option X) → is_some o ≡ true → option_or o p ≡ o
or_found None p e = cc
or_found (Some x) p e = refl

or_missed : {X : Type 0} (o p : Option X) → is_some o ≡ false → option_or o p ≡ p
or_missed None p e = refl
or_missed (Some x) p e = cc

module _ (lacks : Need → Bool) (f : Leaf → List Need) (t : Leaf → Bool) where
  abbrev pub first_at : List Leaf → Option Need
  first_at ls = find lacks (flat_map f (filter t ls))

  parts : (l : Leaf) (ls : List Leaf) → t l ≡ true → first_at (l ∷ ls) ≡ option_or (find lacks (f l)) (first_at ls)
  parts l ls is =
      let kept : first_at (l ∷ ls) ≡ find lacks (f l ++ flat_map f (filter t ls)) = rw is refl in
      kept ∙ find-append lacks (f l) (flat_map f (filter t ls))

  pub at_first : (l : Leaf) (ls : List Leaf) → t l ≡ true → is_some (find lacks (f l)) ≡ true → first_at (l ∷ ls) ≡ find lacks (f l)
  at_first l ls is found = parts l ls is ∙ or_found _ _ found

  pub behind_first : (l : Leaf) (ls : List Leaf) → t l ≡ true → is_some (find lacks (f l)) ≡ false → first_at (l ∷ ls) ≡ first_at ls
  behind_first l ls is none = parts l ls is ∙ or_missed _ _ none

  pub past_other : (l : Leaf) (ls : List Leaf) → t l ≡ false → first_at (l ∷ ls) ≡ first_at ls
  past_other l ls other = rw other refl
