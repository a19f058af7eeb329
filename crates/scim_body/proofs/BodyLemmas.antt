-- Lemmas on the values of bodies.
use Rattle.std.proofs.Common.{◌≡◌, ◌<◌, ◌==◌, ◌+◌, ◌∙◌, ℕ, List, [], ◌∷◌, ◌++◌, Option, None, Some, option_map, length, drop, get_or, refl, ap, sym, append_assoc, arith}
use Rattle.std.specs.Prelude.{option_and_then}
use Rattle.std.proofs.lemmas.Bool.Decides.{nat_tests}
use Rattle.std.proofs.lemmas.List.{at_drop_more}
use Rattle.serde_json.specs.Data.{array}
use Rattle.scim_body.specs.View.{items_view}
use Rattle.scim_body.specs.declared.trees.Tree.{Tree}
use Rattle.scim_body.specs.BodyValues.{is_absent, collected}
use Rattle.scim_body.specs.Given.{after}

-- an array counts as none exactly where it has no item
pub absent_items : (vs : List Tree) → (length vs == 0) ≡ is_absent (array (items_view vs))
absent_items [] = refl
absent_items (v ∷ vs) = grind (arith, nat_tests)

-- what is read of the first is added to what was read before
pub step : {X : Type 0} → (one rest : Option (List X)) (old new : List X) → after old one ≡ Some new
    → after old (option_and_then (λ xs. option_map (λ ys. xs ++ ys) rest) one) ≡ after new rest
step None rest old new h = absurd (cc h)
step (Some xs) None old new h = refl
step (Some xs) (Some ys) old new h = let e : old ++ xs ≡ new = cc in ap Some (sym (append_assoc old xs ys) ∙ ap (λ zs. zs ++ ys) e)

-- and so at each place of a list
pub collected_at : {K X : Type 0} → (read : K → Option (List X)) (ks : List K) (i : ℕ) (d : K) → i < length ks → (old new : List X)
    → after old (read (get_or ks i d)) ≡ Some new
    → after old (collected read (drop i ks)) ≡ after new (collected read (drop (i + 1) ks))
collected_at read ks i d h old new given =
    at_drop_more (λ ls. after old (collected read ls)) ks i d h ∙ step (read (get_or ks i d)) (collected read (drop (i + 1) ks)) old new given

-- where nothing was read before, what is read is all
pub read_first : {X : Type 0} → (old : List X) (read : Option (List X)) (new : List X) → old ≡ [] → after old read ≡ Some new → read ≡ Some new
read_first old None new none h = absurd (cc h)
read_first old (Some xs) new none h = let e : old ++ xs ≡ new = cc in ap Some (ap (λ zs. zs ++ xs) (sym none) ∙ e)
