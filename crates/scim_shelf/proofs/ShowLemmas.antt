-- A walk over the resources of a collection.
use Rattle.std.proofs.Common.{◌≡◌, refl, sym, ◌∙◌, ap, subst, Bool, true, List, [], ◌∷◌, ◌++◌, map}
use Rattle.std.specs.Prelude.{filter}
use Rattle.std.specs.List.{FoldsTo}
use Rattle.std.specs.Map.{values_of}
use Rattle.std.proofs.lemmas.Fn.{FoldsTo-push}
use Rattle.std.proofs.lemmas.List.{map_push}
use Rattle.std.proofs.lemmas.List.Elements.{filter-append}
use denote.Ref.{Bor}
use Rattle.scim_cell.specs.Content.{Content}
use Rattle.scim_shelf.specs.Indexed.{keyed}

pub values_keyed : (cs : List Content) → values_of (map keyed cs) ≡ cs
values_keyed [] = refl
values_keyed (c ∷ cs) = ap (λ (xs : List Content). c ∷ xs) (values_keyed cs)

-- one more that passes a test
filter_more : (test : Content → Bool) (rs : List (Bor Content)) (r : Bor Content) → test r.now ≡ true
    → filter test (map (λ x. x.now) (rs ++ r ∷ [])) ≡ filter test (map (λ x. x.now) rs) ++ r.now ∷ []
filter_more test rs r passes =
    ap (filter test) (map_push (λ (x : Bor Content). x.now) rs r) ∙ filter-append test (map (λ x. x.now) rs) (r.now ∷ []) ∙ rw passes refl

-- one more that is taken
pub folds_more : {V : Type 0} (Takes : V → Content → V → Type 0) (test : Content → Bool) (first last next : V) (rs : List (Bor Content)) (r : Bor Content)
    → test r.now ≡ true → FoldsTo Takes first (filter test (map (λ x. x.now) rs)) last → Takes last r.now next
    → FoldsTo Takes first (filter test (map (λ x. x.now) (rs ++ r ∷ []))) next
folds_more Takes test first last next rs r passes before step =
    subst (λ (xs : List Content). FoldsTo Takes first xs next) (sym (filter_more test rs r passes))
    (FoldsTo-push Takes first (filter test (map (λ x. x.now) rs)) last r.now next before step)
