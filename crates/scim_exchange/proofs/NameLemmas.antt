-- Names of texts that are borrowed.
use Rattle.std.proofs.Common.{◌≡◌, refl, ap, ◌∙◌, ℕ, Bool, List, [], ◌∷◌, map}
use Rattle.std.specs.Prelude.{Result, Ok, Err, IfOk, ◌||◌}
use Rattle.std.specs.List.{list_any}
use denote.Ref.{Bor}
use Rattle.scim_schema.specs.declared.Kind.{Kind}
use Rattle.scim_schema.specs.declared.Leaf.{Leaf}
use Rattle.scim_view.specs.declared.attribute_lists.Names.{Names}
use Rattle.scim_view.specs.Names.{includes, names_leaf}
use Rattle.scim_exchange.specs.AttributeLists.{AreNames}

any_text : (p : List ℕ → Bool) (texts : List (Bor (List ℕ))) → list_any (λ t. p t.now) texts ≡ list_any p (map (λ t. t.now) texts)
any_text p [] = refl
any_text p (t ∷ ts) = ap (λ more. p t.now || more) (any_text p ts)

-- names of the texts of a slice are names of those of the list that it is of
pub names_held : {E : Type 0} (kind : Kind) (texts slice : List (Bor (List ℕ))) (names : Result Names E) → slice ≡ texts
    → IfOk names (λ n. (l : Leaf) → includes n l ≡ list_any (λ t. names_leaf kind t.now l) slice) → IfOk names (AreNames kind (map (λ t. t.now) texts))
names_held kind texts slice (Ok n) same are = λ l. are l ∙ ap (list_any (λ t. names_leaf kind t.now l)) same ∙ any_text (λ t. names_leaf kind t l) texts
names_held kind texts slice (Err e) same are = tt
