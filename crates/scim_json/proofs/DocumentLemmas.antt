-- The documents of a list, one by one.
use Rattle.std.proofs.Common.{◌≡◌, ℕ, List, [], ◌∷◌, ◌++◌, refl, ap, subst}
use Rattle.std.specs.Prelude.{All}
use Rattle.serde_json.specs.Data.{Data, Items, item}
use Rattle.scim_cell.specs.Content.{Content}
use Rattle.scim_value.specs.Uniqueness.{AreApart}
use Rattle.scim_json.specs.PartData.{stored_data}
use Rattle.scim_json.specs.Stored.{IsDocument}
use Rattle.scim_json.specs.Documents.{documents_and, IsDamagedBeside}
use Rattle.scim_json.proofs.Back.{documents_are_apart}

-- one document more
pub documents_and-push : (cs : List Content) (c : Content) (ds : Items) → documents_and (cs ++ c ∷ []) ds ≡ documents_and cs (item (stored_data c) ds)
documents_and-push [] c ds = refl
documents_and-push (b ∷ cs) c ds = ap (item (stored_data b)) (documents_and-push cs c ds)

-- where one resource of a document isn't apart from the others, none is
pub none_beside : (base : List ℕ) (cs : List Content) (d : Data) (b : Content) → IsDocument base d b → (All (λ a. AreApart a b) cs → ⊥) → IsDamagedBeside base cs d
none_beside base cs d b is clash c other apart =
    let same : c ≡ b = documents_are_apart base d c b other is in
    clash (subst (λ (e : Content). All (λ a. AreApart a e) cs) same apart)
