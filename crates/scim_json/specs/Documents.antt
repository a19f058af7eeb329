-- Users files: JSON lists of stored documents.
use Rattle.std.specs.Prelude.{◌≡◌, ℕ, zero, suc, length, List, [], ◌∷◌, Some, All, AllPairs}
use Rattle.serde_json.specs.Data.{Data, array, Items, no_items, item}
use Rattle.serde_json.specs.Read.{read}
use Rattle.scim_cell.specs.Content.{Content}
use Rattle.scim_value.specs.Uniqueness.{AreApart}
use Rattle.scim_json.specs.PartData.{stored_data}
use Rattle.scim_json.specs.Stored.{IsResourceBelow, IsDocument}

-- the stored documents of these resources, followed by these values
abbrev pub documents_and : List Content → Items → Items
documents_and [] ds = ds
documents_and (c ∷ cs) ds = item (stored_data c) (documents_and cs ds)

-- resources below the base that may be on the same server
pub record AreResourcesBelow (base : List ℕ) (cs : List Content) : Type 0 where
  pub below : All (IsResourceBelow base) cs
  pub apart : AllPairs AreApart cs

-- the text is a JSON list of the stored documents of these resources
abbrev pub IsDocumentsText : List ℕ → List ℕ → List Content → Type 0
IsDocumentsText base text cs = AreResourcesBelow base cs × (read text ≡ Some (array (documents_and cs no_items)))

-- the value isn't the stored document of any resource below the base that may be on the same server as these
-- resources
abbrev pub IsDamagedBeside : List ℕ → List Content → Data → Type 0
IsDamagedBeside base cs d = (c : Content) → IsDocument base d c → All (λ b. AreApart b c) cs → ⊥

-- the text is a JSON list in which the stored documents of these resources are followed by a damaged value
pub record IsDamagedAfter (base text : List ℕ) (cs : List Content) : Type 0 where
  pub before : AreResourcesBelow base cs
  pub value : Data
  pub later : Items
  pub reads : read text ≡ Some (array (documents_and cs (item value later)))
  pub damaged : IsDamagedBeside base cs value

-- the number, from 1, of the first damaged item of the list, or 0 if the text isn't a JSON list
abbrev pub IsDamagedAt : List ℕ → List ℕ → ℕ → Type 0
IsDamagedAt base text zero = (ds : Items) → read text ≡ Some (array ds) → ⊥
IsDamagedAt base text (suc n) = (cs : List Content) × (length cs ≡ n) × IsDamagedAfter base text cs
