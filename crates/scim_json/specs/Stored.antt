-- Stored documents: the JSON in which resources are stored.
use Rattle.std.specs.Prelude.{◌≡◌, ℕ, List, Some, Result, Ok, Err}
use Rattle.serde_json.specs.Data.{Data}
use Rattle.serde_json.specs.Read.{read}
use Rattle.serde_json.specs.Written.{compact_text}
use Rattle.scim_cell.specs.Content.{Content}
use Rattle.scim_value.specs.Resource.{IsResource, HasBase}
use Rattle.scim_json.specs.declared.faults.Damaged.{Damaged}
use Rattle.scim_json.specs.PartData.{stored_data}

-- the stored text of a resource
abbrev pub stored_text : Content → List ℕ
stored_text c = compact_text (stored_data c)

-- a resource whose location is below the base
abbrev pub IsResourceBelow : List ℕ → Content → Type 0
IsResourceBelow base c = IsResource c × HasBase base c

-- the value is the stored JSON of the resource, whose location is below the base
abbrev pub IsDocument : List ℕ → Data → Content → Type 0
IsDocument base d c = IsResourceBelow base c × (d ≡ stored_data c)

-- the text is JSON with the value of the stored JSON of the resource, whose location is below the base
abbrev pub IsDocumentText : List ℕ → List ℕ → Content → Type 0
IsDocumentText base text c = IsResourceBelow base c × (read text ≡ Some (stored_data c))

-- the result of reading a text as a stored document: the resource with this document, or the error `Damaged`
-- if no resource has this document
abbrev pub GivesStored : List ℕ → List ℕ → Result Content Damaged → Type 0
GivesStored base text (Ok c) = IsDocumentText base text c
GivesStored base text (Err damaged) = (c : Content) → ¬ IsDocumentText base text c

-- resources below the same base with the same stored JSON are equal
abbrev pub DocumentsAreApart : Type 0
DocumentsAreApart = (base : List ℕ) (d : Data) (a b : Content) → IsDocument base d a → IsDocument base d b → a ≡ b
