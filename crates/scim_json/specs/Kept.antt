-- Kept parts: a resource in two parts, its stored document without `doorCode` and the text at `doorCode`.
use Rattle.std.specs.Prelude.{◌≡◌, ℕ, List, Option, Some, None, Result, Ok, Err}
use Rattle.std.specs.FinMap.{remove}
use Rattle.scim_schema.specs.declared.Attribute.TheVariants.{DoorCode}
use Rattle.scim_schema.specs.Units.{simple}
use Rattle.scim_cell.specs.declared.atoms.Atom.{Atom}
use Rattle.scim_cell.specs.declared.atoms.Atom.TheVariants.{Text}
use Rattle.scim_cell.specs.Place.{place_at}
use Rattle.scim_cell.specs.Content.{Content}
use Rattle.scim_value.specs.Resource.{first_at}
use Rattle.scim_json.specs.declared.faults.Damaged.{Damaged}
use Rattle.scim_json.specs.Stored.{IsResourceBelow, IsDocumentText}

-- the text of an atom, or None if there is no atom or it isn't a text
abbrev pub text_of : Option Atom → Option (List ℕ)
text_of (Some (Text t)) = Some t
text_of _ = None

-- the text at `doorCode`, or None
abbrev pub door_code : Content → Option (List ℕ)
door_code c = text_of (first_at (simple DoorCode) c)

-- the part without the cell at `doorCode`
abbrev pub without_door_code : Content → Content
without_door_code c = record c { cells = remove c.cells (place_at (simple DoorCode) 0) }

-- the text and the door code are the kept parts of a resource below the base
pub record IsKept (base text : List ℕ) (door : Option (List ℕ)) (c : Content) : Type 0 where
  pub below : IsResourceBelow base c
  pub document : IsDocumentText base text (without_door_code c)
  pub code : door ≡ door_code c

-- the result of reading kept parts: the resource that they are kept of, or the error `Damaged` if there is no
-- such resource
abbrev pub GivesKept : List ℕ → List ℕ → Option (List ℕ) → Result Content Damaged → Type 0
GivesKept base text door (Ok c) = IsKept base text door c
GivesKept base text door (Err damaged) = (c : Content) → ¬ IsKept base text door c
