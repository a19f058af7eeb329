-- The JSON of a part has exactly the cells of the part. Reading the stored JSON of a resource returns the
-- resource.
use Rattle.std.specs.Prelude.{◌≡◌, ℕ, List, Option, Some, Result, Ok}
use Rattle.std.specs.FinMap.{entries}
use Rattle.serde_json.specs.Read.{read}
use Rattle.serde_json.specs.Written.{compact_text}
use Rattle.scim_cell.specs.Content.{Content, IsPart}
use Rattle.scim_json.specs.declared.faults.Damaged.{Damaged}
use Rattle.scim_json.specs.PartData.{part_data, stored_data}
use Rattle.scim_json.specs.Stored.{IsResourceBelow, GivesStored, stored_text}
use Rattle.scim_json.specs.Found.{found_cells}
use Rattle.scim_json.specs.Kept.{IsKept, GivesKept, door_code, without_door_code}

-- the JSON of a part contains all cells of the part, and no other cells
abbrev pub PartsAreShownWhole : Type 0
PartsAreShownWhole = (c : Content) → IsPart c → found_cells c.kind (part_data c) ≡ entries c.cells

-- parsing the stored text of a part returns the stored JSON value of the part
abbrev pub KeptReadsBack : Type 0
KeptReadsBack = (c : Content) → read (compact_text (stored_data c)) ≡ Some (stored_data c)

-- reading the stored text of a resource whose location is below the base can only return that resource
abbrev pub StoredResourcesReadBack : Type 0
StoredResourcesReadBack =
    (base : List ℕ) (c : Content) (answer : Result Content Damaged)
    → IsResourceBelow base c → GivesStored base (stored_text c) answer → answer ≡ Ok c

-- resources below the same base with the same kept parts are equal
abbrev pub KeptPartsDetermine : Type 0
KeptPartsDetermine = (base text : List ℕ) (door : Option (List ℕ)) (a b : Content) → IsKept base text door a → IsKept base text door b → a ≡ b

-- reading the kept parts of a resource whose location is below the base can only return that resource
abbrev pub KeptPartsReadBack : Type 0
KeptPartsReadBack =
    (base : List ℕ) (c : Content) (answer : Result Content Damaged)
    → IsResourceBelow base c → GivesKept base (stored_text (without_door_code c)) (door_code c) answer → answer ≡ Ok c
