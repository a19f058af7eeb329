use Rattle.std.proofs.Common.{◌≡◌, ◌++◌, drop}
use Rattle.std.specs.List.{flat_map}
use Rattle.serde_json.specs.View.{view}
use Rattle.scim_cell.specs.Content.{entries_of}
use Rattle.scim_json.specs.Found.{found_attribute}
use Rattle.scim_json.proofs.stored_documents.read_attributes.Given as goal

-- the cells that are read and those of the attributes that are left make the whole
abbrev pub invariant-loop-attribute : goal.invariant-loop-attribute
invariant-loop-attribute l =
    entries_of l.cells.items ++ flat_map (found_attribute l.kind (view l.value)) (drop l.attribute-index l.attributes)
    ≡ entries_of l.fn.cells.items ++ flat_map (found_attribute l.kind (view l.value)) l.attributes
