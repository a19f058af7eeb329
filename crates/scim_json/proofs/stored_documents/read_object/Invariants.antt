use Rattle.std.proofs.Common.{◌≡◌, ◌++◌, drop}
use Rattle.std.specs.List.{flat_map}
use Rattle.serde_json.specs.View.{view}
use Rattle.scim_cell.specs.Content.{entries_of}
use Rattle.scim_json.specs.Found.{found_sub_attribute, found_object}
use Rattle.scim_json.proofs.stored_documents.read_object.Given as goal

-- the cells that are read and those of the sub-attributes that are left make the whole
abbrev pub invariant-loop-sub_attribute : goal.invariant-loop-sub_attribute
invariant-loop-sub_attribute l =
    entries_of l.cells.items
    ++ flat_map (found_sub_attribute l.kind l.attribute l.position (view l.value)) (drop l.sub_attribute-index l.sub_attribute-items)
    ≡ entries_of l.fn.cells.items ++ found_object l.kind l.attribute l.position (view l.value)
