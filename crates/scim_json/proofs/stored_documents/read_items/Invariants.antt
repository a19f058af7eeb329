use Rattle.std.proofs.Common.{◌≡◌, ◌++◌, drop}
use Rattle.serde_json.specs.View.{items_view}
use Rattle.scim_cell.specs.Content.{entries_of}
use Rattle.scim_json.specs.Found.{found_items}
use Rattle.scim_json.proofs.stored_documents.read_items.Given as goal

-- the cells that are read and those of the items that are left make the whole
abbrev pub invariant-loop-position : goal.invariant-loop-position
invariant-loop-position l =
    entries_of l.cells.items ++ found_items l.kind l.attribute l.position (items_view (drop l.position l.items))
    ≡ entries_of l.fn.cells.items ++ found_items l.kind l.attribute 0 (items_view l.items)
