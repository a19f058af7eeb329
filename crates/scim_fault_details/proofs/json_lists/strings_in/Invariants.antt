use Rattle.std.proofs.Common.{◌≡◌, ◌++◌, drop, map}
use Rattle.json.specs.Value.{items_view}
use Rattle.scim_fault_details.specs.JsonLists.{strings_in}
use Rattle.scim_fault_details.specs.code.Borrowed.{text_at}
use Rattle.scim_fault_details.proofs.json_lists.strings_in.Given as goal

-- the texts so far, with the strings among the items that are left, are the strings among all
abbrev pub invariant-loop-item : goal.invariant-loop-item
invariant-loop-item l = map text_at l.texts.items ++ strings_in (items_view (drop l.item-index l.items)) ≡ strings_in (items_view l.items)
