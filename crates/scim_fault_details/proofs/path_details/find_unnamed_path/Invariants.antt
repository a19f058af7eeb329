use Rattle.std.proofs.Common.{◌≡◌, drop, map}
use Rattle.std.specs.List.{list_all}
use Rattle.scim_fault_details.specs.PathEntries.{is_named}
use Rattle.scim_fault_details.specs.code.Borrowed.{text_at}
use Rattle.scim_fault_details.proofs.path_details.find_unnamed_path.Given as goal

-- the answer for the entries that are left is that for all
abbrev pub invariant-loop-entry : goal.invariant-loop-entry
invariant-loop-entry l = list_all (is_named l.scope) (map text_at (drop l.entry-index l.entries)) ≡ list_all (is_named l.scope) (map text_at l.entries)
