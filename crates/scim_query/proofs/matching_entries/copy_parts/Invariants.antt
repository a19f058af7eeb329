use Rattle.std.proofs.Common.{◌≡◌, take}
use Rattle.scim_query.specs.code.Entries as spec
use Rattle.scim_query.proofs.matching_entries.copy_parts.Given as goal

abbrev pub invariant-loop-entry : goal.invariant-loop-entry
invariant-loop-entry l = l.copies.items ≡ spec.parts_of (take l.entry-index l.entries)
