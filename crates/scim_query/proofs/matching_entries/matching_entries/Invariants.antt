use Rattle.std.proofs.Common.{◌≡◌, All, take}
use Rattle.scim_query.specs.code.Entries as spec
use Rattle.scim_query.specs.Pages.{matching}
use Rattle.scim_query.proofs.matching_entries.matching_entries.Given as goal

abbrev pub invariant-loop-part : goal.invariant-loop-part
invariant-loop-part l = record {
  members : spec.parts_of l.entries.items ≡ matching l.query.filter (take l.part-index l.parts);
  keys : All (spec.HasKey l.query.sort_by) l.entries.items;
}
