use Rattle.std.proofs.Common.{◌≡◌, drop}
use Rattle.std.specs.List.{list_any}
use Rattle.scim_fault_details.specs.PathEntries.{is_named_on}
use Rattle.scim_fault_details.proofs.path_details.is_named.Given as goal

-- the answer for the kinds that are left is that for all
abbrev pub invariant-loop-kind : goal.invariant-loop-kind
invariant-loop-kind l = list_any (is_named_on l.scope.has_filters l.entry) (drop l.kind-index l.scope.kinds.now) ≡ list_any (is_named_on l.scope.has_filters l.entry) l.scope.kinds.now
