use Rattle.std.proofs.Common.{◌≡◌, map, drop, Some}
use Rattle.std.specs.Prelude.{slice_get}
use Rattle.scim_policy_file.specs.declared.faults.Cause.TheVariants.{Name}
use Rattle.scim_policy_file.specs.code.Standings.{fault_with}
use Rattle.scim_policy_file.proofs.rule_paths.fault_at.Given as goal

-- the fault so far, with the columns from this one on, is that of all columns
abbrev pub invariant-loop-column : goal.invariant-loop-column
invariant-loop-column l =
    fault_with l.fault (map (λ column. slice_get column l.place) (map (λ c. c.items) (drop l.column-index l.columns)))
    ≡ fault_with (Some Name) (map (λ column. slice_get column l.place) (map (λ c. c.items) l.columns))
