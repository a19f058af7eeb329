use Rattle.std.proofs.Common.{◌≡◌, drop}
use Rattle.scim_policy.specs.PatternTable.{access_in}
use Rattle.scim_service.specs.Step.{first_unit_denial}
use Rattle.scim_service.proofs.put_plans.first_denied_among.Given as goal

-- those that are left decide
abbrev pub invariant-loop-unit : goal.invariant-loop-unit
invariant-loop-unit l =
    first_unit_denial (access_in l.rights) l.draft l.seen (drop l.unit-index l.units) ≡ first_unit_denial (access_in l.rights) l.draft l.seen l.units
