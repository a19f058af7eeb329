use Rattle.std.proofs.Common.{◌≡◌, drop, filter}
use Rattle.scim_policy.specs.Opened.{allows}
use Rattle.scim_policy.proofs.opened_reading.first_allowing.Given as goal

abbrev pub invariant-loop-decision : goal.invariant-loop-decision
invariant-loop-decision l = filter allows (drop l.decision-index l.decisions) ≡ filter allows l.decisions
