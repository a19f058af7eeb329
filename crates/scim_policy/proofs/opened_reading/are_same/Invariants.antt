use Rattle.std.proofs.Common.{◌≡◌, drop, length}
use Rattle.std.specs.Cmp.Lexicographic.{pointwise}
use Rattle.scim_policy.specs.Opened.{is_same_decision}
use Rattle.scim_policy.proofs.opened_reading.are_same.Given as goal

abbrev pub invariant-loop-index : goal.invariant-loop-index
invariant-loop-index l =
    record {
      long : length l.decisions ≡ length l.others;
      same : pointwise is_same_decision (drop l.index l.decisions) (drop l.index l.others) ≡ pointwise is_same_decision l.decisions l.others;
    }
