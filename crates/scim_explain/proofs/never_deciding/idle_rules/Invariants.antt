use Rattle.std.proofs.Common.{◌≡◌, ◌≤◌, ◌+◌, ◌++◌, length, drop}
use Rattle.scim_explain.proofs.IdleLemmas.{idle_from}
use Rattle.scim_explain.proofs.never_deciding.idle_rules.Given as goal

-- the idle rules so far, and those from this one on, are all
abbrev pub invariant-loop-index : goal.invariant-loop-index
invariant-loop-index l =
    record {
      few : length l.rules ≤ 1000;
      told : l.idle.items ++ idle_from l.rules (l.index + 1) (drop l.index l.rules) ≡ idle_from l.rules 1 l.rules;
    }
