use Rattle.std.proofs.Common.{◌≡◌, ◌++◌, drop, string_bytes}
use Rattle.scim_explain.specs.Idle as spec
use Rattle.scim_explain.proofs.never_deciding.print_idle_rules.Given as goal

-- the lines so far, and those of the rules from this one on, are those of all
abbrev pub invariant-loop-rule : goal.invariant-loop-rule
invariant-loop-rule l = string_bytes l.text ++ spec.idle_lines (drop l.rule-index l.idle) ≡ spec.idle_lines l.idle
