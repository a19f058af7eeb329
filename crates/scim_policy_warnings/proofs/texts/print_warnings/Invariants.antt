use Rattle.std.proofs.Common.{◌≡◌, ◌++◌, drop, string_bytes}
use Rattle.scim_policy_warnings.specs.Texts.{warning_lines}
use Rattle.scim_policy_warnings.proofs.texts.print_warnings.Given as goal

-- the lines so far, and those of the warnings from this one on, are those of all
abbrev pub invariant-loop-warning : goal.invariant-loop-warning
invariant-loop-warning l = string_bytes l.text ++ warning_lines (drop l.warning-index l.warnings) ≡ warning_lines l.warnings
