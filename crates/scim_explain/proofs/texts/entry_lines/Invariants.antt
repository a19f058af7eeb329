use Rattle.std.proofs.Common.{◌≡◌, ◌+◌, ◌++◌, drop, string_bytes}
use Rattle.scim_explain.specs.Texts as spec
use Rattle.scim_explain.proofs.texts.entry_lines.Given as goal

-- the lines so far, and those of the entries from this one on, are those of all
abbrev pub invariant-loop-index : goal.invariant-loop-index
invariant-loop-index l = string_bytes l.text ++ spec.entry_lines (l.index + 1) (drop l.index l.entries) ≡ spec.entry_lines 1 l.entries
