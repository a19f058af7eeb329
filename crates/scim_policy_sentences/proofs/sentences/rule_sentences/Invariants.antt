use Rattle.std.proofs.Common.{◌≡◌, ◌+◌, ◌++◌, drop, string_bytes}
use Rattle.scim_policy_sentences.specs.Sentences as spec
use Rattle.scim_policy_sentences.proofs.sentences.rule_sentences.Given as goal

-- the lines so far, and those of the rules from this one on, are those of all
abbrev pub invariant-loop-index : goal.invariant-loop-index
invariant-loop-index l = string_bytes l.text ++ spec.sentence_lines (l.index + 1) (drop l.index l.rules) ≡ spec.sentence_lines 1 l.rules
