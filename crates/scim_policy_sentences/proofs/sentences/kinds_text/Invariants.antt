use Rattle.std.proofs.Common.{◌≡◌, map, take, string_bytes}
use Rattle.scim_policy_sentences.specs.Sentences as spec
use Rattle.scim_policy_sentences.proofs.sentences.kinds_text.Given as goal

-- the clauses so far are those of the kinds before this one
abbrev pub invariant-loop-kind : goal.invariant-loop-kind
invariant-loop-kind l = map string_bytes l.clauses.items ≡ map (spec.kind_clause l.rule) (take l.kind-index l.kinds)
