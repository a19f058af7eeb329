use Rattle.std.proofs.Common.{◌≡◌, ◌≤◌, length}
use Rattle.scim_filter_grammar.specs.Bytes.{past_quote}
use Rattle.scim_filter_grammar.proofs.bytes.skip_string.Given as goal

abbrev pub invariant-loop-rest : goal.invariant-loop-rest
invariant-loop-rest l = (past_quote l.rest ≡ past_quote l.bytes) × (length l.rest ≤ length l.bytes)

abbrev pub decreases-loop-rest : goal.decreases-loop-rest
decreases-loop-rest l = length l.rest
