use Rattle.std.proofs.Common.{◌≡◌, ◌≤◌, length}
use Rattle.scim_filter_grammar.specs.Bytes.{is_space, behind}
use Rattle.scim_filter_grammar.proofs.bytes.skip_spaces.Given as goal

abbrev pub invariant-loop-rest : goal.invariant-loop-rest
invariant-loop-rest l = (behind is_space l.rest ≡ behind is_space l.bytes) × (length l.rest ≤ length l.bytes)

abbrev pub decreases-loop-rest : goal.decreases-loop-rest
decreases-loop-rest l = length l.rest
