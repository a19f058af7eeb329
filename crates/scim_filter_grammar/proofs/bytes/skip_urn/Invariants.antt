use Rattle.std.proofs.Common.{◌≡◌, length}
use Rattle.scim_filter_grammar.specs.code.Cuts.{names_from}
use Rattle.scim_filter_grammar.proofs.bytes.skip_urn.Given as goal

abbrev pub invariant-loop-rest : goal.invariant-loop-rest
invariant-loop-rest l = names_from l.names l.rest ≡ names_from l.word l.word

abbrev pub decreases-loop-rest : goal.decreases-loop-rest
decreases-loop-rest l = length l.rest
