use Rattle.std.proofs.Common.{sym, ◌<◌, length, arith}
use Rattle.scim_command.proofs.OutputLemmas.{text_more}
use Rattle.scim_command.proofs.outputs.results_text.Goals as goal

pub loop-index-preserved : goal.loop-index-preserved
loop-index-preserved c same =
    let i = c.loop-index.index in
    let inside : i < length c.args.events.now = omega (arith, same, c.loop-index-test.true, c.min-index-end.ensures) in
    let lines = rw (c.index-events-index.is, c.index-results-index.is) at c.in_ok-lines.ensures in
    rw (c.in_ok-push_str.ensures.bytes, c.as_str.ensures.value, lines, c.loop-index.invariant same) (sym (text_more c.args.events.now c.args.results.now i _ _ same inside))
