use Rattle.std.proofs.Common.{refl, ◌∙◌, ap, ◌+◌, ◌<◌, ◌≤◌, List, map, drop, length, arith}
use Rattle.std.specs.Prelude.{Result}
use Rattle.scim_token.specs.declared.faults.LineFault.{LineFault}
use Rattle.scim_token.specs.TokenFile.{Entry, if_well, entries_from}
use Rattle.scim_token.proofs.LineLemmas.{line_next, lines_end}
use Rattle.scim_token.proofs.token_table.Tokens.of_lines.Goals as goal

pub returns-in-Err-Because : goal.returns-in-Err-Because
returns-in-Err-Because c =
    let i = c.loop-index.index in
    let known = c.loop-index.invariant.0 in
    let inside : i < length c.args.lines.now = omega (arith, c.loop-index-test.true) in
    let rest = λ (next : List Entry). entries_from (i + 1 + 1) next (map (λ x. x.now) (drop (i + 1) c.args.lines.now)) in
    let faulty = c.loop-index.invariant.2 ∙ line_next (i + 1) i known c.args.lines.now _ inside ∙ ap (λ (r : Result (List Entry) LineFault). if_well (i + 1) r rest) ((rw (c.in-Err-Because.field-0-is) at c.in-Err-Because.ensures.fault) known c.loop-index.invariant.1) in
    rw (faulty, c.in-Err-Because.cause-is) refl

pub loop-index-preserved : goal.loop-index-preserved
loop-index-preserved c =
    let i = c.loop-index.index in
    let known = c.loop-index.invariant.0 in
    let inside : i < length c.args.lines.now = omega (arith, c.loop-index-test.true) in
    let rest = λ (next : List Entry). entries_from (i + 1 + 1) next (map (λ x. x.now) (drop (i + 1) c.args.lines.now)) in
    let made = c.in-Ok.ensures.ok known c.loop-index.invariant.1 in
    (made.0, made.2, c.loop-index.invariant.2 ∙ line_next (i + 1) i known c.args.lines.now _ inside ∙ ap (λ (r : Result (List Entry) LineFault). if_well (i + 1) r rest) made.1)

pub returns : goal.returns
returns c =
    let i = c.loop-index.index in
    let known = c.loop-index.invariant.0 in
    let past : length c.args.lines.now ≤ i = omega (arith, c.loop-index-test.false) in
    rw (c.loop-index.invariant.2 ∙ lines_end (i + 1) i known c.args.lines.now past) c.loop-index.invariant.1
