use Rattle.std.proofs.Common.{◌≡◌, ◌-◌, length, suc, sym, arith}
use Rattle.scim_command.proofs.LineLemmas.{empty_last, with_last}
use Rattle.scim_command.proofs.event_files.before_empty_last.Goals as goal

pub returns-then-is_empty : goal.returns-then-is_empty
returns-then-is_empty c =
    let lines = c.args.lines.now in
    let n : length lines ≡ suc (length lines - 1) = omega (arith, c.if-count-eq0.false) in
    empty_last lines (length lines - 1) _ n (sym c.if-is_empty.ensures)

pub returns-else-is_empty : goal.returns-else-is_empty
returns-else-is_empty c =
    let lines = c.args.lines.now in
    let n : length lines ≡ suc (length lines - 1) = omega (arith, c.if-count-eq0.false) in
    with_last lines (length lines - 1) _ n (sym c.if-is_empty.ensures)
