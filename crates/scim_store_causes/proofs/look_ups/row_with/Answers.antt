use Rattle.std.proofs.Common.{rules, ◌≡◌, Some, arith}
use Rattle.sqlite.specs.Order.{column}
use Rattle.scim_store_tables.specs.Audit.{number}
use Rattle.scim_store_causes.proofs.RowLemmas.{all_more, other_number, none_has}
use Rattle.scim_store_causes.proofs.look_ups.row_with.Goals as goal

pub loop-row-preserved : goal.loop-row-preserved
loop-row-preserved c =
    let other : c.number_in.result ≡ Some c.args.number → ⊥ = search rules in
    all_more (λ r. column r 0 ≡ number c.args.number → ⊥) c.args.rows.now c.loop-row.row-index c.row-item.result c.loop-row.invariant (omega arith) c.row-item.is
    (other_number c.number_in.result c.row-item.result c.args.number c.number_in.ensures other)

pub returns-clause-none : goal.returns-clause-none
returns-clause-none c = λ _. none_has c.args.rows.now c.args.number (λ k d from to. c.loop-row.invariant k d from (omega (arith, to)))
