use Rattle.std.proofs.Common.{rules, ◌≡◌, true, arith}
use Rattle.scim_store_causes.specs.Ids.{HasId}
use Rattle.scim_store_causes.proofs.RowLemmas.{all_more}
use Rattle.scim_store_causes.proofs.row_ids.have_ids.Goals as goal

pub loop-row-preserved : goal.loop-row-preserved
loop-row-preserved c =
    let has : c.has_id.result ≡ true = search rules in
    all_more HasId c.args.rows.now c.loop-row.row-index c.row-item.result c.loop-row.invariant (omega arith) c.row-item.is (c.has_id.ensures.yes has)

pub returns-clause-yes : goal.returns-clause-yes
returns-clause-yes c = λ _ k d low. c.loop-row.invariant k d (omega arith) (omega arith)
