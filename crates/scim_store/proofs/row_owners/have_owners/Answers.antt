use Rattle.std.proofs.Common.{sym, subst, arith}
use Rattle.scim_store.specs.Owners.{HasOwner}
use Rattle.scim_store.proofs.IdTextLemmas.{owner_there, owner_missing, all_more}
use Rattle.scim_store.proofs.row_owners.have_owners.Goals as goal

pub returns-then-is_none-clause-no : goal.returns-then-is_none-clause-no
returns-then-is_none-clause-no c = λ _ all.
    (let rows = c.args.rows.now in
    let k = c.loop-row.row-index in
    let row = c.row-item.result in
    owner_missing c.owner_of.result row c.owner_of.ensures.none c.if-is_none.ensures (subst HasOwner (sym c.row-item.is) (all k row (omega arith))))

pub loop-row-preserved : goal.loop-row-preserved
loop-row-preserved c = all_more HasOwner c.args.rows.now c.loop-row.row-index c.row-item.result c.loop-row.invariant (omega arith) c.row-item.is (owner_there c.owner_of.result c.row-item.result c.owner_of.ensures.id c.owner_of.ensures.some c.if-is_none.ensures)

pub returns-clause-yes : goal.returns-clause-yes
returns-clause-yes c = λ _ k d low. c.loop-row.invariant k d (omega arith) (omega arith)
