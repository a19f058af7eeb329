use Rattle.std.proofs.Common.{◌≡◌, take, arith, sym, subst}
use Rattle.std.specs.Prelude.{List, ℕ}
use Rattle.std.proofs.lemmas.List.{take_all}
use Rattle.sqlite.specs.Held.{state}
use Rattle.sqlite.specs.Order.{Row}
use Rattle.scim_store_tables.specs.Lists.{Are, has_texts}
use Rattle.scim_store_tables.proofs.Facts.{does_nothing, does_less, fails_then, does_both}
use Rattle.scim_store.proofs.RowLemmas.{without_none, without_more}
use Rattle.scim_store.proofs.transactions.delete_members.Goals as goal

pub loop-value-init : goal.loop-value-init
loop-value-init g c = does_nothing g.S.Store c.args.tx.now tt _ (λ lists are. subst (λ (rows : List Row). Are (state g.S.Store c.args.tx.now.conn.now).now (record lists { member = rows })) (sym (without_none lists.member)) are)

pub loop-value-preserved : goal.loop-value-preserved
loop-value-preserved g c =
    does_both g.S.Store c.args.tx.now c.loop-value.tx c.delete_member.new.tx tt _ tt _ _ _ c.loop-value.invariant c.in_ok-delete_member.ensures.does (λ _ _ new did step lists are. subst (λ (rows : List Row). Are new (record lists { member = rows })) (without_more (λ (v : List ℕ). has_texts v c.args.group_id.now) c.args.values.now c.loop-value.value-index c.value-item.result lists.member (omega arith) c.value-item.is) (rw c.as_str.ensures at (step _ (did lists are))))

pub returns-in_err-delete_member : goal.returns-in_err-delete_member
returns-in_err-delete_member g c = record { does = fails_then g.S.Store c.args.tx.now c.loop-value.tx c.delete_member.new.tx _ _ c.from_residual.result _ _ _ c.loop-value.invariant c.in_err-delete_member.ensures.does c.from_residual.ensures.0 }

pub returns : goal.returns
returns g c =
    let all : take c.loop-value.value-index c.args.values.now ≡ c.args.values.now = take_all _ _ (omega arith) in
    record { does = does_less g.S.Store c.args.tx.now c.loop-value.tx tt tt _ _ c.loop-value.invariant (λ _ _ did lists are. rw all at (did lists are)) }
