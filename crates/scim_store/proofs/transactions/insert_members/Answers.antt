use Rattle.std.proofs.Common.{◌≡◌, take, arith}
use Rattle.std.specs.Prelude.{List, ℕ}
use Rattle.std.proofs.lemmas.List.{take_all}
use Rattle.std.proofs.lemmas.List.Sorted.{IsPermutation-refl}
use Rattle.scim_store_tables.specs.Lists.{member_values}
use Rattle.scim_store_tables.proofs.Facts.{does_nothing, does_less, fails_then, does_both}
use Rattle.scim_store.proofs.RowLemmas.{more_rows, reordered}
use Rattle.scim_store.proofs.transactions.insert_members.Goals as goal

pub loop-value-init : goal.loop-value-init
loop-value-init g c = does_nothing g.S.Store c.args.tx.now tt _ (λ lists are. are)

pub loop-value-preserved : goal.loop-value-preserved
loop-value-preserved g c =
    does_both g.S.Store c.args.tx.now c.loop-value.tx c.insert_member.new.tx tt _ tt _ _ _ c.loop-value.invariant c.in_ok-insert_member.ensures.does (λ _ _ new did step lists are. reordered new _ _ (rw c.as_str.ensures at (step _ (did lists are))) (IsPermutation-refl _) (IsPermutation-refl _) (more_rows (λ (v : List ℕ). member_values v c.args.group_id.now) c.args.values.now c.loop-value.value-index c.value-item.result lists.member (omega arith) c.value-item.is) (IsPermutation-refl _) (IsPermutation-refl _))

pub returns-in_err-insert_member : goal.returns-in_err-insert_member
returns-in_err-insert_member g c = record { does = fails_then g.S.Store c.args.tx.now c.loop-value.tx c.insert_member.new.tx _ _ c.from_residual.result _ _ _ c.loop-value.invariant c.in_err-insert_member.ensures.does c.from_residual.ensures.0 }

pub returns : goal.returns
returns g c =
    let all : take c.loop-value.value-index c.args.values.now ≡ c.args.values.now = take_all _ _ (omega arith) in
    record { does = does_less g.S.Store c.args.tx.now c.loop-value.tx tt tt _ _ c.loop-value.invariant (λ _ _ did lists are. rw all at (did lists are)) }
