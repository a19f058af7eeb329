use Rattle.std.proofs.Common.{◌≡◌, ap, sym, subst, true, false, List, inl, inr}
use Rattle.sqlite.specs.Held.{state}
use Rattle.sqlite.specs.Order.{Row}
use Rattle.scim_store_tables.specs.Lists.{Are}
use Rattle.scim_store_tables.proofs.Facts.{does_nothing, does_less}
use Rattle.scim_store.specs.Edits.{removes_code}
use Rattle.scim_store.proofs.RowLemmas.{without_none}
use Rattle.scim_store.proofs.transactions.take_secret.Goals as goal

pub returns-in-Stays : goal.returns-in-Stays
returns-in-Stays g c =
    let stays : removes_code c.args.edit.now ≡ false = elim c.in-Stays.is [
      | inl e ↦ ap removes_code e
      | inr e ↦ ap removes_code e.1
    ] in
    record { does = does_nothing g.S.Store c.args.tx.now tt _ (λ lists are. rw stays (subst (λ (rows : List Row). Are (state g.S.Store c.args.tx.now.conn.now).now (record lists { secret = rows })) (sym (without_none lists.secret)) are)) }

pub returns-in-Stays-2 : goal.returns-in-Stays-2
returns-in-Stays-2 g c =
    let stays : removes_code c.args.edit.now ≡ false = elim c.in-Stays.is [
      | inl e ↦ ap removes_code e
      | inr e ↦ ap removes_code e.1
    ] in
    record { does = does_nothing g.S.Store c.args.tx.now tt _ (λ lists are. rw stays (subst (λ (rows : List Row). Are (state g.S.Store c.args.tx.now.conn.now).now (record lists { secret = rows })) (sym (without_none lists.secret)) are)) }

pub returns-in_ok-delete_secret-in-Goes : goal.returns-in_ok-delete_secret-in-Goes
returns-in_ok-delete_secret-in-Goes g c =
    let goes : removes_code c.args.edit.now ≡ true = elim c.in-Goes.is [
      | inl e ↦ ap removes_code e
      | inr e ↦ ap removes_code e.1
    ] in
    record { does = does_less g.S.Store c.args.tx.now c.delete_secret.new.tx _ tt _ _ c.in_ok-delete_secret-in-Goes.ensures.does (λ _ _ did lists are. rw goes (did lists are)) }
