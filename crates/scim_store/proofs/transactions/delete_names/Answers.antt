use Rattle.std.proofs.Common.{◌≡◌, take, arith, sym, subst}
use Rattle.std.specs.Prelude.{List, string_bytes}
use Rattle.std.proofs.lemmas.List.{take_all}
use Rattle.sqlite.specs.Held.{state}
use Rattle.sqlite.specs.Order.{Row}
use Rattle.scim_schema.specs.Names.{attribute_name}
use Rattle.scim_value.specs.declared.uniqueness.UniqueName.{UniqueName}
use Rattle.scim_store_tables.specs.Lists.{Are, has_texts}
use Rattle.scim_store_tables.proofs.Facts.{does_nothing, does_less, fails_then, does_both}
use Rattle.scim_store.proofs.RowLemmas.{without_none, without_more}
use Rattle.scim_store.proofs.transactions.delete_names.Goals as goal

pub loop-name-init : goal.loop-name-init
loop-name-init g c = does_nothing g.S.Store c.args.tx.now tt _ (λ lists are. subst (λ (rows : List Row). Are (state g.S.Store c.args.tx.now.conn.now).now (record lists { taken = rows })) (sym (without_none lists.taken)) are)

pub loop-name-preserved : goal.loop-name-preserved
loop-name-preserved g c =
    does_both g.S.Store c.args.tx.now c.loop-name.tx c.delete_name.new.tx tt _ tt _ _ _ c.loop-name.invariant c.in_ok-delete_name.ensures.does (λ _ _ new did step lists are. subst (λ (rows : List Row). Are new (record lists { taken = rows })) (without_more (λ (n : UniqueName). has_texts (attribute_name n.leaf.attribute) (string_bytes n.text)) c.args.names.now c.loop-name.name-index c.name-item.result lists.taken (omega arith) c.name-item.is) (rw (c.name.ensures, c.as_str.ensures.value) at (step _ (did lists are))))

pub returns-in_err-delete_name : goal.returns-in_err-delete_name
returns-in_err-delete_name g c = record { does = fails_then g.S.Store c.args.tx.now c.loop-name.tx c.delete_name.new.tx _ _ c.from_residual.result _ _ _ c.loop-name.invariant c.in_err-delete_name.ensures.does c.from_residual.ensures.0 }

pub returns : goal.returns
returns g c =
    let all : take c.loop-name.name-index c.args.names.now ≡ c.args.names.now = take_all _ _ (omega arith) in
    record { does = does_less g.S.Store c.args.tx.now c.loop-name.tx tt tt _ _ c.loop-name.invariant (λ _ _ did lists are. rw all at (did lists are)) }
