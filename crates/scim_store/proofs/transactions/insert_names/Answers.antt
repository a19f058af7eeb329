use Rattle.std.proofs.Common.{◌≡◌, take, arith}
use Rattle.std.specs.Prelude.{string_bytes}
use Rattle.std.proofs.lemmas.List.{take_all}
use Rattle.std.proofs.lemmas.List.Sorted.{IsPermutation-refl}
use Rattle.scim_schema.specs.Names.{attribute_name}
use Rattle.scim_value.specs.declared.uniqueness.UniqueName.{UniqueName}
use Rattle.scim_store_tables.specs.Lists.{name_values}
use Rattle.scim_store_tables.proofs.Facts.{does_nothing, does_less, fails_then, does_both}
use Rattle.scim_store.proofs.RowLemmas.{more_rows, reordered}
use Rattle.scim_store.proofs.transactions.insert_names.Goals as goal

pub loop-name-init : goal.loop-name-init
loop-name-init g c = does_nothing g.S.Store c.args.tx.now tt _ (λ lists are. are)

pub loop-name-preserved : goal.loop-name-preserved
loop-name-preserved g c =
    does_both g.S.Store c.args.tx.now c.loop-name.tx c.insert_name.new.tx tt _ tt _ _ _ c.loop-name.invariant c.in_ok-insert_name.ensures.does (λ _ _ new did step lists are. reordered new _ _ (rw (c.name.ensures, c.as_str.ensures.value) at (step _ (did lists are))) (IsPermutation-refl _) (more_rows (λ (n : UniqueName). name_values (attribute_name n.leaf.attribute) (string_bytes n.text) c.args.id.now) c.args.names.now c.loop-name.name-index c.name-item.result lists.taken (omega arith) c.name-item.is) (IsPermutation-refl _) (IsPermutation-refl _) (IsPermutation-refl _))

pub returns-in_err-insert_name : goal.returns-in_err-insert_name
returns-in_err-insert_name g c = record { does = fails_then g.S.Store c.args.tx.now c.loop-name.tx c.insert_name.new.tx _ _ c.from_residual.result _ _ _ c.loop-name.invariant c.in_err-insert_name.ensures.does c.from_residual.ensures.0 }

pub returns : goal.returns
returns g c =
    let all : take c.loop-name.name-index c.args.names.now ≡ c.args.names.now = take_all _ _ (omega arith) in
    record { does = does_less g.S.Store c.args.tx.now c.loop-name.tx tt tt _ _ c.loop-name.invariant (λ _ _ did lists are. rw all at (did lists are)) }
