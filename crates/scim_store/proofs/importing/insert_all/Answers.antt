use Rattle.std.proofs.Common.{◌∙◌, [], ◌∷◌, ◌++◌, Ok, ap}
use Rattle.sqlite.specs.Held.{state}
use Rattle.scim_value.specs.Resource.{HasBase}
use Rattle.scim_json.specs.DocumentReading.{HasRead}
use Rattle.scim_store_tables.proofs.Facts.{does_nothing, does_less, fails_then, does_both}
use Rattle.scim_store.proofs.ImportLemmas.{hold_none, hold_behind, read_below, stops, fault_read}
use Rattle.scim_store.proofs.importing.insert_all.Goals as goal

pub documents-init : goal.documents-init
documents-init g c base users has = ([], has, does_nothing g.S.Store c.args.tx.now tt _ (λ none. hold_none base (state g.S.Store c.args.tx.now.conn.now).now none))

pub documents-preserved : goal.documents-preserved
documents-preserved g c base users has =
    let so_far = c.documents.invariant base users has in
    let cs = so_far.0 in
    let r = c.in-Some.resource in
    let read : HasRead base users (cs ++ r ∷ []) c.next.new.self = rw c.in-Some.is at (c.in_ok-resource.ensures.more base users cs so_far.1) in
    let below : HasBase base r = read_below base users cs r c.next.new.self read in (
      cs ++ r ∷ [],
      read,
      does_both g.S.Store c.args.tx.now c.documents.tx c.insert_rows.new.tx tt _ tt _ _ _ so_far.2 c.in_ok-insert_rows.ensures.does (λ _ _ new did step none. hold_behind base cs r new (step base cs below (did none))),
    )

pub returns-in_err-resource-clause-does : goal.returns-in_err-resource-clause-does
returns-in_err-resource-clause-does g c base users has = stops g.S.Store c.args.tx.now c.documents.tx c.from_residual.result _ _ (c.documents.invariant base users has).2 c.from_residual.ensures.0

pub returns-in_err-resource-clause-faults : goal.returns-in_err-resource-clause-faults
returns-in_err-resource-clause-faults g c base users has =
    let so_far = c.documents.invariant base users has in
    fault_read base users c.from_residual.result c.in_err-resource.field-0.0 c.from_residual.ensures.1 (c.in_err-resource.ensures.damaged base users so_far.0 so_far.1)

pub returns-in_err-insert_rows-clause-does : goal.returns-in_err-insert_rows-clause-does
returns-in_err-insert_rows-clause-does g c base users has =
    fails_then g.S.Store c.args.tx.now c.documents.tx c.insert_rows.new.tx _ _ c.from_residual-in_err-insert_rows.result _ _ _ (c.documents.invariant base users has).2 c.in_err-insert_rows.ensures.does c.from_residual-in_err-insert_rows.ensures.0

pub returns-clause-does : goal.returns-clause-does
returns-clause-does g c base users has =
    let so_far = c.documents.invariant base users has in
    let whole = c.next.ensures.whole base users so_far.0 so_far.1 (c.in_ok-resource.was ∙ ap Ok c.in_default.is) in
    does_less g.S.Store c.args.tx.now c.documents.tx tt tt _ _ so_far.2 (λ _ _ did none. (so_far.0, whole, did none))
