use Rattle.std.proofs.Common.{◌≡◌, sym, ◌∙◌, ap, subst}
use Rattle.std.specs.Prelude.{Some}
use Rattle.scim_cell.specs.Content.{Content}
use Rattle.scim_audit.specs.declared.audit_rows.AuditRow.{AuditRow}
use Rattle.scim_shelf.specs.declared.changes.Change.TheVariants.{Keep}
use Rattle.scim_shelf.specs.Stores.{Store, IsStore, HasPlace, after}
use Rattle.scim_shelf.proofs.Facts.{IsStore-keep}
use Rattle.scim_shelf_merge.specs.Merging.{merge_row, merged_one, op_of, outcome}
use Rattle.scim_shelf_merge.proofs.OutcomeLemmas.{outcome_place, stored_is}
use Rattle.scim_shelf_merge.proofs.outcomes.merge_one.Goals as goal

pub returns-clause-merged : goal.returns-clause-merged
returns-clause-merged g c base store stands honest is below =
    let own = c.args.resource.now in
    let now = c.args.now in
    let client = c.args.client.now in
    let found = c.in_ok-outcome.outcome in
    let op = c.in-Some.op in
    let copy = c.in_ok-try_copy.field-0 in
    let then = c.in_ok-commit.ensures.commits.honest honest in
    let told : found ≡ outcome store.resources own = c.in_ok-outcome.ensures.answer store stands then is.keyed in
    let does : Some op ≡ op_of found = c.in-Some.ensures in
    let place : HasPlace store.resources own = outcome_place store.resources own op is.keyed (ap op_of (sym told) ∙ sym does) in
    let copied : copy ≡ own = c.in_ok-try_copy.ensures in
    let stored : after (Keep copy) c.in_ok-row.row store ≡ merged_one now client own found store
    = ap (λ (d : Content). after (Keep d) c.in_ok-row.row store) copied
    ∙ ap (λ (row : AuditRow). after (Keep own) row store) c.in_ok-row.ensures
    ∙ stored_is now client own found op store does in (
      told,
      subst (λ (s : Store). g.H.Shelf.stands c.commit.new.self s) stored
          (c.in_ok-commit.ensures.ok store (c.in_ok-outcome.ensures.read.store store stands) is.keyed (subst (λ (d : Content). HasPlace store.resources d) (sym copied) place)),
      subst (λ (s : Store). IsStore base s) (stored_is now client own found op store does) (IsStore-keep base own (merge_row now client op own) store is below place),
    )
