use Rattle.std.proofs.Common.{rules, ◌≡◌, ◌∙◌, Err}
use Rattle.serde_json.specs.View.{view}
use Rattle.scim_text.proofs.Facts.{IfBecause-weaker}
use Rattle.scim_json.proofs.ReadingLemmas.{document_kind, document_id, no_part, one_part}
use Rattle.scim_json.proofs.stored_documents.resource_in.Goals as goal

pub returns-in_default-clause-damaged : goal.returns-in_default-clause-damaged
returns-in_default-clause-damaged c d is =
    c.in_default.not-Some d.kind (document_kind c.args.base.now (view c.args.value.now) c.kind_in.result c.kind_in.ensures d is)

pub returns-in_default-id_in-clause-damaged : goal.returns-in_default-id_in-clause-damaged
returns-in_default-id_in-clause-damaged c d is =
    c.in_default-id_in.not-Some d.id (document_id c.args.base.now (view c.args.value.now) c.id_in.result c.id_in.ensures d is)

pub returns-in_err-part-clause-damaged : goal.returns-in_err-part-clause-damaged
returns-in_err-part-clause-damaged c =
    let same : c.from_residual.result ≡ Err c.in_err-part.field-0.0 = search rules in
    rw same (IfBecause-weaker c.in_err-part.field-0.0 _ _ (λ damaged. no_part c.args.base.now (view c.args.value.now) c.in-Some.kind c.in-Some-id_in.id c.in-Some.ensures c.in-Some-id_in.ensures)
    c.in_err-part.ensures.damaged)

pub returns-in-Err-clause-damaged : goal.returns-in-Err-clause-damaged
returns-in-Err-clause-damaged c d is =
    let part = c.in_ok-part.part in
    let same : part ≡ d = one_part c.args.base.now (view c.args.value.now) c.in-Some.kind c.in-Some-id_in.id c.in-Some.ensures c.in-Some-id_in.ensures part c.in_ok-part.ensures.kind c.in_ok-part.ensures.id c.in_ok-part.ensures.cells d is in
    let wrong = c.in-Err.ensures.valid.1 (rw same is.0) in cc

pub returns-in-Ok-clause-only : goal.returns-in-Ok-clause-only
returns-in-Ok-clause-only c d is =
    let part = c.in_ok-part.part in
    c.in-Ok.ensures.value
    ∙ one_part c.args.base.now (view c.args.value.now) c.in-Some.kind c.in-Some-id_in.id c.in-Some.ensures c.in-Some-id_in.ensures part c.in_ok-part.ensures.kind c.in_ok-part.ensures.id c.in_ok-part.ensures.cells d is
