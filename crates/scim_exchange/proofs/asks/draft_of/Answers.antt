use Rattle.std.proofs.Common.{◌≡◌, subst}
use Rattle.std.specs.Prelude.{Result}
use Rattle.scim_text.specs.Failures.{UnlessMemory}
use Rattle.scim_audit.specs.declared.refusals.Refusal.{Refusal}
use Rattle.scim_body.specs.Drafts.{Draft}
use Rattle.scim_exchange.specs.Refused.{Tells}
use Rattle.scim_exchange.proofs.BodyLemmas.{draft_of_text, no_draft}
use Rattle.scim_exchange.proofs.asks.draft_of.Goals as goal

pub returns-in-Ok : goal.returns-in-Ok
returns-in-Ok c =
    subst (λ (due : Result Draft Refusal). UnlessMemory (Tells (λ (y d : Draft). d ≡ y) due) c.draft_in.result)
    (draft_of_text c.args.use_for c.args.kind c.args.body.now _ c.in-Ok.ensures.cases.0 c.in-Ok.ensures.cases.1) c.draft_in.ensures

pub returns-in-Err : goal.returns-in-Err
returns-in-Err c = no_draft c.args.use_for c.args.kind c.args.body.now c.in-Err.ensures.cases.0
