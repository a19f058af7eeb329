use Rattle.std.proofs.Common.{◌≡◌, subst}
use Rattle.std.specs.Prelude.{Result}
use Rattle.scim_text.specs.Failures.{UnlessMemory}
use Rattle.scim_audit.specs.declared.refusals.Refusal.{Refusal}
use Rattle.scim_patch_steps.specs.Patch.{Patch}
use Rattle.scim_patch_steps.specs.Kept.{Kept, patch_of}
use Rattle.scim_exchange.specs.Refused.{Tells}
use Rattle.scim_exchange.proofs.BodyLemmas.{patch_of_text, no_patch}
use Rattle.scim_exchange.proofs.asks.patch_by.Goals as goal

pub returns-in-Ok : goal.returns-in-Ok
returns-in-Ok c =
    subst (λ (due : Result Patch Refusal). UnlessMemory (Tells (λ (y : Patch) (p : Kept). patch_of p ≡ y) due) c.patch_in_text.result)
    (patch_of_text c.args.kind c.args.body.now _ c.in-Ok.ensures.cases.0 c.in-Ok.ensures.cases.1) c.patch_in_text.ensures

pub returns-in-Err : goal.returns-in-Err
returns-in-Err c = no_patch c.args.kind c.args.body.now c.in-Err.ensures.cases.0
