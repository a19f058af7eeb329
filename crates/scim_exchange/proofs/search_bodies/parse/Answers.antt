use Rattle.std.proofs.Common.{◌≡◌, subst}
use Rattle.std.specs.Prelude.{Result}
use Rattle.serde_json.specs.Data.{Data}
use Rattle.scim_text.specs.Failures.{UnlessMemory}
use Rattle.scim_body.specs.View.{view}
use Rattle.scim_body.specs.declared.trees.Tree.{Tree}
use Rattle.scim_audit.specs.declared.refusals.Refusal.{Refusal}
use Rattle.scim_exchange.specs.Refused.{Tells}
use Rattle.scim_exchange.proofs.BodyLemmas.{value_of_text, no_value}
use Rattle.scim_exchange.proofs.search_bodies.parse.Goals as goal

pub returns-in-Ok : goal.returns-in-Ok
returns-in-Ok c =
    subst (λ (due : Result Data Refusal). UnlessMemory (Tells (λ (y : Data) (t : Tree). view t ≡ y) due) c.tree_of.result)
    (value_of_text c.args.body.now _ c.in-Ok.ensures.cases.0 c.in-Ok.ensures.cases.1) c.tree_of.ensures

pub returns-in-Err : goal.returns-in-Err
returns-in-Err c = no_value c.args.body.now c.in-Err.ensures.cases.0
