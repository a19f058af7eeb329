use Rattle.std.proofs.Common.{◌≡◌, ◌∙◌}
use Rattle.std.specs.Prelude.{Option}
use Rattle.std.proofs.lemmas.Result.{IfOk-weaker}
use Rattle.scim_cell.specs.Content.{Content}
use Rattle.scim_policy.specs.PatternTable.{rules_in}
use Rattle.scim_view.specs.View as spec
use Rattle.scim_view.proofs.ViewLemmas.{same_view}
use Rattle.scim_view.proofs.viewers.Viewer.view.Goals as goal

pub returns : goal.returns
returns c =
    IfOk-weaker c.view_by.result (λ (o : Option Content). o ≡ spec.view_by (rules_in c.in_ok-patterns.patterns) c.args.resource.now)
    (λ (o : Option Content). o ≡ spec.view (spec.viewer_of c.args.self.now) c.args.resource.now)
    (λ o e. e ∙ same_view _ (spec.viewer_of c.args.self.now) c.args.resource.now c.in_ok-patterns.ensures) c.view_by.ensures
