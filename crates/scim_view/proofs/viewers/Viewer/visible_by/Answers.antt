use Rattle.std.proofs.Common.{◌≡◌, ◌∙◌}
use Rattle.std.proofs.lemmas.Result.{IfOk-weaker}
use Rattle.scim_cell.specs.Content.{Content}
use Rattle.scim_policy.specs.PatternTable.{rules_in}
use Rattle.scim_view.specs.View as spec
use Rattle.scim_view.specs.View.{decision_in}
use Rattle.scim_view.proofs.ViewLemmas.{same_visible}
use Rattle.scim_view.proofs.viewers.Viewer.visible_by.Goals as goal

pub returns : goal.returns
returns c =
    IfOk-weaker c.visible_by.result (λ (p : Content). p ≡ spec.visible_by (decision_in (rules_in c.args.patterns.now)) c.args.resource.now)
    (λ (p : Content). p ≡ spec.visible (spec.viewer_of c.args.self.now) c.args.resource.now)
    (λ p e. e ∙ same_visible _ _ c.args.resource.now c.requires) c.visible_by.ensures
