use Rattle.std.proofs.Common.{◌≡◌, false, sym, subst}
use Rattle.scim_cell.specs.Rows.{rows}
use Rattle.scim_view.specs.Groups.{has_groups}
use Rattle.scim_view.specs.View.{viewer_of}
use Rattle.scim_search.specs.declared.view_builders.ViewScope.{ViewScope}
use Rattle.scim_search.specs.ViewBuilders.{made, IsIndexed}
use Rattle.scim_search.proofs.view_builders.ViewBuilder.may_have_groups.Goals as goal

pub returns-in-Whole : goal.returns-in-Whole
returns-in-Whole c fails groups is =
    let viewer = viewer_of c.args.self.now.viewer.now in
    subst (λ (s : ViewScope). has_groups (rows (made viewer groups s c.args.resource.now)) ≡ false) (sym c.in-Whole.is)
    (c.has_groups.ensures.none fails viewer groups (subst (IsIndexed viewer groups) c.in-Whole.is is.index))
