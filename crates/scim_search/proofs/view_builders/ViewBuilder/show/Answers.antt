use Rattle.std.proofs.Common.{sym, subst, [], ◌++◌}
use Rattle.scim_view.specs.Groups.{and_those}
use Rattle.scim_view.specs.View.{viewer_of}
use Rattle.scim_query.specs.Pagers.{HasTaken}
use Rattle.scim_search.specs.declared.view_builders.ViewScope.{ViewScope}
use Rattle.scim_search.specs.ViewBuilders.{made, made_part}
use Rattle.scim_search.proofs.VisitLemmas.{ok_by}
use Rattle.scim_search.proofs.view_builders.ViewBuilder.show.Goals as goal

pub returns-in-Named-clause-taken : goal.returns-in-Named-clause-taken
returns-in-Named-clause-taken c =
    ok_by c.show_named.result _ _
    (λ taken groups parts is own was.
    let viewer = viewer_of c.args.self.now.viewer.now in
    subst (λ (s : ViewScope). HasTaken (parts ++ and_those (made_part (made viewer groups s) viewer c.args.resource.now) []) c.show_named.new.pager) (sym c.in-Named.is)
    (taken viewer parts own was))
    c.show_named.ensures.taken
