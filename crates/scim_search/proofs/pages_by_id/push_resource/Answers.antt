use Rattle.std.proofs.Common.{sym, subst, []}
use Rattle.std.specs.Prelude.{Option}
use Rattle.scim_cell.specs.Content.{Content}
use Rattle.scim_view.specs.Groups.{and_those}
use Rattle.scim_view.specs.View.{viewer_of}
use Rattle.scim_search.specs.PagesById.{seen_of, TakesParts}
use Rattle.scim_search.proofs.pages_by_id.push_resource.Goals as goal

pub returns-clause-taken : goal.returns-clause-taken
returns-clause-taken g c store stands honest base is tells =
    let part = c.in_ok-part.ensures.part store stands honest base is tells in
    let viewer = viewer_of c.args.viewer.now in (
      part.0,
      subst (λ (o : Option Content). TakesParts c.args.pager.now (seen_of viewer store.resources (and_those o [])) c.push_if_seen.new.pager) (sym c.in-Some.is)
          (subst (λ (o : Option Content). TakesParts c.args.pager.now (and_those o []) c.push_if_seen.new.pager) part.1 c.in_ok-push_if_seen.ensures.taken),
    )
