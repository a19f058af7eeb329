use Rattle.std.proofs.Common.{sym, subst}
use Rattle.scim_view.specs.declared.listing_groups.ListingGroups.{ListingGroups}
use Rattle.scim_view.specs.View.{viewer_of}
use Rattle.scim_search.specs.GroupsBeside.{TellGroups}
use Rattle.scim_search.proofs.groups_of_resource.groups_beside.Goals as goal

pub returns-clause-groups : goal.returns-clause-groups
returns-clause-groups g c store stands honest base is =
    let viewer = viewer_of c.args.viewer.now in
    subst (λ (gs : ListingGroups). TellGroups viewer store.resources c.args.resource.now gs) (sym c.end.ensures)
    (c.in_ok-gather_groups.ensures.groups store stands honest base viewer c.args.resource.now is (sym c.kind.ensures) (sym c.id-id.ensures) (c.in_ok-listing.ensures store.resources)).1
