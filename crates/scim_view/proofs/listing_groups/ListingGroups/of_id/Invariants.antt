use Rattle.std.proofs.Common.{take}
use Rattle.scim_view.specs.View.{viewer_of}
use Rattle.scim_view.specs.Listings.{AreListing}
use Rattle.scim_view.proofs.listing_groups.ListingGroups.of_id.Given as goal

abbrev pub invariant-loop-group : goal.invariant-loop-group
invariant-loop-group l = AreListing (viewer_of l.viewer) l.fn.id (take l.group-index l.groups) l.listing
