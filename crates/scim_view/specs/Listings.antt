-- The groups that list one resource as a member, gathered one by one.
use Rattle.std.specs.Prelude.{◌≡◌, ℕ, List, map, filter}
use Rattle.scim_cell.specs.Content.{Content}
use Rattle.scim_value.specs.Members.{lists}
use Rattle.scim_view.specs.declared.listing_groups.ListingGroups.{ListingGroups}
use Rattle.scim_view.specs.View.{Viewer}
use Rattle.scim_view.specs.Groups.{seen}
use Rattle.scim_view.specs.code.Memberships.{kept_of}

-- the listing is for the resource with this id, and has those of the given groups in which the viewer sees the
-- resource as a member
pub record AreListing (v : Viewer) (id : List ℕ) (groups : List Content) (listing : ListingGroups) : Type 0 where
  pub member : listing.member ≡ id
  pub gathered : listing.groups.items ≡ map kept_of (filter (lists id) (seen v groups))
