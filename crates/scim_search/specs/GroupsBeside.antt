-- The groups that appear in the `groups` of a resource (RFC 7643 section 4.1.2).
use Rattle.std.specs.Prelude.{◌≡◌, List}
use Rattle.scim_schema.specs.declared.Kind.TheVariants.{Group}
use Rattle.scim_cell.specs.Content.{Content}
use Rattle.scim_cell.specs.Kinds.{of_kind}
use Rattle.scim_view.specs.declared.listing_groups.ListingGroups.{ListingGroups}
use Rattle.scim_view.specs.View.{Viewer}
use Rattle.scim_view.specs.Groups.{with_groups}
use Rattle.scim_view.specs.Listings.{AreListing}

-- with the gathered groups, the viewer has the same view of the resource as with all groups of the store
pub record TellGroups (v : Viewer) (cs : List Content) (c : Content) (listing : ListingGroups) : Type 0 where
  pub groups : List Content
  pub gathered : AreListing v c.id groups listing
  pub same : with_groups v groups c ≡ with_groups v (of_kind Group cs) c
