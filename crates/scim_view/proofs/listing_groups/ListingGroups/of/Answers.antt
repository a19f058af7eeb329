use Rattle.std.proofs.Common.{◌≡◌, sym, ◌∙◌, ap, subst, ℕ, List, []}
use Rattle.std.specs.Prelude.{if◌then◌else◌}
use denote.Enum.Bare.{sameb}
use Rattle.scim_schema.specs.contracts.Kind.{the_type as the_kind}
use Rattle.scim_schema.specs.declared.Kind.{Kind}
use Rattle.scim_schema.specs.declared.Kind.TheVariants.{User}
use Rattle.scim_cell.specs.Content.{Content}
use Rattle.scim_view.specs.View.{viewer_of}
use Rattle.scim_view.specs.Listings.{AreListing}
use Rattle.scim_view.specs.code.Memberships.{telling}
use Rattle.scim_view.proofs.listing_groups.ListingGroups.of.Goals as goal

pub returns-in-Group : goal.returns-in-Group
returns-in-Group c =
    let viewer = viewer_of c.args.viewer.now in
    let own = c.args.resource.now in
    let groups = c.args.groups.now in
    let none : telling own groups ≡ [] = ap (λ (k : Kind). if sameb the_kind k User then groups else []) (sym c.kind.ensures ∙ c.in-Group.is) in
    subst (λ (xs : List Content). AreListing viewer own.id xs c.new.result) (sym none) (subst (λ (id : List ℕ). AreListing viewer id [] c.new.result) c.id-in-Group.ensures (c.new.ensures viewer))
