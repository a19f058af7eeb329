use Rattle.std.proofs.Common.{◌≡◌, ◌∙◌}
use Rattle.std.proofs.lemmas.Result.{IfOk-weaker}
use Rattle.scim_cell.specs.Content.{Content}
use Rattle.scim_view.specs.View.{viewer_of}
use Rattle.scim_view.specs.Groups as spec
use Rattle.scim_view.specs.code.Memberships.{telling}
use Rattle.scim_view.proofs.ListingLemmas.{told_alike}
use Rattle.scim_view.proofs.viewers.Viewer.with_groups.Goals as goal

pub returns : goal.returns
returns c =
    let viewer = viewer_of c.args.self.now in
    let groups = c.args.groups.now in
    let own = c.args.resource.now in
    IfOk-weaker c.with_groups_by.result _
    (λ (p : Content). p ≡ spec.with_groups viewer groups own)
    (λ p told. told (telling own groups) c.in_ok-patterns.ensures c.in_ok-listing.ensures ∙ told_alike viewer groups own)
    c.with_groups_by.ensures
