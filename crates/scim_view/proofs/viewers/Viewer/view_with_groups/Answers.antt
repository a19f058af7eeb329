use Rattle.std.proofs.Common.{◌≡◌, refl, sym, ◌∙◌, ap, true, false}
use Rattle.std.specs.Prelude.{Some}
use Rattle.scim_cell.specs.Content.{Content}
use Rattle.scim_policy.specs.PatternTable.{rules_in}
use Rattle.scim_view.specs.View.{viewer_of, sees}
use Rattle.scim_view.specs.code.Memberships.{telling}
use Rattle.scim_view.proofs.ListingLemmas.{told_alike}
use Rattle.scim_view.proofs.ViewLemmas.{same_sees}
use Rattle.scim_view.proofs.viewers.Viewer.view_with_groups.Goals as goal

pub returns-then-not-shows_id : goal.returns-then-not-shows_id
returns-then-not-shows_id c =
    let viewer = viewer_of c.args.self.now in
    let unseen : sees viewer c.args.resource.now ≡ false
    = sym (c.shows_id.ensures ∙ same_sees (rules_in c.in_ok-patterns.patterns) viewer c.args.resource.now c.in_ok-patterns.ensures) ∙ c.if-not-shows_id.true in
    rw unseen refl

pub returns : goal.returns
returns c =
    let viewer = viewer_of c.args.self.now in
    let groups = c.args.groups.now in
    let own = c.args.resource.now in
    let seen : sees viewer own ≡ true
    = sym (c.shows_id.ensures ∙ same_sees (rules_in c.in_ok-patterns.patterns) viewer own c.in_ok-patterns.ensures) ∙ c.if-not-shows_id.false in
    rw seen (ap (λ (p : Content). Some p) (c.in_ok-part.ensures (telling own groups) c.in_ok-patterns.ensures c.in_ok-listing.ensures ∙ told_alike viewer groups own))
