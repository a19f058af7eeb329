use Rattle.std.proofs.Common.{◌≡◌, ◌∙◌, map, List}
use Rattle.scim_schema.specs.declared.Leaf.{Leaf}
use Rattle.std.proofs.lemmas.Result.{IfOk-weaker}
use Rattle.scim_cell.specs.Content.{Content}
use Rattle.scim_cell.specs.Rows.{Row}
use Rattle.scim_policy.specs.PatternTable.{rules_in}
use Rattle.scim_view.specs.declared.computed_groups.SeenGroup.{SeenGroup}
use Rattle.scim_view.specs.View.{decision_in, read_rules, viewer_of}
use Rattle.scim_view.specs.Groups as spec
use Rattle.scim_view.specs.Listings.{AreListing}
use Rattle.scim_view.specs.code.Memberships.{kept_cmp}
use Rattle.scim_view.specs.Sorted.{sorted_by}
use Rattle.scim_view.proofs.ListingLemmas.{told}
use Rattle.scim_view.proofs.viewers.Viewer.with_groups_by.Goals as goal

pub returns : goal.returns
returns c =
    let rules = rules_in c.args.patterns.now in
    let viewer = viewer_of c.args.self.now in
    let own = c.args.resource.now in
    let made : SeenGroup → Row = λ g. spec.membership_of viewer.base g.id g.display in
    IfOk-weaker c.visible_among.result
    (λ (p : Content). p ≡ spec.visible_with (decision_in rules) (map made (sorted_by kept_cmp c.as_slice.result.now)) own)
    (λ (p : Content). (gs : List Content) → ((l : Leaf) → rules l ≡ read_rules viewer own l) → AreListing viewer own.id gs c.args.groups.now → p ≡ spec.with_groups viewer gs own)
    (λ p e gs same listing. e ∙ told rules viewer gs own c.as_slice.result.now same (c.as_slice.ensures ∙ listing.gathered))
    c.visible_among.ensures
