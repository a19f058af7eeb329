use Rattle.std.proofs.Common.{◌≡◌, sym, ◌∙◌, ap, map, List}
use Rattle.std.proofs.lemmas.Result.{IfOk-weaker}
use denote.Ref.{Bor}
use Rattle.scim_schema.specs.declared.Leaf.{Leaf}
use Rattle.scim_cell.specs.Content.{Content}
use Rattle.scim_cell.specs.Rows.{Row}
use Rattle.scim_policy.specs.PatternTable.{rules_in}
use Rattle.scim_view.specs.declared.computed_groups.SeenGroup.{SeenGroup}
use Rattle.scim_view.specs.View.{decision_in, read_rules, viewer_of}
use Rattle.scim_view.specs.Groups as spec
use Rattle.scim_view.specs.Listings.{AreListing}
use Rattle.scim_view.specs.Shown.{shown}
use Rattle.scim_view.specs.code.Memberships.{kept_cmp}
use Rattle.scim_view.specs.Sorted.{sorted_by}
use Rattle.scim_view.proofs.GroupLemmas.{map_lent}
use Rattle.scim_view.proofs.ListingLemmas.{told}
use Rattle.scim_view.proofs.viewers.Viewer.shown_with_groups.Goals as goal

pub returns : goal.returns
returns c =
    let rules = rules_in c.args.patterns.now in
    let viewer = viewer_of c.args.self.now in
    let own = c.args.resource.now in
    let w = c.args.wanted.now in
    let made : SeenGroup → Row = λ g. spec.membership_of viewer.base g.id g.display in
    let kept = c.as_slice.result.now in
    let lent : map (λ (g : Bor SeenGroup). g.now) c.as_slice-2.result.now ≡ sorted_by kept_cmp kept =
    ap (map (λ (g : Bor SeenGroup). g.now)) c.as_slice-2.ensures.value ∙ c.in_ok-put_in_order.ensures ∙ ap (sorted_by kept_cmp) c.in_ok-lent.ensures in
    let same : map (spec.membership_at viewer.base) c.as_slice-2.result.now ≡ map made (sorted_by kept_cmp kept) = sym (map_lent viewer.base c.as_slice-2.result.now) ∙ ap (map made) lent in
    IfOk-weaker c.shown_with.result
    (λ (p : Content). p ≡ shown w (spec.visible_with (decision_in rules) (map (spec.membership_at viewer.base) c.as_slice-2.result.now) own))
    (λ (p : Content). (gs : List Content) → ((l : Leaf) → rules l ≡ read_rules viewer own l) → AreListing viewer own.id gs c.args.groups.now → p ≡ shown w (spec.with_groups viewer gs own))
    (λ p e gs same_rules listing.
    e ∙ ap (λ (ms : List Row). shown w (spec.visible_with (decision_in rules) ms own)) same
    ∙ ap (shown w) (told rules viewer gs own kept same_rules (c.as_slice.ensures ∙ listing.gathered)))
    c.shown_with.ensures
