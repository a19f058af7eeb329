use Rattle.std.proofs.Common.{◌≡◌, sym, ◌∙◌, ap, subst, Bool, List, take, ◌+◌, ◌++◌, ◌∷◌, [], ℕ}
use Rattle.std.specs.List.{list_any}
use Rattle.std.proofs.lemmas.List.{take_more}
use Rattle.scim_schema.specs.declared.Attribute.TheVariants.{Members}
use Rattle.scim_schema.specs.declared.SubAttribute.TheVariants.{Value}
use Rattle.scim_schema.specs.Units.{whole, leaf_at}
use Rattle.scim_cell.specs.Content.{Content}
use Rattle.scim_cell.specs.Rows.{Row, rows, values, atom_in}
use Rattle.scim_value.specs.Members.{is_text, lists}
use Rattle.scim_view.specs.declared.listing_groups.ListingGroups.{ListingGroups}
use Rattle.scim_view.specs.View.{viewer_of}
use Rattle.scim_view.specs.Listings.{AreListing}
use Rattle.scim_view.proofs.ListingLemmas.{more_unlisted}
use Rattle.scim_view.proofs.listing_groups.ListingGroups.of_id.Goals as goal
use Rattle.scim_view.proofs.listing_groups.ListingGroups.of_id.Goals.{then-lists+in_ok-patterns+in_ok-push, else-lists}

-- whether the group has a member with this value
abbrev has_member : List ℕ → Content → Bool
has_member t g = list_any (λ (m : Row). is_text t (atom_in (leaf_at Members Value) m.fields)) (values (whole Members) (rows g))

pub loop-group-init : goal.loop-group-init
loop-group-init c = c.new-listing.ensures (viewer_of c.args.viewer.now)

pub loop-group-preserved : goal.loop-group-preserved
loop-group-preserved c =
    let viewer = viewer_of c.args.viewer.now in
    let id = c.args.id in
    let gs = c.args.groups.now in
    let i = c.loop-group.group-index in
    let g = c.group-item.result in
    let h = c.loop-group.invariant in
    let more : take (i + 1) gs ≡ take i gs ++ g ∷ [] = take_more gs i g c.loop-group-test.true ∙ ap (λ (x : Content). take i gs ++ x ∷ []) (sym c.group-item.is) in
    let own : c.lists.result ≡ lists id g = c.lists.ensures ∙ (λ k. has_member (c.write-member.ensures.value k) (c.part.ensures.value k)) in
    elim c.if-lists.branch [
      | then-lists+in_ok-patterns+in_ok-push w ↦
          subst (λ (l : ListingGroups). AreListing viewer id (take (i + 1) gs) l) (sym w.listing-is)
          (subst (λ (xs : List Content). AreListing viewer id xs w.push.new.self) (sym more)
          (w.in_ok-push.ensures viewer id (take i gs) w.in_ok-patterns.ensures (sym own ∙ w.if-lists.true) h))
      | else-lists w ↦
          subst (λ (l : ListingGroups). AreListing viewer id (take (i + 1) gs) l) (sym w.listing-is)
          (subst (λ (xs : List Content). AreListing viewer id xs c.loop-group.listing) (sym more)
          (record { member = h.member; gathered = h.gathered ∙ sym (more_unlisted viewer id (take i gs) g c.part.ensures.valid.part (sym own ∙ w.if-lists.false)) }))
    ]
