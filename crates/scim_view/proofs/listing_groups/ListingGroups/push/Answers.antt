use Rattle.std.proofs.Common.{◌≡◌, sym, ◌∙◌, ap, true, false, [], ◌∷◌, ◌++◌}
use Rattle.scim_cell.specs.Ids.{id_text}
use Rattle.scim_value.specs.Members.{lists}
use Rattle.scim_policy.specs.PatternTable.{rules_in}
use Rattle.scim_view.specs.View.{decision_in, visible_by}
use Rattle.scim_view.specs.code.Memberships.{kept_of, tells_of}
use Rattle.scim_view.proofs.ListingLemmas.{more_told, more_untold}
use Rattle.scim_view.proofs.listing_groups.ListingGroups.push.Goals as goal

pub returns-in_ok-push : goal.returns-in_ok-push
unfolding visible_by
returns-in_ok-push c v id groups decides listed old =
    let rules = rules_in c.args.patterns.now in
    let g = c.args.group.now in
    let text = c.write-member.ensures.value ∙ ap id_text old.member in
    let lists_it : lists id c.part.result.now ≡ true = ap (lists id) c.part.ensures.value ∙ listed in
    let told : tells_of rules id g ≡ true = ap (tells_of rules id) (sym c.part.ensures.value) ∙ sym (c.in_ok-tells_of.ensures id text lists_it) ∙ c.if-branch.true in
    let own : c.in_ok-seen_group.field-0 ≡ kept_of (visible_by (decision_in rules) g) = λ i. record { id = c.in_ok-seen_group.ensures.id i; display = c.in_ok-seen_group.ensures.display i } in
    record {
      member = old.member;
      gathered = c.in_ok-push.ensures.items
          ∙ (λ i. old.gathered i ++ own i ∷ [])
          ∙ sym (more_told rules v id groups g c.part.ensures.valid.part decides told);
    }

pub returns-else-branch : goal.returns-else-branch
returns-else-branch c v id groups decides listed old =
    let rules = rules_in c.args.patterns.now in
    let g = c.args.group.now in
    let text = c.write-member.ensures.value ∙ ap id_text old.member in
    let lists_it : lists id c.part.result.now ≡ true = ap (lists id) c.part.ensures.value ∙ listed in
    let none : tells_of rules id g ≡ false = ap (tells_of rules id) (sym c.part.ensures.value) ∙ sym (c.in_ok-tells_of.ensures id text lists_it) ∙ c.if-branch.false in
    record {
      member = old.member;
      gathered = old.gathered ∙ sym (more_untold rules v id groups g c.part.ensures.valid.part decides none);
    }
