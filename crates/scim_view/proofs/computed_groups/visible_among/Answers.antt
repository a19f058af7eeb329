use Rattle.std.proofs.Common.{◌≡◌, sym, ◌∙◌, ap, map, List}
use Rattle.std.proofs.lemmas.Result.{IfOk-weaker}
use denote.Ref.{Bor}
use Rattle.scim_cell.specs.Content.{Content}
use Rattle.scim_cell.specs.Rows.{Row}
use Rattle.scim_policy.specs.PatternTable.{rules_in}
use Rattle.scim_view.specs.declared.computed_groups.SeenGroup.{SeenGroup}
use Rattle.scim_view.specs.View.{decision_in}
use Rattle.scim_view.specs.Groups as spec
use Rattle.scim_view.specs.code.Memberships.{kept_cmp}
use Rattle.scim_view.specs.Sorted.{sorted_by}
use Rattle.scim_view.proofs.GroupLemmas.{map_lent}
use Rattle.scim_view.proofs.computed_groups.visible_among.Goals as goal

pub returns : goal.returns
returns c =
    let d = decision_in (rules_in c.args.patterns.now) in
    let base = c.args.base.now in
    let own = c.args.resource.now in
    let made : SeenGroup → Row = λ g. spec.membership_of base g.id g.display in
    let lent : map (λ (g : Bor SeenGroup). g.now) c.as_slice.result.now ≡ sorted_by kept_cmp c.args.groups.now =
    ap (map (λ (g : Bor SeenGroup). g.now)) c.as_slice.ensures.value ∙ c.in_ok-put_in_order.ensures ∙ ap (sorted_by kept_cmp) c.in_ok-lent.ensures in
    let same = sym (map_lent base c.as_slice.result.now) ∙ ap (map made) lent in
    IfOk-weaker c.visible_with.result
    (λ (p : Content). p ≡ spec.visible_with d (map (spec.membership_at base) c.as_slice.result.now) own)
    (λ (p : Content). p ≡ spec.visible_with d (map made (sorted_by kept_cmp c.args.groups.now)) own)
    (λ p e. e ∙ ap (λ (ms : List Row). spec.visible_with d ms own) same) c.visible_with.ensures
