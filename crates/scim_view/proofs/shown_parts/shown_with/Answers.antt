use Rattle.std.proofs.Common.{◌≡◌, sym, ◌∙◌, ap, subst, false, map}
use Rattle.std.proofs.lemmas.Result.{IfOk-weaker}
use denote.Enum.Bare.{sameb, same_true}
use Rattle.scim_schema.specs.contracts.Kind.{the_type as the_kind}
use Rattle.scim_schema.specs.declared.Kind.{Kind}
use Rattle.scim_schema.specs.declared.Kind.TheVariants.{User}
use Rattle.scim_schema.specs.declared.Attribute.TheVariants.{Groups}
use Rattle.scim_schema.specs.Units.{whole}
use Rattle.scim_cell.specs.Content.{Content}
use Rattle.scim_cell.specs.Rows.{AreValues, rows, content, put_values, restricted}
use Rattle.scim_policy.specs.PatternTable.{rules_in}
use Rattle.scim_view.specs.View.{decision_in}
use Rattle.scim_view.specs.Groups.{membership_at, visible_with}
use Rattle.scim_view.specs.Shown.{shown}
use Rattle.scim_view.specs.code.ShownCells.{seen_and_shown}
use Rattle.scim_view.proofs.GroupLemmas.{membership_rows}
use Rattle.scim_view.proofs.ShownPartLemmas.{other_shown, shown_values, user_shown}
use Rattle.scim_view.proofs.shown_parts.shown_with.Goals as goal

pub put-requires : goal.put-requires
put-requires c =
    let d = decision_in (rules_in c.args.patterns.now) in
    let w = c.args.wanted.now in
    let ms = map (membership_at c.args.base.now) c.args.groups.now in
    let whose = sym (same_true the_kind tt _ _ (sym c.eq.ensures ∙ c.if-eq.true)) ∙ c.kind.ensures ∙ ap (λ (p : Content). p.kind) c.part.ensures.value ∙ ap (λ (p : Content). p.kind) (sym c.in_ok-part.ensures) in
    rw (c.whole.ensures, c.in_ok-values.ensures)
    (subst (λ (k : Kind). AreValues k (whole Groups) (restricted (seen_and_shown d User w) ms)) whose
    (shown_values w d ms (membership_rows c.args.base.now c.args.groups.now)))

pub returns-in_ok-values : goal.returns-in_ok-values
returns-in_ok-values c =
    let d = decision_in (rules_in c.args.patterns.now) in
    let w = c.args.wanted.now in
    let own = c.args.resource.now in
    let ms = map (membership_at c.args.base.now) c.args.groups.now in
    let left = c.in_ok-part.part in
    let user : own.kind ≡ User = sym (c.kind.ensures ∙ ap (λ (p : Content). p.kind) c.part.ensures.value) ∙ same_true the_kind tt _ _ (sym c.eq.ensures ∙ c.if-eq.true) in
    IfOk-weaker c.put.result
    (λ (p : Content). p ≡ content left.kind left.id (put_values c.whole.result c.in_ok-values.values.items (rows left)))
    (λ (p : Content). p ≡ shown w (visible_with d ms own))
    (λ p e.
    e ∙ (λ i. content left.kind left.id (put_values (c.whole.ensures i) (c.in_ok-values.ensures i) (rows left)))
    ∙ user_shown w d ms own left c.part.ensures.valid.part (membership_rows c.args.base.now c.args.groups.now) user c.in_ok-part.ensures)
    c.put.ensures.whole

pub returns-else-eq : goal.returns-else-eq
returns-else-eq c =
    let d = decision_in (rules_in c.args.patterns.now) in
    let own = c.args.resource.now in
    let other : sameb the_kind own.kind User ≡ false = (λ i. sameb the_kind (sym (c.kind.ensures ∙ ap (λ (p : Content). p.kind) c.part.ensures.value) i) User) ∙ sym c.eq.ensures ∙ c.if-eq.false in
    c.in_ok-part.ensures ∙ other_shown c.args.wanted.now d (map (membership_at c.args.base.now) c.args.groups.now) own c.part.ensures.valid.part (membership_rows c.args.base.now c.args.groups.now) other
