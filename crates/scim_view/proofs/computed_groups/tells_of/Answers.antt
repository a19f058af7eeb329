use Rattle.std.proofs.Common.{refl, sym, ◌∙◌, ap, Bool, ◌&&◌}
use Rattle.std.specs.Prelude.{not}
use Rattle.std.proofs.lemmas.Result.{IfOk-weaker}
use Rattle.scim_schema.specs.declared.Attribute.TheVariants.{Members}
use Rattle.scim_schema.specs.declared.SubAttribute.TheVariants.{Value}
use Rattle.scim_schema.specs.Units.{leaf_at}
use Rattle.scim_schema.specs.Mutability.{is_write_only}
use Rattle.scim_filter.specs.Truth.{truth_in_value}
use Rattle.scim_policy.specs.Patterns.{decided_for}
use Rattle.scim_policy.specs.PatternTable.{last_decision, rules_in}
use Rattle.scim_view.specs.View.{decision_in}
use Rattle.scim_view.specs.code.Memberships.{lists_shown}
use Rattle.scim_view.proofs.MemberLemmas.{shown_alike}
use Rattle.scim_view.proofs.computed_groups.tells_of.Goals as goal

pub returns-then-not-shows_id : goal.returns-then-not-shows_id
returns-then-not-shows_id c id is lists_it =
    let rules = rules_in c.args.patterns.now in
    let hidden = sym c.shows_id.ensures ∙ c.if-not-shows_id.true in
    sym (ap (λ (b : Bool). b && lists_shown (decision_in rules) id c.args.group.now) hidden)

pub returns-then-is_plain_on : goal.returns-then-is_plain_on
returns-then-is_plain_on c id is lists_it =
    let ps = c.args.patterns.now in
    let rules = rules_in ps in
    let g = c.args.group.now in
    let seen = sym c.shows_id.ensures ∙ c.if-not-shows_id.false in
    let last = last_decision ps (leaf_at Members Value) in
    let alike = shown_alike (decision_in rules) last id g (λ m. ap (decided_for (λ t. truth_in_value t m)) (c.is_plain_on.ensures c.if-is_plain_on.true (leaf_at Members Value) refl)) in
    c.shows.ensures
    ∙ (λ i. not (is_write_only (c.kind-kind.ensures i) (c.of.ensures i)) && (last_decision ps (c.of.ensures i)).allow)
    ∙ sym (alike ∙ ap (λ (b : Bool). b && (not (is_write_only g.kind (leaf_at Members Value)) && last.allow)) lists_it)
    ∙ sym (ap (λ (b : Bool). b && lists_shown (decision_in rules) id g) seen)

pub returns : goal.returns
returns c =
    let rules = rules_in c.args.patterns.now in
    let seen = sym c.shows_id.ensures ∙ c.if-not-shows_id.false in
    IfOk-weaker c.lists_shown.result _ _
    (λ b told id is lists_it. told id is ∙ sym (ap (λ (a : Bool). a && lists_shown (decision_in rules) id c.args.group.now) seen))
    c.lists_shown.ensures
