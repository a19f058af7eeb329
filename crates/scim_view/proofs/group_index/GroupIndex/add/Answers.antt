use Rattle.std.proofs.Common.{◌≡◌, refl, sym, ◌∙◌, ap, List, ℕ, Bool, true, ◌&&◌, ◌++◌, ◌∷◌, [], length}
use Rattle.std.specs.Prelude.{if◌then◌else◌, vec_len}
use Rattle.std.specs.List.{list_any}
use Rattle.std.proofs.Math.Bool.{and-false, and-true}
use Rattle.scim_schema.specs.declared.Attribute.TheVariants.{Members}
use Rattle.scim_schema.specs.declared.SubAttribute.TheVariants.{Value}
use Rattle.scim_schema.specs.Units.{leaf_at, whole}
use Rattle.scim_cell.specs.Rows.{rows, values}
use Rattle.scim_filter.specs.Truth.{truth_in_value}
use Rattle.scim_policy.specs.declared.rules.Decision.{Decision}
use Rattle.scim_policy.specs.Patterns.{decided_for}
use Rattle.scim_policy.specs.PatternTable.{last_decision, rules_in}
use Rattle.scim_view.specs.declared.group_index.GroupIndex.{GroupIndex}
use Rattle.scim_view.specs.View.{decision_in, visible_by}
use Rattle.scim_view.specs.code.Index as spec
use Rattle.scim_view.specs.code.Memberships.{kept_of, names_id}
use Rattle.scim_view.proofs.IndexLemmas.{added}
use Rattle.scim_view.proofs.MemberLemmas.{named_alike, shown_member}
use Rattle.scim_view.proofs.group_index.GroupIndex.add.Goals as goal
use Rattle.scim_view.proofs.group_index.GroupIndex.add.Goals.{then-not-is_plain_on+in_ok-add_shown_members, else-not-is_plain_on+then-last+in_ok-add_members, else-not-is_plain_on+else-last}

pub returns : goal.returns
unfolding visible_by
returns c gs h =
    let ps = c.args.patterns.now in
    let d = decision_in (rules_in ps) in
    let g = c.args.group.now in
    let v = visible_by d g in
    let old = c.args.self.now in
    let s = c.in_ok-seen.ensures in
    let members = c.values-members.result.now in
    let last = last_decision ps (leaf_at Members Value) in
    let seen : c.in_ok-seen.seen ≡ kept_of v = λ i. record { id = s.id i; display = s.display i } in
    let own : members ≡ values (whole Members) (rows g)
    = c.values-members.ensures.rows ∙ ap (λ p. values c.whole.result (rows p)) c.part.ensures.value ∙ ap (λ u. values u (rows g)) c.whole.ensures in
    let shown = λ (id : List ℕ). sym (shown_member d id g c.part.ensures.valid.part ∙ ap (list_any (spec.names_shown d id)) (sym own)) in
    let place : vec_len old.groups ≡ length old.groups.items = old.groups.ok.0 in
    let alike = λ (plain : c.is_plain_on.result ≡ true) (id : List ℕ).
    named_alike d last id members (λ m. ap (decided_for (λ t. truth_in_value t m)) (c.is_plain_on.ensures plain (leaf_at Members Value) refl)) in
    elim c.if-not-is_plain_on.branch [
      | then-not-is_plain_on+in_ok-add_shown_members w ↦
          let same : c.if-not-is_plain_on.self.groups ≡ old.groups = ap (λ (x : GroupIndex). x.groups) w.self-is ∙ w.add_shown_members.ensures.groups in
          added gs v old _ h
          (c.in_ok-push.ensures.items ∙ (λ i. (same i).items ++ seen i ∷ []))
          (λ id valid.
          ap (λ (x : GroupIndex). spec.positions_of x id) w.self-is ∙ w.in_ok-add_shown_members.ensures.positions id valid
          ∙ ap (λ (k : ℕ). if list_any (spec.names_shown d id) members then spec.noted k (spec.positions_of old id) else spec.positions_of old id) place
          ∙ ap (λ (b : Bool). if b then spec.noted (length old.groups.items) (spec.positions_of old id) else spec.positions_of old id) (shown id))
      | else-not-is_plain_on+then-last+in_ok-add_members w ↦
          let plain = w.if-not-is_plain_on.false in
          let allowed : w.last.result.allow ≡ last.allow = ap (λ (e : Decision). e.allow) (w.last.ensures ∙ ap (last_decision ps) c.of-value.ensures) in
          let all = λ (id : List ℕ). sym (alike plain id ∙ ap (λ (b : Bool). list_any (names_id id) members && b) (sym allowed ∙ w.if-last.true) ∙ and-true _) in
          let same : c.if-not-is_plain_on.self.groups ≡ old.groups = ap (λ (x : GroupIndex). x.groups) w.self-is ∙ w.add_members.ensures.groups in
          added gs v old _ h
          (c.in_ok-push.ensures.items ∙ (λ i. (same i).items ++ seen i ∷ []))
          (λ id valid.
          ap (λ (x : GroupIndex). spec.positions_of x id) w.self-is ∙ w.in_ok-add_members.ensures.positions id valid
          ∙ ap (λ (k : ℕ). if list_any (names_id id) members then spec.noted k (spec.positions_of old id) else spec.positions_of old id) place
          ∙ ap (λ (b : Bool). if b then spec.noted (length old.groups.items) (spec.positions_of old id) else spec.positions_of old id) (all id ∙ shown id))
      | else-not-is_plain_on+else-last w ↦
          let plain = w.if-not-is_plain_on.false in
          let allowed : w.last.result.allow ≡ last.allow = ap (λ (e : Decision). e.allow) (w.last.ensures ∙ ap (last_decision ps) c.of-value.ensures) in
          let none = λ (id : List ℕ). sym (alike plain id ∙ ap (λ (b : Bool). list_any (names_id id) members && b) (sym allowed ∙ w.if-last.false) ∙ and-false _) in
          added gs v old _ h
          (c.in_ok-push.ensures.items ∙ (λ i. (w.self-is i).groups.items ++ seen i ∷ []))
          (λ id valid.
          ap (λ (x : GroupIndex). spec.positions_of x id) w.self-is
          ∙ ap (λ (b : Bool). if b then spec.noted (length old.groups.items) (spec.positions_of old id) else spec.positions_of old id) (none id ∙ shown id))
    ]
