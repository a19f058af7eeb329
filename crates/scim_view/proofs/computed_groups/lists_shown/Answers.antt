use Rattle.std.proofs.Common.{◌≡◌, sym, ◌∙◌, ap, Bool, true, false, ◌&&◌, ◌||◌, drop, ◌∷◌, ◌+◌}
use Rattle.std.specs.List.{list_any}
use Rattle.std.proofs.Math.Bool.{and-false}
use Rattle.std.proofs.Math.ListN.{drop_of_length-le}
use Rattle.std.proofs.lemmas.List.{at_drop_more}
use Rattle.scim_schema.specs.declared.Leaf.{Leaf}
use Rattle.scim_schema.specs.declared.Unit.{Unit as AttributeUnit}
use Rattle.scim_schema.specs.declared.Attribute.TheVariants.{Members}
use Rattle.scim_schema.specs.declared.SubAttribute.TheVariants.{Value}
use Rattle.scim_schema.specs.Units.{leaf_at, whole}
use Rattle.scim_cell.specs.Rows.{Row, rows, values, atom_in}
use Rattle.scim_policy.specs.declared.rules.Decision.{Decision}
use Rattle.scim_policy.specs.PatternTable.{rules_in}
use Rattle.scim_value.specs.Members.{is_text}
use Rattle.scim_view.specs.View.{decision_in}
use Rattle.scim_view.specs.code.Index.{names_shown}
use Rattle.scim_view.specs.code.Memberships.{names_id}
use Rattle.scim_view.proofs.MemberLemmas.{members_open}
use Rattle.scim_view.proofs.computed_groups.lists_shown.Goals as goal
use Rattle.scim_view.proofs.computed_groups.lists_shown.Goals.{else-is_text-via-then-is_text+in_ok-decide_in+else-branch, else-is_text-via-else-is_text}

pub returns-then-branch : goal.returns-then-branch
returns-then-branch c id is =
    let d = decision_in (rules_in c.args.patterns.now) in
    let g = c.args.group.now in
    let vs = c.values-row-items.result.now in
    let m = c.row-item.result in
    let i = c.loop-row.row-index in
    let shown = names_shown d id in
    let named : names_id id m ≡ true = sym (c.is_text.ensures ∙ (λ j. is_text (is j) ((c.get.ensures ∙ ap (λ (l : Leaf). atom_in l m.fields) c.of-value.ensures) j))) ∙ c.if-is_text.true in
    let allowed : (d m (leaf_at Members Value)).allow ≡ true = ap (λ (l : Leaf). (d m l).allow) (sym c.of-value.ensures) ∙ ap (λ (e : Decision). e.allow) (sym c.in_ok-decide_in.ensures) ∙ c.if-branch.true in
    let here : shown m ≡ true = λ j. named j && allowed j in
    sym (at_drop_more (list_any shown) vs i m c.loop-row-test.true ∙ ap (λ (q : Row). list_any shown (q ∷ drop (i + 1) vs)) (sym c.row-item.is) ∙ ap (λ (b : Bool). b || list_any shown (drop (i + 1) vs)) here)
    ∙ c.loop-row.invariant id is
    ∙ ap (list_any shown) (c.values-row-items.ensures.rows ∙ ap (λ (u : AttributeUnit). values u (rows g)) c.whole.ensures)
    ∙ sym (members_open d id g.kind (values (whole Members) (rows g)))

pub loop-row-preserved : goal.loop-row-preserved
loop-row-preserved c id is =
    let d = decision_in (rules_in c.args.patterns.now) in
    let vs = c.values-row-items.result.now in
    let m = c.row-item.result in
    let i = c.loop-row.row-index in
    let shown = names_shown d id in
    let named : c.is_text.result ≡ names_id id m = c.is_text.ensures ∙ (λ j. is_text (is j) ((c.get.ensures ∙ ap (λ (l : Leaf). atom_in l m.fields) c.of-value.ensures) j)) in
    let passed = λ (none : shown m ≡ false).
    sym (at_drop_more (list_any shown) vs i m c.loop-row-test.true ∙ ap (λ (q : Row). list_any shown (q ∷ drop (i + 1) vs)) (sym c.row-item.is) ∙ ap (λ (b : Bool). b || list_any shown (drop (i + 1) vs)) none)
    ∙ c.loop-row.invariant id is in
    elim c.else-is_text.branch [
      | else-is_text-via-then-is_text+in_ok-decide_in+else-branch w ↦
          let denied : (d m (leaf_at Members Value)).allow ≡ false = ap (λ (l : Leaf). (d m l).allow) (sym c.of-value.ensures) ∙ ap (λ (e : Decision). e.allow) (sym w.in_ok-decide_in.ensures) ∙ w.if-branch.false in
          passed (ap (λ (b : Bool). names_id id m && b) denied ∙ and-false (names_id id m))
      | else-is_text-via-else-is_text w ↦ passed (ap (λ (b : Bool). b && (d m (leaf_at Members Value)).allow) (sym named ∙ w.if-is_text.false))
    ]

pub returns : goal.returns
returns c id is =
    let d = decision_in (rules_in c.args.patterns.now) in
    let g = c.args.group.now in
    let vs = c.values-row-items.result.now in
    sym (ap (list_any (names_shown d id)) (drop_of_length-le vs c.loop-row-test.false))
    ∙ c.loop-row.invariant id is
    ∙ ap (list_any (names_shown d id)) (c.values-row-items.ensures.rows ∙ ap (λ (u : AttributeUnit). values u (rows g)) c.whole.ensures)
    ∙ sym (members_open d id g.kind (values (whole Members) (rows g)))
