use Rattle.std.proofs.Common.{◌≡◌, refl, sym, ◌∙◌, ap, List, ℕ, Bool, true, false, ◌&&◌}
use Rattle.std.specs.Prelude.{not, Option}
use Rattle.std.specs.Option.{option_copied}
use Rattle.std.specs.FinMap.{get}
use Rattle.std.proofs.lemmas.Result.{IfOk-weaker}
use Rattle.scim_schema.specs.declared.Kind.{Kind}
use Rattle.scim_schema.specs.declared.Leaf.{Leaf}
use Rattle.scim_schema.specs.declared.Attribute.TheVariants.{DisplayName}
use Rattle.scim_schema.specs.Mutability.{is_write_only}
use Rattle.scim_schema.specs.Units.{simple}
use Rattle.scim_cell.specs.Place.{place_at}
use Rattle.scim_cell.specs.Rows.{Row}
use Rattle.scim_value.proofs.Facts.{get_cell, sound_part}
use Rattle.scim_policy.specs.declared.patterns.Patterns.{Patterns}
use Rattle.scim_policy.specs.PatternTable.{last_decision, rules_in}
use Rattle.scim_view.specs.View.{decision_in, may_be_seen, visible_by}
use Rattle.scim_view.specs.Groups as spec
use Rattle.scim_view.proofs.GroupLemmas.{shown_name, hidden_name}
use Rattle.scim_view.proofs.UncoveredLemmas.{uncovered_seen, uncovered_single}
use Rattle.scim_view.proofs.computed_groups.seen_name.Goals as goal

-- what the last rule lets be seen
abbrev shows : Patterns → Kind → Leaf → Bool
shows ps kind l = not (is_write_only kind l) && (last_decision ps l).allow

-- of the name it is what the pattern does
name_seen : (ps : Patterns) (kind : Kind) (r : Row) → shows ps kind (simple DisplayName) ≡ may_be_seen (decision_in (rules_in ps)) kind r (simple DisplayName)
name_seen ps kind r = uncovered_seen ps kind r (simple DisplayName) (uncovered_single (simple DisplayName) refl)

pub returns-then-shows : goal.returns-then-shows
returns-then-shows c =
    let ps = c.args.patterns.now in
    let d = decision_in (rules_in ps) in
    let g = c.args.group.now in
    let valid = c.part-part.ensures.valid.part in
    let shown : (r : Row) → may_be_seen d g.kind r (simple DisplayName) ≡ true
    = λ r. sym (name_seen ps g.kind r) ∙ (λ i. shows ps (sym c.kind.ensures i) (sym c.simple-name.ensures i)) ∙ sym c.shows.ensures ∙ c.if-shows.true in
    let there = c.get.ensures ∙ (λ i. get (c.part-part.ensures.value i).cells (place_at (c.simple-name.ensures i) 0)) ∙ get_cell g valid (sound_part g valid) (simple DisplayName) 0 in
    IfOk-weaker c.text_of.result (λ (n : Option (List ℕ)). n ≡ spec.text_in (option_copied c.get.result)) (λ (n : Option (List ℕ)). n ≡ spec.display_of (visible_by d g))
    (λ n e. e ∙ ap spec.text_in there ∙ sym (shown_name d g valid shown)) c.text_of.ensures

pub returns-else-shows : goal.returns-else-shows
returns-else-shows c =
    let ps = c.args.patterns.now in
    let d = decision_in (rules_in ps) in
    let g = c.args.group.now in
    let hidden : (r : Row) → may_be_seen d g.kind r (simple DisplayName) ≡ false
    = λ r. sym (name_seen ps g.kind r) ∙ (λ i. shows ps (sym c.kind.ensures i) (sym c.simple-name.ensures i)) ∙ sym c.shows.ensures ∙ c.if-shows.false in
    sym (hidden_name d g c.part-part.ensures.valid.part hidden)
