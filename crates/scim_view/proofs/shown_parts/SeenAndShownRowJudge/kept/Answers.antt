use Rattle.std.proofs.Common.{◌≡◌, sym, ◌∙◌, ap, Bool, true, false, ◌&&◌, map}
use Rattle.std.specs.Prelude.{not}
use Rattle.std.specs.List.{list_any}
use Rattle.std.proofs.lemmas.Result.{IfOk-weaker}
use denote.Enum.Bare.{sameb}
use Rattle.scim_schema.specs.contracts.Attribute.{the_type as the_attribute}
use Rattle.scim_cell.specs.declared.rows.Field.{Field}
use Rattle.scim_policy.specs.PatternTable.{rules_in}
use Rattle.scim_view.specs.View.{decision_in}
use Rattle.scim_view.specs.code.ShownCells.{seen_and_shown}
use Rattle.scim_view.proofs.shown_parts.SeenAndShownRowJudge.kept.Goals as goal

pub returns-then-belongs_to : goal.returns-then-belongs_to
returns-then-belongs_to c =
    let row = c.args.row.now in
    let self = c.args.self.now in
    let keeps : Field → Bool = λ f. seen_and_shown (decision_in (rules_in self.seen.patterns.now)) self.seen.kind self.wanted.now row f.leaf in
    let unshown : list_any (sameb the_attribute row.unit.attribute) self.unshown.now ≡ true = sym c.belongs_to.ensures ∙ c.if-belongs_to.true in
    IfOk-weaker c.none_kept.result _ _ (λ v e. e ∙ sym (ap (λ (b : Bool). map (λ (f : Field). not b && keeps f) row.fields) unshown)) c.none_kept.ensures

pub returns-else-belongs_to : goal.returns-else-belongs_to
returns-else-belongs_to c =
    let row = c.args.row.now in
    let self = c.args.self.now in
    let keeps : Field → Bool = λ f. seen_and_shown (decision_in (rules_in self.seen.patterns.now)) self.seen.kind self.wanted.now row f.leaf in
    let other : list_any (sameb the_attribute row.unit.attribute) self.unshown.now ≡ false = sym c.belongs_to.ensures ∙ c.if-belongs_to.false in
    IfOk-weaker c.kept_beside.result _ _ (λ v e. e ∙ sym (ap (λ (b : Bool). map (λ (f : Field). not b && keeps f) row.fields) other)) c.kept_beside.ensures
