use Rattle.std.proofs.Common.{◌≡◌, sym, ◌∙◌, ap, Bool, true, false, ◌&&◌, map}
use Rattle.std.specs.List.{list_any}
use Rattle.std.proofs.lemmas.Result.{IfOk-weaker}
use denote.Enum.Bare.{sameb}
use Rattle.scim_schema.specs.contracts.Attribute.{the_type as the_attribute}
use Rattle.scim_cell.specs.declared.rows.Field.{Field}
use Rattle.scim_policy.specs.PatternTable.{rules_in}
use Rattle.scim_view.specs.View.{decision_in, may_be_seen}
use Rattle.scim_view.proofs.views.MayBeSeenOfRowJudge.kept.Goals as goal

pub returns-then-belongs_to : goal.returns-then-belongs_to
returns-then-belongs_to c =
    let row = c.args.row.now in
    let seen = c.args.self.now.seen in
    let shows : Field → Bool = λ f. may_be_seen (decision_in (rules_in seen.patterns.now)) seen.kind row f.leaf in
    let listed : list_any (sameb the_attribute row.unit.attribute) c.args.self.now.attributes.now ≡ true = sym c.belongs_to.ensures ∙ c.if-belongs_to.true in
    IfOk-weaker c.kept.result _ _ (λ v e. e ∙ sym (ap (λ (b : Bool). map (λ (f : Field). b && shows f) row.fields) listed)) c.kept.ensures

pub returns-else-belongs_to : goal.returns-else-belongs_to
returns-else-belongs_to c =
    let row = c.args.row.now in
    let seen = c.args.self.now.seen in
    let shows : Field → Bool = λ f. may_be_seen (decision_in (rules_in seen.patterns.now)) seen.kind row f.leaf in
    let other : list_any (sameb the_attribute row.unit.attribute) c.args.self.now.attributes.now ≡ false = sym c.belongs_to.ensures ∙ c.if-belongs_to.false in
    IfOk-weaker c.none_kept.result _ _ (λ v e. e ∙ sym (ap (λ (b : Bool). map (λ (f : Field). b && shows f) row.fields) other)) c.none_kept.ensures
