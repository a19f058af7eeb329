use Rattle.std.specs.Cmp.Lexicographic.{pointwise}
use Rattle.scim_schema.specs.Units.{is_same_unit}
use Rattle.scim_cell.specs.Equality.{is_same_field, is_same_row-Decides}
use Rattle.scim_cell.proofs.EqualityLemmas.{second_decides}
use Rattle.scim_cell.proofs.equality.RowPartialEq.eq.Goals as goal

pub returns-then-eq-clause-exact : goal.returns-then-eq-clause-exact
returns-then-eq-clause-exact c =
    let own = c.args.self.now in
    let other = c.args.other.now in
    let units = rw (c.unit.ensures, c.unit-2.ensures) at c.eq.ensures in
    let fields = rw (c.fields.ensures, c.fields-then-eq.ensures) at c.eq-then-eq.ensures in
    second_decides c.eq.result (is_same_unit own.unit other.unit) c.eq-then-eq.result (pointwise is_same_field own.fields other.fields)
    units c.if-eq.true fields (is_same_row-Decides own other)
