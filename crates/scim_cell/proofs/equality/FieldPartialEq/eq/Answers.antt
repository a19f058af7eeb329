use Rattle.scim_cell.specs.Equality.{is_same_field-Decides}
use Rattle.scim_cell.proofs.EqualityLemmas.{second_decides}
use Rattle.scim_cell.proofs.equality.FieldPartialEq.eq.Goals as goal

pub returns-then-eq-clause-exact : goal.returns-then-eq-clause-exact
returns-then-eq-clause-exact c = second_decides _ _ _ _ c.eq.ensures c.if-eq.true c.eq-then-eq.ensures.value (is_same_field-Decides _ _)
