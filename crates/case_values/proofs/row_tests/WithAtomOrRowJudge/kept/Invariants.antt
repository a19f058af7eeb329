use Rattle.std.proofs.Common.{◌≡◌, ◌||◌, Some, take, map}
use Rattle.std.specs.Option.{option_eq}
use denote.Enum.Bare.{sameb}
use Rattle.scim_schema.specs.contracts.SubAttribute.{the_type as the_sub_attribute}
use Rattle.scim_cell.specs.declared.rows.Field.{Field}
use Rattle.scim_cell.specs.Atoms.{is_same_atom}
use Rattle.scim_cell.specs.Rows.{atom_in}
use Rattle.case_values.proofs.row_tests.WithAtomOrRowJudge.kept.Given as goal

abbrev pub invariant-loop-field : goal.invariant-loop-field
invariant-loop-field l =
    let keeps = λ (f : Field). option_eq is_same_atom (atom_in l.self.whole.leaf l.row.fields) (Some l.self.whole.atom) || option_eq (sameb the_sub_attribute) f.leaf.sub_attribute (Some l.self.other.sub_attribute) in
    l.kept.items ≡ map keeps (take l.field-index l.row.fields)
