use Rattle.std.proofs.Common.{◌≡◌, ◌++◌, drop, map}
use Rattle.scim_cell.specs.declared.rows.Field.{Field}
use Rattle.scim_policy.specs.code.ValueWalk.{matching_paths}
use Rattle.scim_policy.proofs.ValueLemmas.{is_allowed_by}
use Rattle.scim_policy.proofs.patterns.Patterns.allowed.Given as goal

abbrev pub invariant-loop-field : goal.invariant-loop-field
invariant-loop-field l =
    let allows = λ (f : Field). is_allowed_by l.self (map matching_paths l.matching.items) f.leaf in
    l.allowed.items ++ map allows (drop l.field-index l.value.fields) ≡ map allows l.value.fields
