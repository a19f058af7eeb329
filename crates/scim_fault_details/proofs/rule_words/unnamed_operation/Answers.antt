use Rattle.std.specs.Prelude.{is_none}
use Rattle.scim_schema.specs.Lookup.{operation_named}
use Rattle.scim_fault_details.proofs.WordLemmas.{found_under}
use Rattle.scim_fault_details.proofs.rule_words.unnamed_operation.Goals as goal

pub returns : goal.returns
returns c = found_under (λ t. is_none (operation_named t)) _ _ _ _ c.first_unnamed_operation.ensures c.deref.ensures.value c.in_ok-ops.ensures
