use Rattle.std.specs.Prelude.{is_none}
use Rattle.scim_policy_file.specs.Paths.{client_named}
use Rattle.scim_fault_details.proofs.WordLemmas.{found_under}
use Rattle.scim_fault_details.proofs.rule_words.unnamed_client.Goals as goal

pub returns : goal.returns
returns c = found_under (λ t. is_none (client_named t)) _ _ _ _ c.first_unnamed_client.ensures c.deref.ensures.value c.in_ok-clients.ensures
