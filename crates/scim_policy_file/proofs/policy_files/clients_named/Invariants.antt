use Rattle.scim_policy_file.specs.Paths.{client_named}
use Rattle.scim_policy_file.specs.code.Written.{text_at}
use Rattle.scim_policy_file.proofs.ListLemmas.{IsMade}
use Rattle.scim_policy_file.proofs.policy_files.clients_named.Given as goal

-- the clients so far are those that the texts before this one name
abbrev pub invariant-loop-text : goal.invariant-loop-text
invariant-loop-text l = IsMade text_at client_named l.clients.items l.text-index l.texts
