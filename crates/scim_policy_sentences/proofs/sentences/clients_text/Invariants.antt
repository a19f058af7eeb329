use Rattle.std.proofs.Common.{◌≡◌, map, take, string_bytes}
use Rattle.scim_policy_sentences.specs.Sentences as spec
use Rattle.scim_policy_sentences.proofs.sentences.clients_text.Given as goal

-- the words so far are those of the clients before this one
abbrev pub invariant-loop-client : goal.invariant-loop-client
invariant-loop-client l = map string_bytes l.words.items ≡ map spec.client_word (take l.client-index l.clients)
