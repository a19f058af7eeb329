-- The text that `once` writes for an input, and its faults.
use Rattle.std.specs.Prelude.{◌≡◌, ◌⊎◌, ⊤, ℕ, true, false, List, Some, Result, Ok, Err, IsOk}
use Rattle.scim_audit.specs.declared.refusals.Refusal.{Refusal}
use Rattle.scim_audit.specs.declared.refusals.Refusal.TheVariants.{Store as NoStore}
use Rattle.scim_cell.specs.Content.{Content}
use Rattle.scim_json.specs.Documents.{IsDocumentsText}
use Rattle.scim_policy.specs.Rules.{Rule}
use Rattle.scim_policy_file.specs.File.{policy_of}
use Rattle.scim_shelf.specs.Stores.{Store, IsNewStore}
use Rattle.scim_wire.specs.declared.messages.Message.{Message}
use Rattle.scim_wire.specs.Replies.{whole_form, form_of}
use Rattle.scim_exchange.specs.declared.answers.Answer.{Answer}
use Rattle.scim_exchange.specs.declared.exchanges.Arrival.{Arrival}
use Rattle.scim_exchange.specs.Replies.{refusal_text, answer_text}
use Rattle.scim_exchange.specs.Exchanges.{Exchanged}
use Rattle.scim_command.specs.declared.faults.RunFault.{RunFault}
use Rattle.scim_command.specs.declared.faults.RunFault.TheVariants.{Policy, Users, InputEnded, InputFailed, Output, NoMemory}
use Rattle.scim_command.specs.declared.run_once.Setting.{Setting}
use Rattle.scim_command.specs.Inputs.{OpensWith}

-- the text is a users file of resources below the base URL, and the store is the new store with these
-- resources
pub record IsStoreOf (base text : List ℕ) (store : Store) : Type 0 where
  pub resources : List Content
  pub documents : IsDocumentsText base text resources
  pub is_new : IsNewStore resources store

-- the arrival of the message: the sender is the setting's client, whatever token the message has, the time is
-- the setting's, and a new resource gets the setting's id
abbrev pub arrival_of : Setting → Arrival
arrival_of s = record { client = Some s.client; moment = s.at; fresh = s.first }

-- the text is the answer to the message with this arrival, this policy and this store, whose resources are
-- below the base URL; the service may fail for any cause
abbrev pub IsReplyTo : List Rule → List ℕ → Arrival → Store → Message → List ℕ → Type 0
IsReplyTo policy base arrival store message text =
    (answer : Answer) × (next : Store)
    × Exchanged policy base (λ _. ⊤) arrival message store answer next
    × (text ≡ answer_text answer (form_of message))

-- the text is the reply to this first message, or the reply for this refusal, which closes the connection
abbrev pub IsReplyToFirst : List Rule → List ℕ → Arrival → Store → Result Message Refusal → List ℕ → Type 0
IsReplyToFirst policy base arrival store (Ok message) text = IsReplyTo policy base arrival store message text
IsReplyToFirst policy base arrival store (Err refusal) text = text ≡ refusal_text refusal (whole_form true)

-- the text is the answer to the input: the reply to the first message or refusal that is read from the input,
-- or, if memory runs out, the reply for the refusal `Store`, with a body
abbrev pub IsAnswer : List Rule → List ℕ → Arrival → Store → List ℕ → List ℕ → Type 0
IsAnswer policy base arrival store input text =
    ((first : Result Message Refusal) × OpensWith input first × IsReplyToFirst policy base arrival store first text)
    ⊎ (text ≡ refusal_text NoStore (whole_form false))

-- both files of the setting are valid: the policy file, and the users file of resources below the base URL
pub record AreSound (s : Setting) : Type 0 where
  pub policy : IsOk (policy_of s.policy.now)
  pub resources : List Content
  pub users : IsDocumentsText s.base.now s.users.now resources

-- the text is the answer to the input with the policy and the users of the setting's files
pub record Answers (s : Setting) (input text : List ℕ) : Type 0 where
  pub policy : List Rule
  pub store : Store
  pub allows : policy_of s.policy.now ≡ Ok policy
  pub holds : IsStoreOf s.base.now s.users.now store
  pub answer : IsAnswer policy s.base.now (arrival_of s) store input text

-- the faults of `once`: an invalid policy file or users file, an input that ends early or can't be read, a
-- failed write, or failed allocation
abbrev pub IsOnceFault : RunFault → Type 0
IsOnceFault (Policy rule cause) = Unit {0}
IsOnceFault (Users n) = Unit {0}
IsOnceFault InputEnded = Unit {0}
IsOnceFault InputFailed = Unit {0}
IsOnceFault Output = Unit {0}
IsOnceFault NoMemory = Unit {0}
IsOnceFault _ = ⊥
