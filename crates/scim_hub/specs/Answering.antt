-- The answers to the items of an event, in order (RFC 9112 section 9.3.2).
use Rattle.std.specs.Prelude.{◌≡◌, ⊤, ℕ, ◌+◌, ◌%◌, ◌^◌, Bool, true, false, ◌||◌, List, [], ◌∷◌, ◌++◌, Option, None, Some, codes, MatchBool}
use Rattle.std.specs.Option.{option_copied}
use Rattle.std.specs.Int.{w128, to_be_bytes, from_be_bytes}
use Rattle.sha2.specs.Sha256.{sha256}
use Rattle.scim_audit.specs.declared.refusals.Refusal.{Refusal}
use Rattle.scim_audit.specs.declared.refusals.Refusal.TheVariants.{NoToken}
use Rattle.scim_audit.specs.Refusals.{closes}
use Rattle.scim_policy.specs.Rules.{Rule}
use Rattle.scim_shelf.specs.Stores.{Store}
use Rattle.scim_wire.specs.declared.messages.Message.{Message}
use Rattle.scim_wire.specs.declared.messages.Item.{Item}
use Rattle.scim_wire.specs.declared.messages.Item.TheVariants as item
use Rattle.scim_wire.specs.Replies.{crlf, whole_form, form_of}
use Rattle.scim_token.specs.TokenFile.{Entry, client_with}
use Rattle.scim_service.specs.Replies.{refusal_of}
use Rattle.scim_exchange.specs.declared.answers.Answer.{Answer}
use Rattle.scim_exchange.specs.declared.answers.Answer.TheVariants.{Refused, Page, Served}
use Rattle.scim_exchange.specs.declared.exchanges.Arrival.{Arrival}
use Rattle.scim_exchange.specs.Replies.{refusal_text, answer_text}
use Rattle.scim_exchange.specs.Exchanges.{Exchanged}
use Rattle.scim_hub.specs.declared.events.Stamp.{Stamp}

-- the text that tells a client to send the body (RFC 9110 section 15.2.1)
unfoldable pub continue_text : List ℕ
continue_text = codes "HTTP/1.1 100 Continue" ++ crlf ++ crlf

-- the id with the number of `first` plus k, modulo 2^128; an id is a number with the high byte first (RFC
-- 9562 section 4)
unfoldable pub id_after : List ℕ → ℕ → List ℕ
id_after first k = to_be_bytes w128 ((from_be_bytes w128 first + k) % 2 ^ 128)

-- the client that has the token; `None` if there is no token or no client has it
abbrev pub client_of : List Entry → Option (List ℕ) → Option (List ℕ)
client_of entries None = None
client_of entries (Some token) = client_with entries (sha256 token)

-- the arrival has the client with the message's token, the time of the event, and the event's first id plus
-- k, where k is the number of whole messages that precede this message in the event
pub record Arrives (entries : List Entry) (stamp : Stamp) (k : ℕ) (message : Message) (arrival : Arrival) : Type 0 where
  pub client : option_copied arrival.client ≡ client_of entries message.token
  pub moment : arrival.moment ≡ stamp.moment
  pub fresh : arrival.fresh ≡ id_after stamp.first k

-- whether there is a refusal that closes the connection
abbrev pub is_closing : Option Refusal → Bool
is_closing None = false
is_closing (Some refusal) = closes refusal

-- whether the answer is a refusal that closes the connection
abbrev pub closes_by_itself : Answer → Bool
closes_by_itself (Refused refusal) = closes refusal
closes_by_itself (Page page) = false
closes_by_itself (Served reply) = is_closing (refusal_of reply)

-- whether the answer refuses the message because no client has its token
abbrev pub refuses_token : Answer → Bool
refuses_token (Refused NoToken) = true
refuses_token _ = false

-- the reply to the message has this text, `closing` is whether the reply closes the connection, and `next` is
-- the store after the reply
pub record IsReplied (policy : List Rule) (base : List ℕ) (arrival : Arrival) (message : Message) (store : Store) (text : List ℕ) (closing : Bool)
    (next : Store) : Type 0 where
  pub answer : Answer
  pub exchanged : Exchanged policy base (λ _. ⊤) arrival message store answer next
  pub text_is : text ≡ answer_text answer (form_of message)
  pub closing_is : closing ≡ (message.close || closes_by_itself answer)

-- the number of whole messages in an item: 1 or 0
abbrev pub whole_count : Item → ℕ
whole_count (item.Whole message) = 1
whole_count _ = 0

module _ (policy : List Rule) (base : List ℕ) (entries : List Entry) (stamp : Stamp) where
  -- the reply to the item has this text, `closing` is whether the reply closes the connection, and `next` is
  -- the store after the reply; k is the number of whole messages that precede the item in its event
  abbrev pub IsAnswered : ℕ → Item → Store → List ℕ → Bool → Store → Type 0
  IsAnswered k item.Continue store text closing next = (text ≡ continue_text) × (closing ≡ false) × (next ≡ store)
  IsAnswered k (item.Refused refusal) store text closing next = (text ≡ refusal_text refusal (whole_form true)) × (closing ≡ true) × (next ≡ store)
  IsAnswered k (item.Whole message) store text closing next =
      (arrival : Arrival) × Arrives entries stamp k message arrival × IsReplied policy base arrival message store text closing next

  -- the replies to the items, which k whole messages precede in their event, have these texts: each item is
  -- answered with the store after the previous item, up to the first item whose reply closes the connection;
  -- later items are dropped
  abbrev pub AreAnswered : ℕ → List Item → Store → List (List ℕ) → Bool → Store → Type 0
  AreAnswered k [] store texts closed next = (texts ≡ []) × (closed ≡ false) × (next ≡ store)
  AreAnswered k (item ∷ items) store texts closed next =
      (text : List ℕ) × (closing : Bool) × (mid : Store)
      × IsAnswered k item store text closing mid
      × MatchBool closing
      ((texts ≡ text ∷ []) × (closed ≡ true) × (next ≡ mid))
      ((rest : List (List ℕ)) × (texts ≡ text ∷ rest) × AreAnswered (k + whole_count item) items mid rest closed next)
