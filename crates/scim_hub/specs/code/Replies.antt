-- The results of functions that answer items.
use Rattle.std.specs.Prelude.{◌≡◌, ℕ, Bool, List, ◌++◌, map, Option, None, Some, Result, Ok, Err, IfOk, string_bytes}
use Rattle.scim_policy.specs.Rules.{Rule}
use Rattle.scim_shelf.specs.Stores.{Store, IsStore}
use Rattle.scim_text.specs.declared.memory.NoMemory.{NoMemory}
use Rattle.scim_wire.specs.declared.messages.Item.{Item}
use Rattle.scim_wire.specs.declared.messages.Message.{Message}
use Rattle.scim_token.specs.TokenFile.{Entry}
use Rattle.scim_exchange.specs.declared.exchanges.Arrival.{Arrival}
use Rattle.scim_hub.specs.declared.answering.Reply.{Reply}
use Rattle.scim_hub.specs.declared.answering.Serving.{Serving}
use Rattle.scim_hub.specs.declared.answering.Serving.TheVariants.{Live, Lost}
use Rattle.scim_hub.specs.declared.answering.Replies.{Replies}
use Rattle.scim_hub.specs.declared.events.Stamp.{Stamp}
use Rattle.scim_hub.specs.declared.events.Output.{Output}
use Rattle.scim_hub.specs.Answering.{IsReplied, IsAnswered, AreAnswered}
use Rattle.scim_hub.specs.Events.{hub_outputs, writing}
use Rattle.scim_hub.specs.HubStates.{output_of}

-- the store that requests are answered over: the one that the shelf contains if the service answers them, and
-- otherwise any store, which stays as it is
abbrev pub IsOver : {H : Type 0} → Serving → (H → Store → Type 0) → Option Store → H → Store → Type 0
IsOver Live Stands None shelf store = Stands shelf store
IsOver Lost Stands (Some held) shelf store = store ≡ held
IsOver _ Stands held shelf store = ⊥

-- the reply has this text, and `closing` tells whether it closes the connection, unless the result is
-- `NoMemory`
abbrev pub Says : Result Reply NoMemory → List ℕ → Bool → Type 0
Says result text closing = IfOk result (λ reply. (string_bytes reply.text ≡ text) × (reply.closes ≡ closing))

-- the message was answered, even if the result is `NoMemory`
abbrev pub IsReplyToMessage : List Rule → List ℕ → Arrival → Message → Store → Result Reply NoMemory → Store → Type 0
IsReplyToMessage policy base arrival message store result next =
    (text : List ℕ) × (closing : Bool) × IsReplied policy base arrival message store text closing next × Says result text closing

-- the item was answered, even if the result is `NoMemory`
abbrev pub IsReplyToItem : List Rule → List ℕ → List Entry → Stamp → ℕ → Item → Store → Result Reply NoMemory → Store → Type 0
IsReplyToItem policy base entries stamp k item store result next =
    (text : List ℕ) × (closing : Bool) × IsAnswered policy base entries stamp k item store text closing next × Says result text closing

-- all items were answered with these outputs
abbrev pub AreAllAnswered : List Rule → List ℕ → List Entry → Stamp → ℕ → List Item → Store → List Output → Bool → Store → Type 0
AreAllAnswered policy base entries stamp n items store outputs closed next =
    (texts : List (List ℕ)) × AreAnswered policy base entries stamp 0 items store texts closed next × (map output_of outputs ≡ hub_outputs n texts closed)

-- a prefix of the items was answered, and `next` is the store after it
abbrev pub IsFrontAnswered : List Rule → List ℕ → List Entry → Stamp → List Item → Store → Store → Type 0
IsFrontAnswered policy base entries stamp items store next =
    (front : List Item) × (back : List Item) × (texts : List (List ℕ)) × (closed : Bool)
    × (items ≡ front ++ back)
    × AreAnswered policy base entries stamp 0 front store texts closed next

-- all items were answered, or a prefix of them if the result is `NoMemory`
abbrev pub AreReplies : List Rule → List ℕ → List Entry → Stamp → ℕ → List Item → Store → Result Replies NoMemory → Store → Type 0
AreReplies policy base entries stamp n items store (Ok replies) next = AreAllAnswered policy base entries stamp n items store replies.outputs.items replies.closed next
AreReplies policy base entries stamp n items store (Err e) next = IsFrontAnswered policy base entries stamp items store next

-- whatever items follow, the items `front` are answered first, with these texts, and change the store from
-- `store` to `mid`
abbrev pub GoesBefore : List Rule → List ℕ → List Entry → Stamp → List Item → Store → List (List ℕ) → ℕ → Store → Type 0
GoesBefore policy base entries stamp front store texts k mid =
    (tail : List Item) (rest : List (List ℕ)) (closed : Bool) (next : Store)
    → AreAnswered policy base entries stamp k tail mid rest closed next
    → AreAnswered policy base entries stamp 0 (front ++ tail) store (texts ++ rest) closed next

-- the items so far were answered with these outputs for the connection, and the shelf contains the store
-- after them
abbrev pub IsReached : {H : Type 0} → (H → Store → Type 0) → H → List Rule → List ℕ → List Entry → Stamp → ℕ → List Item → Store → ℕ → List Output → Type 0
IsReached Stands shelf policy base entries stamp n front store k outputs =
    (mid : Store) × (texts : List (List ℕ)) × Stands shelf mid × IsStore base mid
    × GoesBefore policy base entries stamp front store texts k mid
    × (map output_of outputs ≡ map (writing n) texts)

-- the items so far and the next one were answered, and the shelf contains the store after them
abbrev pub IsNextAnswered : {H : Type 0} → (H → Store → Type 0) → H → List Rule → List ℕ → List Entry → Stamp → ℕ → List Item → Store → ℕ → List Output → Item → Result Reply NoMemory → Type 0
IsNextAnswered Stands shelf policy base entries stamp n front store k outputs item result =
    (next : Store) × (mid : Store) × (texts : List (List ℕ)) × (text : List ℕ) × (closing : Bool) × Stands shelf next × IsStore base next
    × GoesBefore policy base entries stamp front store texts k mid
    × (map output_of outputs ≡ map (writing n) texts)
    × IsAnswered policy base entries stamp k item mid text closing next
    × Says result text closing
