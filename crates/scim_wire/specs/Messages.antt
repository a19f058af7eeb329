-- The messages of a stream of requests, and the items that are read from the stream (RFC 9112).
use Rattle.std.specs.Prelude.{◌≡◌, ℕ, ◌⊎◌, ◌&&◌, List, [], ◌∷◌, ◌++◌, Result, Ok, Err, All, if◌then◌else◌}
use Rattle.std.specs.List.{flat_map}
use Rattle.scim_audit.specs.declared.refusals.Refusal.{Refusal}
use Rattle.scim_audit.specs.declared.refusals.Refusal.TheVariants.{BadHead}
use Rattle.scim_wire.specs.declared.message_heads.MessageHead.{MessageHead}
use Rattle.scim_wire.specs.declared.messages.Item.{Item}
use Rattle.scim_wire.specs.declared.messages.Item.TheVariants.{Continue, Whole, Refused}
use Rattle.scim_wire.specs.declared.messages.Message.{Message}
use Rattle.scim_wire.specs.Bodies.{has_body, IsBody, IsBodyPart, IsBadBody}
use Rattle.scim_wire.specs.MessageHeads.{ReadsMessage}
use Rattle.scim_wire.specs.Parts.{IsHeadText, IsOverlong}
use Rattle.scim_wire.specs.Streams.{OpensThen, IsUnended}

-- `read` is the contents of the head with this text, or the refusal of the head; the refusal is `BadHead` if
-- the text exceeds a limit
abbrev pub Says : List ℕ → Result MessageHead Refusal → Type 0
Says text read = (IsHeadText text × ReadsMessage text read) ⊎ (IsOverlong text × (read ≡ Err BadHead))

-- the bytes consist of empty lines, the text of a head, and the bytes `after`; `read` is the contents of the
-- head, or the refusal of the head
abbrev pub OpensSaying : List ℕ → Result MessageHead Refusal → List ℕ → Type 0
OpensSaying bytes read after = OpensThen (λ text. Says text read) bytes after

-- the item `Continue` if the client may wait for 100 (Continue) before it sends the body (RFC 9110 section
-- 10.1.1)
abbrev pub announced : MessageHead → List Item
announced head = if head.expects_continue && has_body head.framing then Continue ∷ [] else []

-- the message with this head and this body
abbrev pub message_of : MessageHead → List ℕ → Message
message_of head body =
    record { method = head.method; target = head.target; token = head.token; body = body; close = head.close }

-- the bytes are exactly the message `message`, and `head` is the head of this message
pub record IsMessage (bytes : List ℕ) (head : MessageHead) (message : Message) : Type 0 where
  pub after : List ℕ
  pub opens : OpensSaying bytes (Ok head) after
  pub is_body : IsBody head.framing after message.body
  pub made_of : message ≡ message_of head message.body

-- the bytes are the beginning of an unfinished message, and these items are read from them
abbrev pub LeavesUnfinished : List ℕ → List Item → Type 0
LeavesUnfinished bytes items =
    (IsUnended bytes × (items ≡ []))
    ⊎ ((head : MessageHead) × (after : List ℕ) × OpensSaying bytes (Ok head) after × IsBodyPart head.framing after
    × (items ≡ announced head))

-- the head or the body after it is refused; `items` are the items that are read, and the last item is the
-- refusal
abbrev pub GivesRefusal : Result MessageHead Refusal → List ℕ → List Item → Type 0
GivesRefusal (Err refusal) after items = items ≡ Refused refusal ∷ []
GivesRefusal (Ok head) after items =
    (refusal : Refusal) × IsBadBody head.framing after refusal × (items ≡ announced head ++ Refused refusal ∷ [])

-- the bytes are refused, whatever follows them, and these items are read from them
abbrev pub LeavesRefused : List ℕ → List Item → Type 0
LeavesRefused bytes items =
    (read : Result MessageHead Refusal) × (after : List ℕ) × OpensSaying bytes read after × GivesRefusal read after items

-- the bytes after the last whole message are unfinished or refused, and these items are read from them
abbrev pub Leaves : List ℕ → List Item → Type 0
Leaves bytes items = LeavesUnfinished bytes items ⊎ LeavesRefused bytes items

-- a message on a stream, with its bytes and its head
pub record Turn : Type 0 where
  pub bytes : List ℕ
  pub head : MessageHead
  pub message : Message

-- `turn.bytes` are the bytes of `turn.message`, and `turn.head` is the head of this message
abbrev pub IsTurn : Turn → Type 0
IsTurn turn = IsMessage turn.bytes turn.head turn.message

-- the items that are read from a message on a stream
abbrev pub turn_items : Turn → List Item
turn_items turn = announced turn.head ++ Whole turn.message ∷ []

-- the stream consists of these messages, followed by `rest`
pub record Splits (stream : List ℕ) (turns : List Turn) (rest : List ℕ) : Type 0 where
  pub each : All IsTurn turns
  pub split : stream ≡ flat_map (λ t. t.bytes) turns ++ rest

-- the stream has these items: first the items of its whole messages, then the items of the bytes after them
abbrev pub HasItems : List ℕ → List Item → Type 0
HasItems stream items =
    (turns : List Turn) × (rest : List ℕ) × (last : List Item)
    × Splits stream turns rest × Leaves rest last × (items ≡ flat_map turn_items turns ++ last)
