-- Serving one stream: the pieces that were read from it, and the text that was written.
use Rattle.std.specs.Prelude.{◌≡◌, ◌≢◌, ◌<◌, ◌⊎◌, ⊤, ℕ, ◌+◌, ◌-◌, ◌^◌, min, Bool, false, true, not, List, [], ◌∷◌, ◌++◌, length, map, Option, None, Some, Result, Ok, Err, All, IsOk, IfOk, MatchResult, count_by}
use Rattle.std.specs.List.{FoldsTo, flat_map, list_any}
use Rattle.std.specs.Str.{bytes_eq}
use Rattle.std.specs.Io.KnownBytes.{Appends, Consumes, IsAtEnd}
use Rattle.scim_policy.specs.Rules.{Rule}
use Rattle.scim_wire.specs.Streams.{AppendsFront}
use Rattle.scim_token.specs.TokenFile.{Entry}
use Rattle.scim_hub.specs.declared.events.HubFault.{HubFault}
use Rattle.scim_hub.specs.declared.events.Stamp.{Stamp}
use Rattle.scim_hub.specs.declared.io_faults.IoFault.{IoFault}
use Rattle.scim_hub.specs.declared.io_faults.IoFault.TheVariants.{Write, Turns, Stamp as NoStamp, Hub}
use Rattle.scim_hub.specs.declared.streams.Served.{Served}
use Rattle.scim_hub.specs.Answering.{continue_text}
use Rattle.scim_hub.specs.Events.{HubEventKind, sending, HubEvent, HubState, HubOutput, writing, shutting, Joins, Leaves, Hears}

-- if the stamps returned so far are known, these stamps are appended to them
abbrev pub Grows : Option (List Stamp) → Option (List Stamp) → List Stamp → Type 0
Grows None new stamps = ⊤
Grows (Some xs) None stamps = ⊥
Grows (Some xs) (Some ys) stamps = ys ≡ xs ++ stamps

-- an event that the hub handled, and its result
pub record AnsweredEvent : Type 0 where
  pub event : HubEvent
  pub done : Result (List HubOutput) HubFault

-- the bytes of a piece; empty for other events
abbrev pub bytes_in : HubEventKind → List ℕ
bytes_in (sending bytes) = bytes
bytes_in _ = []

-- the concatenated bytes of the pieces of these events, in order
abbrev pub bytes_of : List AnsweredEvent → List ℕ
bytes_of turns = flat_map (λ t. bytes_in t.event.kind) turns

-- the text that an output writes; empty if it shuts the connection
abbrev pub text_in : HubOutput → List ℕ
text_in (writing n text) = text
text_in (shutting n) = []

-- the text that is written for the result of an event; empty after an error
abbrev pub text_done : Result (List HubOutput) HubFault → List ℕ
text_done (Ok hub_outputs) = flat_map text_in hub_outputs
text_done (Err fault) = []

-- the concatenated text that is written for the results of these events, in order
abbrev pub text_of : List AnsweredEvent → List ℕ
text_of turns = flat_map (λ t. text_done t.done) turns

-- whether an output writes a reply, that is, a text other than 100 (Continue)
abbrev pub is_reply : HubOutput → Bool
is_reply (writing n text) = not (bytes_eq text continue_text)
is_reply (shutting n) = false

-- the number of replies written for the result of an event
abbrev pub replies_done : Result (List HubOutput) HubFault → ℕ
replies_done (Ok hub_outputs) = count_by is_reply hub_outputs
replies_done (Err fault) = 0

-- the number of replies written for the results of these events
abbrev pub replies_of : List AnsweredEvent → ℕ
replies_of [] = 0
replies_of (t ∷ turns) = replies_done t.done + replies_of turns

-- whether an output shuts the connection
abbrev pub is_shutting : HubOutput → Bool
is_shutting (writing n text) = false
is_shutting (shutting n) = true

-- whether the result of an event shuts the connection
abbrev pub shuts : Result (List HubOutput) HubFault → Bool
shuts (Ok hub_outputs) = list_any is_shutting hub_outputs
shuts (Err fault) = false

-- the event is the arrival of a non-empty piece
abbrev pub IsPiece : HubEventKind → Type 0
IsPiece (sending bytes) = bytes ≢ []
IsPiece _ = ⊥

-- the event is the arrival of a non-empty piece on connection n
abbrev pub IsPieceOf : ℕ → AnsweredEvent → Type 0
IsPieceOf n turn = (turn.event.connection ≡ n) × IsPiece turn.event.kind

-- after this error the whole text has been written, or only a prefix of it if the error is `Write`
abbrev pub IsWrittenAt : IoFault → Option (List ℕ) → Option (List ℕ) → List ℕ → Type 0
IsWrittenAt Write old new text = AppendsFront old new text
IsWrittenAt _ old new text = Appends old new text

-- the whole text has been written, or only a prefix of it if the result is the error `Write`
abbrev pub IsWritten : {T : Type 0} → Option (List ℕ) → Option (List ℕ) → List ℕ → Result T IoFault → Type 0
IsWritten old new text result = MatchResult result (λ _. Appends old new text) (λ fault. IsWrittenAt fault old new text)

-- the bytes that were read but not handled before this error: the piece without a stamp if the error is
-- `Stamp`, and no bytes otherwise
abbrev pub IsLostAt : IoFault → List ℕ → Type 0
IsLostAt NoStamp lost = lost ≢ []
IsLostAt _ lost = lost ≡ []

-- the bytes are those of the events' pieces in order, followed by the piece that was lost if the result is
-- the error `Stamp`
pub record AreBytesOf {T : Type 0} (turns : List AnsweredEvent) (bytes : List ℕ) (result : Result T IoFault) : Type 0 where
  pub lost : List ℕ
  pub split : bytes ≡ bytes_of turns ++ lost
  pub is_lost : MatchResult result (λ _. lost ≡ []) (λ fault. IsLostAt fault lost)

-- the maximum number of reads of a stream
abbrev pub most_reads : ℕ
most_reads = 1000000

-- the hub handled the event without an error, and the connection stays open
abbrev pub StaysOpen : AnsweredEvent → Type 0
StaysOpen turn = IsOk turn.done × (shuts turn.done ≡ false)

-- after these events, one for each read, the connection is open and its stream may be read once more
pub record AreReadOn (turns : List AnsweredEvent) : Type 0 where
  pub stay : All StaysOpen turns
  pub few : length turns < most_reads

-- the connection was open before the last event, and the result of the last event satisfies `IsLast`
pub record EndWith (turns : List AnsweredEvent) (IsLast : Result (List HubOutput) HubFault → Type 0) : Type 0 where
  pub earlier : List AnsweredEvent
  pub last : AnsweredEvent
  pub split : turns ≡ earlier ++ last ∷ []
  pub read_on : AreReadOn earlier
  pub is_last : IsLast last.done

-- the events before an error: `Hub` is the error of the last event, `Write` occurs for the outputs of the
-- last event, `Turns` follows the maximum number of events, and before `Turns`, `Read` or `Stamp` no event
-- fails or shuts the connection
abbrev pub EndAt : IoFault → List AnsweredEvent → Type 0
EndAt (Hub fault) turns = EndWith turns (λ done. done ≡ Err fault)
EndAt Write turns = EndWith turns IsOk
EndAt Turns turns = All StaysOpen turns × (length turns ≡ most_reads)
EndAt _ turns = AreReadOn turns

-- the events before a success: the connection was open until the stream ended, or the last event shut it
abbrev pub EndWell : Option (List ℕ) → List AnsweredEvent → Type 0
EndWell remaining turns = (IsAtEnd remaining × AreReadOn turns) ⊎ EndWith turns (λ done. shuts done ≡ true)

module _ (policy : List Rule) (base : List ℕ) (entries : List Entry) (n : ℕ) where
  -- the hub handles the events in `turns` in order, from `state` to `next`; each event is a piece of
  -- connection n, and the events have these bytes, stamps and written text
  pub record AreServed {T : Type 0} (state next : HubState) (turns : List AnsweredEvent) (bytes : List ℕ) (given given_then : Option (List Stamp)) (contents contents_then : Option (List ℕ))
      (result : Result T IoFault) : Type 0 where
    pub runs : FoldsTo (λ h t u. Hears policy base entries t.event h t.done u) state turns next
    pub pieces : All (IsPieceOf n) turns
    pub brings : AreBytesOf turns bytes result
    pub stamps : Grows given given_then (map (λ t. t.event.stamp) turns)
    pub written : IsWritten contents contents_then (text_of turns) result

  -- the stream is read and served until it ends, the connection is shut, or an error occurs, in at most
  -- `most_reads` reads
  pub record IsStreamServed (state next : HubState) (remaining remaining_then : Option (List ℕ)) (given given_then : Option (List Stamp)) (contents contents_then : Option (List ℕ))
      (result : Result Served IoFault) : Type 0 where
    pub turns : List AnsweredEvent
    pub bytes : List ℕ
    pub consumed : Consumes remaining remaining_then bytes
    pub served : AreServed state next turns bytes given given_then contents contents_then result
    pub ended : MatchResult result (λ _. EndWell remaining_then turns) (λ fault. EndAt fault turns)
    pub replies : IfOk result (λ s. s.replies ≡ min (2 ^ 64 - 1) (replies_of turns))

  -- the connection can't join: nothing is read or written, and no stamp is used
  pub record IsTurnedAway (state next : HubState) (remaining remaining_then : Option (List ℕ)) (given given_then : Option (List Stamp)) (contents contents_then : Option (List ℕ))
      (result : Result Served IoFault) : Type 0 where
    pub fault : HubFault
    pub joins : Joins (state.connections n) n state (Err fault) next
    pub unread : remaining_then ≡ remaining
    pub unstamped : given_then ≡ given
    pub unwritten : contents_then ≡ contents
    pub result_is : result ≡ Err (Hub fault)

  -- the connection joins, its stream is served, and it leaves
  pub record IsServedWhole (state next : HubState) (remaining remaining_then : Option (List ℕ)) (given given_then : Option (List Stamp)) (contents contents_then : Option (List ℕ))
      (result : Result Served IoFault) : Type 0 where
    pub joined_at : HubState
    pub hub_outputs : List HubOutput
    pub joins : Joins (state.connections n) n state (Ok hub_outputs) joined_at
    pub served_at : HubState
    pub served : IsStreamServed joined_at served_at remaining remaining_then given given_then contents contents_then result
    pub left : Result (List HubOutput) HubFault
    pub leaves : Leaves (served_at.connections n) n served_at left next

  -- the result of serving one stream: the connection can't join, or it joins, is served and leaves
  abbrev pub IsVisit : HubState → HubState → Option (List ℕ) → Option (List ℕ) → Option (List Stamp) → Option (List Stamp) → Option (List ℕ) → Option (List ℕ) → Result Served IoFault → Type 0
  IsVisit state next remaining remaining_then given given_then contents contents_then result =
      IsTurnedAway state next remaining remaining_then given given_then contents contents_then result
      ⊎ IsServedWhole state next remaining remaining_then given given_then contents contents_then result
