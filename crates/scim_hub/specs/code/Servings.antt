-- The results of functions that serve a stream.
use Rattle.std.specs.Prelude.{◌≡◌, ℕ, List, [], ◌∷◌, Option, Result, IsOk, MatchResult, Err}
use Rattle.std.specs.Io.KnownBytes.{Appends}
use Rattle.scim_policy.specs.Rules.{Rule}
use Rattle.scim_wire.specs.Streams.{AppendsFront}
use Rattle.scim_token.specs.TokenFile.{Entry}
use Rattle.scim_hub.specs.declared.events.Stamp.{Stamp}
use Rattle.scim_hub.specs.declared.io_faults.IoFault.{IoFault}
use Rattle.scim_hub.specs.declared.io_faults.IoFault.TheVariants.{Write, Stamp as NoStamp, Hub}
use Rattle.scim_hub.specs.declared.streams.Written.{Written}
use Rattle.scim_hub.specs.Events.{HubState}
use Rattle.scim_hub.specs.Streams.{AnsweredEvent, AreServed, shuts, replies_done}

-- the whole text was written; or a write failed after a prefix of it
abbrev pub IsWrittenOut : Option (List ℕ) → Option (List ℕ) → List ℕ → Result Unit IoFault → Type 0
IsWrittenOut old new text result = MatchResult result (λ _. Appends old new text) (λ fault. (fault ≡ Write) × AppendsFront old new text)

-- there was one turn, the hub didn't fail, and `written` has the turn's number of replies and whether it shut
-- the connection
pub record IsToldOf (turns : List AnsweredEvent) (written : Written) : Type 0 where
  pub turn : AnsweredEvent
  pub turns_are : turns ≡ turn ∷ []
  pub well : IsOk turn.done
  pub replies : written.replies ≡ replies_done turn.done
  pub shut : written.shut ≡ shuts turn.done

-- the turns of a piece whose serving failed: none for `Stamp`, one that succeeded for `Write`, and one with
-- the hub's error for `Hub`
abbrev pub IsFaultOf : List AnsweredEvent → IoFault → Type 0
IsFaultOf turns NoStamp = turns ≡ []
IsFaultOf turns Write = (turn : AnsweredEvent) × (turns ≡ turn ∷ []) × IsOk turn.done
IsFaultOf turns (Hub fault) = (turn : AnsweredEvent) × (turns ≡ turn ∷ []) × (turn.done ≡ Err fault)
IsFaultOf turns _ = ⊥

-- the piece was served in one turn, or in no turn if there was no stamp
pub record IsPieceServed (policy : List Rule) (base : List ℕ) (entries : List Entry) (n : ℕ) (state next : HubState) (piece : List ℕ)
    (given given_then : Option (List Stamp)) (contents contents_then : Option (List ℕ)) (result : Result Written IoFault) : Type 0 where
  pub turns : List AnsweredEvent
  pub served : AreServed policy base entries n state next turns piece given given_then contents contents_then result
  pub told : MatchResult result (λ written. IsToldOf turns written) (λ fault. IsFaultOf turns fault)
