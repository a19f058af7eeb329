-- The state of reading a stream, and the results of its next byte.
use Rattle.std.specs.Prelude.{◌≡◌, ℕ, ◌+◌, ◌<◌, List, [], ◌∷◌, ◌++◌, length, Option, Some, None, Ok}
use Rattle.scim_wire.specs.ChunkParts as chunks
use Rattle.scim_wire.specs.declared.body_framing.Framing.TheVariants.{Sized, Chunked}
use Rattle.scim_wire.specs.declared.message_heads.MessageHead.{MessageHead}
use Rattle.scim_wire.specs.declared.messages.Item.{Item}
use Rattle.scim_wire.specs.declared.messages.Item.TheVariants.{Continue, Whole, Refused}
use Rattle.scim_wire.specs.declared.states.BodyPart.{BodyPart}
use Rattle.scim_wire.specs.declared.states.ChunksPart.{ChunksPart}
use Rattle.scim_wire.specs.declared.states.State.{State}
use Rattle.scim_wire.specs.declared.states.State.TheVariants as state
use Rattle.scim_wire.specs.Messages.{OpensSaying, announced, IsMessage, LeavesRefused}
use Rattle.scim_wire.specs.code.Steps.{HoldsHead}

-- the part is the state of an unfinished body of known length after these bytes
pub record HoldsBody (part : BodyPart) (bytes : List ℕ) : Type 0 where
  pub opens : OpensSaying bytes (Ok part.head) part.body.items
  pub sized : part.head.framing ≡ Sized (length part.body.items + part.left)
  pub more : 0 < part.left

-- the part is the state of an unfinished chunked body after these bytes
pub record HoldsChunks (part : ChunksPart) (bytes : List ℕ) : Type 0 where
  pub after : List ℕ
  pub opens : OpensSaying bytes (Ok part.head) after
  pub chunked : part.head.framing ≡ Chunked
  pub stands : chunks.StandsFor part.chunks after

-- the state after reading these bytes, which follow the last whole message; `items` were read from them
abbrev pub StandsAt : State → List ℕ → List Item → Type 0
StandsAt (state.Opening part) bytes items = HoldsHead part bytes × (items ≡ [])
StandsAt (state.InBody part) bytes items = HoldsBody part bytes × (items ≡ announced part.head)
StandsAt (state.InChunks part) bytes items = HoldsChunks part bytes × (items ≡ announced part.head)
StandsAt state.Shut bytes items = LeavesRefused bytes items

-- reading the last of these bytes results in the state `next` and in the given item, if any; `items` are the
-- items that were read before
abbrev pub Steps : State → Option Item → List ℕ → List Item → Type 0
Steps next None bytes items = StandsAt next bytes items
Steps next (Some Continue) bytes items = StandsAt next bytes (items ++ Continue ∷ [])
Steps next (Some (Refused refusal)) bytes items = StandsAt next bytes (items ++ Refused refusal ∷ [])
Steps next (Some (Whole message)) bytes items =
    (head : MessageHead) × IsMessage bytes head message × (items ≡ announced head) × StandsAt next [] []
