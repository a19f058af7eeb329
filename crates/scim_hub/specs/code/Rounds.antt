-- The pieces of a round, and what comes of them.
use Rattle.std.specs.Prelude.{◌≡◌, ℕ, ◌==◌, Bool, true, false, List, [], ◌∷◌, ◌++◌, Option, Some, Result, Ok, Err, MatchBool, if◌then◌else◌}
use Rattle.std.specs.List.{list_any}
use Rattle.std.specs.Global.{Vec}
use Rattle.scim_policy.specs.Rules.{Rule}
use Rattle.scim_shelf.specs.Stores.{Store, IsStore}
use Rattle.scim_text.specs.declared.memory.NoMemory.{NoMemory}
use Rattle.scim_wire.specs.declared.messages.Item.{Item}
use Rattle.scim_wire.specs.Messages.{HasItems}
use Rattle.scim_token.specs.TokenFile.{Entry}
use Rattle.scim_hub.specs.declared.answering.Replies.{Replies}
use Rattle.scim_hub.specs.declared.connections.Connections.{Connections}
use Rattle.scim_hub.specs.declared.events.HubFault.{HubFault}
use Rattle.scim_hub.specs.declared.events.HubFault.TheVariants.{Unknown, Closed, NoMemory as MemoryFault}
use Rattle.scim_hub.specs.declared.events.Output.{Output}
use Rattle.scim_hub.specs.declared.events.Stamp.{Stamp}
use Rattle.scim_hub.specs.declared.hubs.Hub.{Hub}
use Rattle.scim_hub.specs.declared.rounds.Answered.{Answered}
use Rattle.scim_hub.specs.declared.rounds.Member.{Member}
use Rattle.scim_hub.specs.declared.rounds.Piece.{Piece}
use Rattle.scim_hub.specs.Events.{HubEvent, sending, Connection, absent, joined, shut, set}
use Rattle.scim_hub.specs.HubSetting.{KeepsHubSetting, refused_tokens_of}
use Rattle.scim_hub.specs.HubStates.{AreConnections}
use Rattle.scim_hub.specs.code.Replies.{AreReplies}

-- the event of a piece, and of a member of a round
abbrev pub piece_event : Piece → HubEvent
piece_event piece = record { connection = piece.connection; stamp = piece.stamp; kind = sending piece.bytes.now }

abbrev pub member_event : Member → HubEvent
member_event member = piece_event member.piece

-- whether a piece of connection n belongs to the round
abbrev pub has_member : ℕ → List Member → Bool
has_member n members = list_any (λ (member : Member). member.piece.connection == n) members

-- the pieces are of different connections
abbrev pub AreApart : List Member → Type 0
AreApart [] = Unit {0}
AreApart (member ∷ members) = (has_member member.piece.connection members ≡ false) × AreApart members

-- the state of a connection after it was passed a piece: it is shut after `NoMemory`, and otherwise not yet, even
-- if a reply closes it
abbrev pub read_on : Result Answered HubFault → List ℕ → Connection → Connection
read_on (Ok answered) bytes (joined stream items) = joined (stream ++ bytes) (items ++ answered.items.items)
read_on (Err fault) bytes (joined stream items) = shut
read_on _ bytes c = c

-- the connection in this state was passed the piece, with this result
abbrev pub IsReadAt : Connection → List ℕ → Result Answered HubFault → Type 0
IsReadAt (joined stream items) bytes (Ok answered) = HasItems (stream ++ bytes) (items ++ answered.items.items)
IsReadAt (joined stream items) bytes (Err fault) = fault ≡ MemoryFault
IsReadAt absent bytes (Err fault) = fault ≡ Unknown
IsReadAt shut bytes (Err fault) = fault ≡ Closed
IsReadAt _ bytes (Ok answered) = ⊥

-- the connection n took in the piece, and the connections are `kept`
abbrev pub IsTakenIn : Connection → ℕ → List ℕ → (ℕ → Connection) → Result Answered HubFault → Connections → Type 0
IsTakenIn c n bytes connections taken kept = IsReadAt c bytes taken × AreConnections kept (set n (read_on taken bytes c) connections)

-- connection n, which was joined, is shut
abbrev pub ShutsAt : ℕ → Connections → Connections → Type 0
ShutsAt n old new =
    (connections : ℕ → Connection) (stream : List ℕ) (items : List Item) → AreConnections old (set n (joined stream items) connections)
    → AreConnections new (set n shut connections)

-- the state of connection m, from its state before the round, after the pieces were passed to their connections
abbrev pub state_after : List Member → ℕ → Connection → Connection
state_after [] m c = c
state_after (member ∷ members) m c = if member.piece.connection == m then read_on member.taken member.piece.bytes.now c else state_after members m c

-- each piece was passed to its connection
abbrev pub AreRead : List Member → (ℕ → Connection) → Type 0
AreRead [] connections = Unit {0}
AreRead (member ∷ members) connections =
    IsReadAt (connections member.piece.connection) member.piece.bytes.now member.taken × AreRead members connections

-- the connection is shut if its replies close it or were lost, and otherwise the connections are unchanged
abbrev pub IsFinished : Result Replies NoMemory → ℕ → Connections → Connections → Type 0
IsFinished (Ok replies) n old new = MatchBool replies.closed (ShutsAt n old new) (new ≡ old)
IsFinished (Err e) n old new = ShutsAt n old new

-- the outputs of the replies, or the error
abbrev pub result_for : Result Replies NoMemory → Result (Vec Output) HubFault
result_for (Ok replies) = Ok replies.outputs
result_for (Err e) = Err MemoryFault

-- the connections, which had these states before, are `kept` after the pieces of different connections were passed
-- to them
pub record AreGathered (members : List Member) (connections : ℕ → Connection) (kept : Connections) : Type 0 where
  pub apart : AreApart members
  pub read : AreRead members connections
  pub are : AreConnections kept (λ m. state_after members m (connections m))

-- with this policy and base URI, and with these clients and tokens
module _ (policy : List Rule) (base : List ℕ) (entries : List Entry) where
  -- if the round is made, the items are answered by the replies, and `next` is the store after them; if it isn't,
  -- the store is unchanged
  abbrev pub ComesTo : Bool → Stamp → ℕ → Result Answered HubFault → Store → Store → Type 0
  ComesTo made stamp n (Ok answered) store next =
      MatchBool made (AreReplies policy base entries stamp n answered.items.items store answered.replies next) (IsStore base store × (next ≡ store))
  ComesTo made stamp n (Err fault) store next = next ≡ store

  -- the same of each member, with the store after the previous member
  abbrev pub AllComeTo : Bool → List Member → Store → Store → Type 0
  AllComeTo made [] store next = next ≡ store
  AllComeTo made (member ∷ members) store next =
      (mid : Store) × ComesTo made member.piece.stamp member.piece.connection member.taken store mid × AllComeTo made members mid next

-- a hub keeps its service and its tokens
pub record KeepsService {S : Type 0} (old new : Hub S) : Type 0 where
  pub service : new.service ≡ old.service
  pub tokens : new.tokens ≡ old.tokens

-- a hub keeps all but the shelf of its service
pub record KeepsAllButShelf {S : Type 0} (old new : Hub S) : Type 0 where
  pub setting : KeepsHubSetting old new
  pub connections : new.connections ≡ old.connections
  pub refused : refused_tokens_of new ≡ refused_tokens_of old
