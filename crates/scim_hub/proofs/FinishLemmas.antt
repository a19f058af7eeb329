-- What a piece of a round comes to.
use Rattle.std.proofs.Common.{◌≡◌, refl, sym, ap, subst, inl, inr, ℕ, Bool, true, false, List, ◌∷◌, ◌++◌, map}
use Rattle.std.specs.Prelude.{Result, Ok, Err, MatchBool}
use Rattle.scim_policy.specs.Rules.{Rule}
use Rattle.scim_shelf.specs.Stores.{Store}
use Rattle.scim_text.specs.declared.memory.NoMemory.{NoMemory}
use Rattle.scim_wire.specs.declared.messages.Item.{Item}
use Rattle.scim_wire.specs.Messages.{HasItems}
use Rattle.scim_token.specs.TokenFile.{Entry}
use Rattle.scim_hub.specs.declared.answering.Replies.{Replies}
use Rattle.scim_hub.specs.declared.connections.Connections.{Connections}
use Rattle.scim_hub.specs.declared.events.HubFault.{HubFault}
use Rattle.scim_hub.specs.declared.events.HubFault.TheVariants.{NoMemory as MemoryFault}
use Rattle.scim_hub.specs.declared.events.Output.{Output}
use Rattle.scim_hub.specs.declared.rounds.Answered.{Answered}
use Rattle.scim_hub.specs.declared.rounds.Member.{Member}
use Rattle.scim_hub.specs.declared.rounds.Piece.{Piece}
use Rattle.scim_hub.specs.Events.{Connection, absent, joined, shut, set, HubState, HubOutput, Takes}
use Rattle.scim_hub.specs.HubStates.{output_of, done}
use Rattle.scim_hub.specs.code.Replies.{AreAllAnswered, IsFrontAnswered, AreReplies}
use Rattle.scim_hub.specs.code.Rounds.{read_on, IsReadAt, AreGathered, ShutsAt, IsFinished, result_for}
use Rattle.scim_hub.proofs.RoundLemmas.{gathered_on, gathered_same, gathered_shut}

module _ (policy : List Rule) (base : List ℕ) (entries : List Entry) (piece : Piece) (members : List Member) (state : HubState) where
  -- the piece was taken, and the connections are those after it and before the other pieces
  abbrev pub Done : Connection → Result (List HubOutput) HubFault → Connections → Store → Type 0
  Done c result kept store =
      (connections : ℕ → Connection) × AreGathered members connections kept
      × Takes policy base entries c piece.stamp piece.connection piece.bytes.now state result (record { connections = connections; store = store })

  -- the connection's stream goes on or is shut, with these answers to all items
  done_all : (stream : List ℕ) (items : List Item) (answered : Answered) (kept after : Connections) (outputs : List Output) (closed : Bool) (store : Store)
      → joined stream items ≡ state.connections piece.connection
      → HasItems (stream ++ piece.bytes.now) (items ++ answered.items.items)
      → AreGathered (record { piece = piece; taken = Ok answered } ∷ members) state.connections kept
      → MatchBool closed (ShutsAt piece.connection kept after) (after ≡ kept)
      → AreAllAnswered policy base entries piece.stamp piece.connection answered.items.items state.store outputs closed store
      → Done (joined stream items) (Ok (map output_of outputs)) after store
  done_all stream items answered kept after outputs true store is has gathered shuts (texts, all, told) = (
    set piece.connection shut state.connections,
    gathered_shut (record { piece = piece; taken = Ok answered }) members state.connections kept after (stream ++ piece.bytes.now) (items ++ answered.items.items)
        (ap (read_on (Ok answered) piece.bytes.now) (sym is)) shuts gathered,
    inl (record {
      new = answered.items.items;
      has_items = has;
      texts = texts;
      closed = true;
      store = store;
      answered = all;
      result_is = ap Ok told;
      becomes = refl;
    }),
  )
  done_all stream items answered kept after outputs false store is has gathered same (texts, all, told) = (
    set piece.connection (joined (stream ++ piece.bytes.now) (items ++ answered.items.items)) state.connections,
    subst (λ (k : Connections). AreGathered members (set piece.connection (joined (stream ++ piece.bytes.now) (items ++ answered.items.items)) state.connections) k) (sym same)
        (subst (λ (c : Connection). AreGathered members (set piece.connection (read_on (Ok answered) piece.bytes.now c) state.connections) kept) (sym is)
        (gathered_on (record { piece = piece; taken = Ok answered }) members state.connections kept gathered)),
    inl (record {
      new = answered.items.items;
      has_items = has;
      texts = texts;
      closed = false;
      store = store;
      answered = all;
      result_is = ap Ok told;
      becomes = refl;
    }),
  )

  -- some items were answered, and then memory was wanting
  done_some : (stream : List ℕ) (items : List Item) (answered : Answered) (kept after : Connections) (store : Store)
      → joined stream items ≡ state.connections piece.connection
      → HasItems (stream ++ piece.bytes.now) (items ++ answered.items.items)
      → AreGathered (record { piece = piece; taken = Ok answered } ∷ members) state.connections kept
      → ShutsAt piece.connection kept after
      → IsFrontAnswered policy base entries piece.stamp answered.items.items state.store store
      → Done (joined stream items) (Err MemoryFault) after store
  done_some stream items answered kept after store is has gathered shuts (front, back, texts, closed, split, begun) = (
    set piece.connection shut state.connections,
    gathered_shut (record { piece = piece; taken = Ok answered }) members state.connections kept after (stream ++ piece.bytes.now) (items ++ answered.items.items)
        (ap (read_on (Ok answered) piece.bytes.now) (sym is)) shuts gathered,
    inr (record {
      store = store;
      changed = inr (record {
        front = front;
        back = back;
        has_items = subst (λ (xs : List Item). HasItems (stream ++ piece.bytes.now) (items ++ xs)) split has;
        texts = texts;
        closed = closed;
        answered = begun;
      });
      result_is = refl;
      becomes = refl;
    }),
  )

  done_by : (stream : List ℕ) (items : List Item) (answered : Answered) (replies : Result Replies NoMemory) (kept after : Connections) (store : Store)
      → joined stream items ≡ state.connections piece.connection
      → HasItems (stream ++ piece.bytes.now) (items ++ answered.items.items)
      → AreGathered (record { piece = piece; taken = Ok answered } ∷ members) state.connections kept
      → IsFinished replies piece.connection kept after
      → AreReplies policy base entries piece.stamp piece.connection answered.items.items state.store replies store
      → Done (joined stream items) (done (result_for replies)) after store
  done_by stream items answered (Ok replies) kept after store is has gathered finished all =
      done_all stream items answered kept after replies.outputs.items replies.closed store is has gathered finished all
  done_by stream items answered (Err e) kept after store is has gathered finished some = done_some stream items answered kept after store is has gathered finished some

  -- the items were answered
  pub answered_done : (c : Connection) (answered : Answered) (replies : Result Replies NoMemory) (kept after : Connections) (store : Store)
      → c ≡ state.connections piece.connection
      → AreGathered (record { piece = piece; taken = Ok answered } ∷ members) state.connections kept
      → IsFinished replies piece.connection kept after
      → AreReplies policy base entries piece.stamp piece.connection answered.items.items state.store replies store
      → Done c (done (result_for replies)) after store
  answered_done (joined stream items) answered replies kept after store is gathered finished all =
      done_by stream items answered replies kept after store is
      (subst (λ (c : Connection). IsReadAt c piece.bytes.now (Ok answered)) (sym is) gathered.read.0) gathered finished all
  answered_done absent answered replies kept after store is gathered finished all =
      absurd (subst (λ (c : Connection). IsReadAt c piece.bytes.now (Ok answered)) (sym is) gathered.read.0)
  answered_done shut answered replies kept after store is gathered finished all =
      absurd (subst (λ (c : Connection). IsReadAt c piece.bytes.now (Ok answered)) (sym is) gathered.read.0)

  -- nothing of the piece was read
  pub failed_done : (c : Connection) (fault : HubFault) (kept : Connections)
      → c ≡ state.connections piece.connection
      → AreGathered (record { piece = piece; taken = Err fault } ∷ members) state.connections kept
      → Done c (Err fault) kept state.store
  failed_done absent fault kept is gathered = (
    state.connections,
    gathered_same (record { piece = piece; taken = Err fault }) members state.connections kept
        (subst (λ (c : Connection). read_on (Err fault) piece.bytes.now c ≡ c) is refl) gathered,
    (ap Err (subst (λ (c : Connection). IsReadAt c piece.bytes.now (Err fault)) (sym is) gathered.read.0), refl),
  )
  failed_done shut fault kept is gathered = (
    state.connections,
    gathered_same (record { piece = piece; taken = Err fault }) members state.connections kept
        (subst (λ (c : Connection). read_on (Err fault) piece.bytes.now c ≡ c) is refl) gathered,
    (ap Err (subst (λ (c : Connection). IsReadAt c piece.bytes.now (Err fault)) (sym is) gathered.read.0), refl),
  )
  failed_done (joined stream items) fault kept is gathered = (
    set piece.connection shut state.connections,
    subst (λ (c : Connection). AreGathered members (set piece.connection (read_on (Err fault) piece.bytes.now c) state.connections) kept) (sym is)
        (gathered_on (record { piece = piece; taken = Err fault }) members state.connections kept gathered),
    inr (record {
      store = state.store;
      changed = inl refl;
      result_is = ap Err (subst (λ (c : Connection). IsReadAt c piece.bytes.now (Err fault)) (sym is) gathered.read.0);
      becomes = refl;
    }),
  )

by_true : (P Q : Type 0) (b : Bool) → b ≡ true → P → MatchBool b P Q
by_true P Q true e p = p
by_true P Q false e p = absurd (cc)

by_false : (P Q : Type 0) (b : Bool) → b ≡ false → Q → MatchBool b P Q
by_false P Q true e q = absurd (cc)
by_false P Q false e q = q

-- the replies close the connection
pub finished_shut : (replies : Result Replies NoMemory) (r : Replies) (n : ℕ) (old new : Connections) → replies ≡ Ok r → r.closed ≡ true → ShutsAt n old new
    → IsFinished replies n old new
finished_shut (Ok s) r n old new is closed shuts = by_true _ _ s.closed (cc) shuts
finished_shut (Err e) r n old new is closed shuts = absurd (cc)

-- or don't
pub finished_open : (replies : Result Replies NoMemory) (r : Replies) (n : ℕ) (old new : Connections) → replies ≡ Ok r → r.closed ≡ false → new ≡ old
    → IsFinished replies n old new
finished_open (Ok s) r n old new is closed same = by_false _ _ s.closed (cc) same
finished_open (Err e) r n old new is closed same = absurd (cc)
