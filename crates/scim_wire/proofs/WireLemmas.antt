-- Wires, one byte or a run further.
use Rattle.std.proofs.Common.{◌≡◌, ℕ, ◌≤◌, ◌+◌, ◌-◌, arith, List, [], ◌∷◌, ◌++◌, length, take, drop, refl, sym, ap, ◌∙◌, inl, inr, Option, Some, None, Result, Ok, Err, Bool, true, false, cond, subst}
use Rattle.std.specs.Prelude.{option_to_list}
use Rattle.std.proofs.lemmas.List.Elements.{All-append, All-cons, All-nil}
use Rattle.std.specs.List.{flat_map}
use Rattle.std.proofs.lemmas.List.{append-nil, append_assoc, length-append, take_rest}
use Rattle.std.proofs.Math.Seq.{take-add}
use Rattle.std.proofs.lemmas.List.Concat.{flat_map-append}
use Rattle.scim_audit.specs.declared.refusals.Refusal.{Refusal}
use Rattle.scim_audit.specs.declared.refusals.Refusal.TheVariants.{BadHead}
use Rattle.scim_wire.specs.declared.body_framing.Framing.{Framing}
use Rattle.scim_wire.specs.Chunked.{IsChunked, IsBadChunked}
use Rattle.scim_wire.specs.declared.chunked.ChunkedPart.{ChunkedPart}
use Rattle.scim_wire.specs.declared.chunk_faults.BadChunks.{BadChunks}
use Rattle.scim_wire.specs.ChunkParts as chunks
use Rattle.scim_wire.specs.declared.message_heads.MessageHead.{MessageHead}
use Rattle.scim_wire.specs.declared.messages.Item.{Item}
use Rattle.scim_wire.specs.declared.messages.Item.TheVariants.{Continue, Whole, Refused}
use Rattle.scim_wire.specs.declared.states.BodyPart.{BodyPart}
use Rattle.scim_wire.specs.declared.states.ChunksPart.{ChunksPart}
use Rattle.scim_wire.specs.declared.states.State.{State}
use Rattle.scim_wire.specs.declared.wires.Wire.{Wire}
use Rattle.scim_wire.specs.Bodies.{IsBody, IsBadBody, refusal_of}
use Rattle.scim_wire.specs.MessageHeads.{ReadsMessage}
use Rattle.scim_wire.specs.Messages.{Says, OpensSaying, announced, message_of, IsMessage, GivesRefusal, LeavesRefused, Turn, IsTurn, turn_items}
use Rattle.scim_wire.specs.Parts.{IsHeadText, IsOverlong}
use Rattle.scim_wire.specs.Streams.{OpensThen}
use Rattle.scim_wire.specs.Wires.{StandsFor}
use Rattle.scim_wire.specs.code.Wires.{HoldsBody, HoldsChunks, StandsAt, Steps}
use Rattle.scim_wire.proofs.BodyLemmas.{bad_more}
use Rattle.scim_wire.proofs.StepLemmas.{then_more, then_map}

-- what a head's text says opens its bytes
pub opens_reading : (bytes text : List ℕ) (read : Result MessageHead Refusal) → OpensThen (λ t. IsHeadText t × (t ≡ text)) bytes []
    → ReadsMessage text read → OpensSaying bytes read []
opens_reading bytes text read opens reads =
    then_map _ (λ t. Says t read) (λ t is. inl (is.0, subst (λ (s : List ℕ). ReadsMessage s read) (sym is.1) reads)) bytes [] opens

-- a head that is refused
pub refused_head : (bytes : List ℕ) (refusal : Refusal) → OpensSaying bytes (Err refusal) [] → LeavesRefused bytes (Refused refusal ∷ [])
refused_head bytes refusal opens = (Err refusal, [], opens, refl)

-- what is too long for a head
pub refused_overlong : (bytes : List ℕ) → OpensThen IsOverlong bytes [] → LeavesRefused bytes (Refused BadHead ∷ [])
refused_overlong bytes opens =
    refused_head bytes BadHead (then_map IsOverlong (λ t. Says t (Err BadHead)) (λ t is. inr (is, refl)) bytes [] opens)

gives_more : (read : Result MessageHead Refusal) (after more : List ℕ) (items : List Item) → GivesRefusal read after items → GivesRefusal read (after ++ more) items
gives_more (Err refusal) after more items gives = gives
gives_more (Ok head) after more items (refusal, bad, are) = (refusal, bad_more head.framing after more refusal bad, are)

-- a refusal stays
pub refused_more : (bytes more : List ℕ) (items : List Item) → LeavesRefused bytes items → LeavesRefused (bytes ++ more) items
refused_more bytes more items (read, after, opens, gives) =
    (read, after ++ more, then_more _ bytes after more opens, gives_more read after more items gives)

not_whole : (b : Bool) → (message : _) → Whole message ∷ [] ≡ cond b (Continue ∷ []) [] → ⊥
not_whole true message e = cc
not_whole false message e = cc

-- a body begins
pub begins : (next : State) (head : MessageHead) (item : Option Item) (bytes : List ℕ)
    → ((items : List Item) → items ≡ announced head → StandsAt next bytes items) → option_to_list item ≡ announced head → Steps next item bytes []
begins next head None bytes stands e = stands [] e
begins next head (Some Continue) bytes stands e = stands (Continue ∷ []) e
begins next head (Some (Refused refusal)) bytes stands e = stands (Refused refusal ∷ []) e
begins next head (Some (Whole message)) bytes stands e = absurd (not_whole _ message e)

-- a body ends
pub body_whole : (part : BodyPart) (new bytes : List ℕ) (byte : ℕ) → HoldsBody part bytes → new ≡ part.body.items ++ byte ∷ [] → part.left ≤ 1
    → IsMessage (bytes ++ byte ∷ []) part.head (message_of part.head new)
body_whole part new bytes byte holds is last =
    let more = holds.more in
    let len : length new ≡ length part.body.items + part.left =
    omega (arith, ap length is, length-append part.body.items (byte ∷ []), more, last) in
    record {
      after = new;
      opens = subst (OpensSaying (bytes ++ byte ∷ []) (Ok part.head)) (sym is) (then_more _ bytes part.body.items (byte ∷ []) holds.opens);
      is_body = subst (λ (f : Framing). IsBody f new new) (sym holds.sized) (refl, len);
      made_of = refl;
    }

-- a chunked body ends
pub chunks_whole : (part : ChunksPart) (bytes body : List ℕ) (byte : ℕ) (holds : HoldsChunks part bytes) → IsChunked (holds.after ++ byte ∷ []) body
    → IsMessage (bytes ++ byte ∷ []) part.head (message_of part.head body)
chunks_whole part bytes body byte holds is = record {
  after = holds.after ++ byte ∷ [];
  opens = then_more _ bytes holds.after (byte ∷ []) holds.opens;
  is_body = subst (λ (f : Framing). IsBody f (holds.after ++ byte ∷ []) body) (sym holds.chunked) is;
  made_of = refl;
}

-- a chunked body goes on
pub chunks_more : (part : ChunksPart) (next : ChunkedPart) (bytes more : List ℕ) (holds : HoldsChunks part bytes) → chunks.StandsFor next (holds.after ++ more)
    → HoldsChunks (record { head = part.head; chunks = next }) (bytes ++ more)
chunks_more part next bytes more holds stands = record {
  after = holds.after ++ more;
  opens = then_more _ bytes holds.after more holds.opens;
  chunked = holds.chunked;
  stands = stands;
}

-- a chunked body is refused
pub chunks_refused : (part : ChunksPart) (bytes : List ℕ) (items : List Item) (byte : ℕ) (fault : BadChunks) (holds : HoldsChunks part bytes)
    → IsBadChunked (holds.after ++ byte ∷ []) fault → items ≡ announced part.head
    → LeavesRefused (bytes ++ byte ∷ []) (items ++ Refused (refusal_of fault) ∷ [])
chunks_refused part bytes items byte fault holds bad e =
    let P : Framing → Type 0 = λ f. IsBadBody f (holds.after ++ byte ∷ []) (refusal_of fault) in (
      Ok part.head,
      holds.after ++ byte ∷ [],
      then_more _ bytes holds.after (byte ∷ []) holds.opens,
      (
        refusal_of fault,
        subst P (sym holds.chunked) (holds.after ++ byte ∷ [], [], fault, sym (append-nil _), bad, refl),
        ap (λ x. x ++ Refused (refusal_of fault) ∷ []) e,
      ),
    )

-- the stream, some bytes further
more_split : (stream rest more : List ℕ) (turns : List Turn) → stream ≡ flat_map (λ (t : Turn). t.bytes) turns ++ rest
    → stream ++ more ≡ flat_map (λ (t : Turn). t.bytes) turns ++ (rest ++ more)
more_split stream rest more turns split =
    ap (λ x. x ++ more) split ∙ append_assoc (flat_map (λ (t : Turn). t.bytes) turns) rest more

-- items more that are no messages
more_last : (wire next : Wire) (stream more : List ℕ) (items : List Item) (s : StandsFor wire stream items) (new : List Item)
    → StandsAt next.state (s.rest ++ more) (s.last ++ new) → StandsFor next (stream ++ more) (items ++ new)
more_last wire next stream more items s new stands = record {
  turns = s.turns;
  rest = s.rest ++ more;
  last = s.last ++ new;
  splits = record { each = s.splits.each; split = more_split stream s.rest more s.turns s.splits.split };
  stands = stands;
  gave = ap (λ x. x ++ new) s.gave ∙ append_assoc (flat_map turn_items s.turns) s.last new;
}

-- a wire that stands for a stream, some bytes further that give nothing
pub stands_run : (wire next : Wire) (stream run : List ℕ) (items : List Item) → StandsFor wire stream items
    → ((bytes : List ℕ) (last : List Item) → StandsAt wire.state bytes last → StandsAt next.state (bytes ++ run) last)
    → StandsFor next (stream ++ run) items
stands_run wire next stream run items s step =
    subst (StandsFor next (stream ++ run)) (append-nil items)
    (more_last wire next stream run items s [] (subst (StandsAt next.state (s.rest ++ run)) (sym (append-nil s.last)) (step s.rest s.last s.stands)))

-- the same, where the run is the next `count` bytes of a piece of which some were taken
pub stands_taken : (wire next : Wire) (stream piece : List ℕ) (taken count : ℕ) (items : List Item) → StandsFor wire (stream ++ take taken piece) items
    → ((bytes : List ℕ) (last : List Item) → StandsAt wire.state bytes last
    → StandsAt next.state (bytes ++ take count (take (length piece - taken) (drop taken piece))) last)
    → StandsFor next (stream ++ take (taken + count) piece) items
stands_taken wire next stream piece taken count items s step =
    rw (take-add taken count piece, ← append_assoc stream (take taken piece) (take count (drop taken piece)))
    (stands_run wire next (stream ++ take taken piece) (take count (drop taken piece)) items s (rw take_rest at step))

-- a wire that stands for a stream, one byte further
pub stands_push : (wire next : Wire) (item : Option Item) (stream : List ℕ) (byte : ℕ) (items : List Item)
    → StandsFor wire stream items
    → ((bytes : List ℕ) (last : List Item) → StandsAt wire.state bytes last → Steps next.state item (bytes ++ byte ∷ []) last)
    → StandsFor next (stream ++ byte ∷ []) (items ++ option_to_list item)
stands_push wire next None stream byte items s step =
    subst (StandsFor next (stream ++ byte ∷ [])) (sym (append-nil items)) (stands_run wire next stream (byte ∷ []) items s step)
stands_push wire next (Some Continue) stream byte items s step = more_last wire next stream (byte ∷ []) items s (Continue ∷ []) (step s.rest s.last s.stands)
stands_push wire next (Some (Refused refusal)) stream byte items s step =
    more_last wire next stream (byte ∷ []) items s (Refused refusal ∷ []) (step s.rest s.last s.stands)
stands_push wire next (Some (Whole message)) stream byte items s step =
    let done = step s.rest s.last s.stands in
    let turn : Turn = record { bytes = s.rest ++ byte ∷ []; head = done.0; message = message } in
    record {
      turns = s.turns ++ turn ∷ [];
      rest = [];
      last = [];
      splits = record {
        each = All-append IsTurn s.turns (turn ∷ []) s.splits.each (All-cons IsTurn turn [] done.1 (All-nil IsTurn));
        split = more_split stream s.rest (byte ∷ []) s.turns s.splits.split
            ∙ sym (append-nil _ ∙ flat_map-append (λ (t : Turn). t.bytes) s.turns (turn ∷ [])
            ∙ ap (λ x. flat_map (λ (t : Turn). t.bytes) s.turns ++ x) (append-nil (s.rest ++ byte ∷ [])));
      };
      stands = done.3;
      gave = ap (λ x. x ++ Whole message ∷ []) (s.gave ∙ ap (λ x. flat_map turn_items s.turns ++ x) done.2)
          ∙ append_assoc (flat_map turn_items s.turns) (announced done.0) (Whole message ∷ [])
          ∙ sym (append-nil _ ∙ flat_map-append turn_items s.turns (turn ∷ [])
          ∙ ap (λ x. flat_map turn_items s.turns ++ x) (append-nil (turn_items turn)));
    }
