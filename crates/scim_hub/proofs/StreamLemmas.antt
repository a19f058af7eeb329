-- Turns that follow each other.
use Rattle.std.proofs.Common.{◌≡◌, ◌∙◌, refl, sym, ap, subst, inl, inr, ℕ, ◌+◌, ◌-◌, ◌^◌, min, Bool, true, false, List, [], ◌∷◌, ◌++◌, map, take, drop, append_assoc, arith}
use Rattle.std.specs.Prelude.{◌≢◌, ◌≤◌, ◌||◌, Option, None, Some, Result, Ok, Err, All, MatchResult, length, count_by, cond}
use Rattle.std.specs.List.{FoldsTo, fold, flat_map, list_any}
use Rattle.std.specs.Io.KnownBytes.{Appends, Consumes, Keeps, IsAtEnd}
use Rattle.std.proofs.KnownBytes.{Appends-nil, Appends-trans, Consumes-kept, Consumes-trans}
use Rattle.std.proofs.lemmas.List.{append-nil, length-append, length-take-le, map-append, take-append-drop}
use Rattle.std.proofs.lemmas.Grind.{flat_map-append}
use Rattle.std.proofs.lemmas.List.Elements.{All-append, All-nil, All-cons}
use Rattle.scim_policy.specs.Rules.{Rule}
use Rattle.scim_wire.specs.Streams.{AppendsFront}
use Rattle.scim_token.specs.TokenFile.{Entry}
use Rattle.scim_hub.specs.declared.events.HubFault.{HubFault}
use Rattle.scim_hub.specs.declared.events.Output.{Output}
use Rattle.scim_hub.specs.declared.events.Stamp.{Stamp}
use Rattle.scim_hub.specs.declared.streams.Written.{Written}
use Rattle.scim_hub.specs.declared.streams.Served.{Served}
use Rattle.scim_hub.specs.HubStates.{output_of}
use Rattle.scim_hub.specs.code.Servings.{IsToldOf, IsFaultOf, IsPieceServed}
use Rattle.scim_hub.specs.declared.io_faults.IoFault.{IoFault}
use Rattle.scim_hub.specs.declared.io_faults.IoFault.TheVariants.{Read, Write, Turns, Stamp as NoStamp, Hub}
use Rattle.scim_hub.specs.Events.{HubEvent, HubState, HubOutput, Hears}
use Rattle.scim_hub.specs.Streams.{Grows, AnsweredEvent, bytes_in, bytes_of, text_done, text_of, replies_of, is_reply, is_shutting, text_in, IsPiece, IsPieceOf, IsWrittenAt, IsWritten, IsLostAt, AreBytesOf, most_reads, StaysOpen, AreReadOn, EndAt, EndWell, AreServed, IsStreamServed}

pub folds_on : {P A : Type 0} (R : P → A → P → Type 0) (p : P) (xs ys : List A) (m q : P) → FoldsTo R p xs m → FoldsTo R m ys q → FoldsTo R p (xs ++ ys) q
folds_on {P} {A} R p [] ys m q before after = subst (λ (x : P). FoldsTo R x ys q) (sym before) after
folds_on R p (x ∷ xs) ys m q (j, step, rest) after = (j, step, folds_on R j xs ys m q rest after)

pub grows_nothing : (a : Option (List Stamp)) → Grows a a []
grows_nothing None = tt
grows_nothing (Some xs) = sym (append-nil xs)

pub grows_on : (a b c : Option (List Stamp)) (xs ys : List Stamp) → Grows a b xs → Grows b c ys → Grows a c (xs ++ ys)
grows_on None b c xs ys p q = tt
grows_on (Some x) None c xs ys p q = absurd p
grows_on (Some x) (Some y) None xs ys p q = absurd q
grows_on (Some x) (Some y) (Some z) xs ys p q = q ∙ ap (λ (l : List Stamp). l ++ ys) p ∙ append_assoc x xs ys

-- a front of what follows a text
pub front_after : (a b c : Option (List ℕ)) (text more : List ℕ) → Appends a b text → AppendsFront b c more → AppendsFront a c (text ++ more)
front_after a b c text more before (front, (back, split), appended) =
    (text ++ front, (back, ap (λ (l : List ℕ). text ++ l) split ∙ sym (append_assoc text front back)), Appends-trans a b c text front before appended)

-- a text after another
pub written_on : {T : Type 0} (a b c : Option (List ℕ)) (text more : List ℕ) (result : Result T IoFault) → Appends a b text → IsWritten b c more result → IsWritten a c (text ++ more) result
written_on a b c text more (Ok x) before after = Appends-trans a b c text more before after
written_on a b c text more (Err Read) before after = Appends-trans a b c text more before after
written_on a b c text more (Err Write) before after = front_after a b c text more before after
written_on a b c text more (Err Turns) before after = Appends-trans a b c text more before after
written_on a b c text more (Err NoStamp) before after = Appends-trans a b c text more before after
written_on a b c text more (Err (Hub fault)) before after = Appends-trans a b c text more before after

-- a front of a text is one of a longer text
pub front_longer : (old new : Option (List ℕ)) (text more : List ℕ) → AppendsFront old new text → AppendsFront old new (text ++ more)
front_longer old new text more (front, (back, split), appended) = (front, (back ++ more, ap (λ (l : List ℕ). l ++ more) split ∙ append_assoc front back more), appended)

texts_append : (xs ys : List Output) → flat_map text_in (map output_of (xs ++ ys)) ≡ flat_map text_in (map output_of xs) ++ flat_map text_in (map output_of ys)
texts_append xs ys = ap (flat_map text_in) (map-append output_of xs ys) ∙ flat_map-append text_in (map output_of xs) (map output_of ys)

-- the texts of outputs up to one, of that one, and of those behind it
pub texts_around : (outputs : List Output) (i : ℕ) (output : Output) → take (i + 1) outputs ≡ take i outputs ++ output ∷ []
    → flat_map text_in (map output_of outputs)
    ≡ (flat_map text_in (map output_of (take i outputs)) ++ text_in (output_of output)) ++ flat_map text_in (map output_of (drop (i + 1) outputs))
texts_around outputs i output more =
    ap (λ (xs : List Output). flat_map text_in (map output_of xs)) (sym (take-append-drop (i + 1) outputs))
    ∙ texts_append (take (i + 1) outputs) (drop (i + 1) outputs)
    ∙ ap (λ (l : List ℕ). l ++ flat_map text_in (map output_of (drop (i + 1) outputs)))
    (ap (λ (xs : List Output). flat_map text_in (map output_of xs)) more
    ∙ texts_append (take i outputs) (output ∷ [])
    ∙ ap (λ (l : List ℕ). flat_map text_in (map output_of (take i outputs)) ++ l) (append-nil (text_in (output_of output))))

-- the replies of turns, and of more turns
pub replies_on : (xs ys : List AnsweredEvent) → replies_of (xs ++ ys) ≡ replies_of xs + replies_of ys
replies_on [] ys = omega arith
replies_on (x ∷ xs) ys = omega (arith, replies_on xs ys)

bytes_on : {T : Type 0} (xs ys : List AnsweredEvent) (bytes more : List ℕ) (result : Result T IoFault) → AreBytesOf {T = Unit {0}} xs bytes (Ok tt) → AreBytesOf ys more result → AreBytesOf (xs ++ ys) (bytes ++ more) result
bytes_on xs ys bytes more result before after = record {
  lost = after.lost;
  split =
      ap (λ (l : List ℕ). l ++ more) (before.split ∙ ap (λ (l : List ℕ). bytes_of xs ++ l) before.is_lost ∙ append-nil (bytes_of xs))
      ∙ ap (λ (l : List ℕ). bytes_of xs ++ l) after.split
      ∙ sym (append_assoc (bytes_of xs) (bytes_of ys) after.lost)
      ∙ ap (λ (l : List ℕ). l ++ after.lost) (sym (flat_map-append (λ (t : AnsweredEvent). bytes_in t.event.kind) xs ys));
  is_lost = after.is_lost;
}

fold_map : {X Y B : Type 0} (h : B → Y → B) (f : X → Y) (a : B) (xs : List X) → fold h a (map f xs) ≡ fold (λ b x. h b (f x)) a xs
fold_map h f a [] = refl
fold_map h f a (x ∷ xs) = fold_map h f (h a (f x)) xs

count_map : {X Y : Type 0} (p : Y → Bool) (f : X → Y) (xs : List X) → count_by p (map f xs) ≡ count_by (λ x. p (f x)) xs
count_map p f xs = fold_map (λ (a : ℕ) y. a + cond (p y) 1 0) f 0 xs

any_map : {X Y : Type 0} (p : Y → Bool) (f : X → Y) (xs : List X) → list_any p (map f xs) ≡ list_any (λ x. p (f x)) xs
any_map p f [] = refl
any_map p f (x ∷ xs) = ap (λ (b : Bool). p (f x) || b) (any_map p f xs)

-- a piece of at least one byte
pub piece_some : (count : ℕ) (buf : List ℕ) → ¬ (count ≡ 0) → count ≤ length buf → take count buf ≢ []
piece_some count buf some fits none = some (sym (length-take-le count buf fits) ∙ ap length none)

-- before the first turn, there is a read
pub none_read : AreReadOn []
none_read = record { stay = All-nil StaysOpen; few = omega arith }

-- one turn more
pub stay_one : (xs : List AnsweredEvent) (t : AnsweredEvent) → All StaysOpen xs → StaysOpen t → All StaysOpen (xs ++ t ∷ [])
stay_one xs t stay open_at = All-append StaysOpen xs (t ∷ []) stay (All-cons StaysOpen t [] open_at (All-nil StaysOpen))

pub length_one : (xs : List AnsweredEvent) (t : AnsweredEvent) → length (xs ++ t ∷ []) ≡ length xs + 1
length_one xs t = length-append xs (t ∷ [])

-- after a piece that was answered and left the connection open
pub stay_after : (xs ys : List AnsweredEvent) (w : Written) → All StaysOpen xs → IsToldOf ys w → w.shut ≡ false → All StaysOpen (xs ++ ys)
stay_after xs ys w stay told left_open =
    subst (λ (l : List AnsweredEvent). All StaysOpen (xs ++ l)) (sym told.turns_are) (stay_one xs told.turn stay (told.well, sym told.shut ∙ left_open))

pub length_after : (xs ys : List AnsweredEvent) (w : Written) → IsToldOf ys w → length (xs ++ ys) ≡ length xs + 1
length_after xs ys w told = ap (λ (l : List AnsweredEvent). length (xs ++ l)) told.turns_are ∙ length_one xs told.turn

-- after a piece by which the connection was shut
pub end_shut : (t : Option (List ℕ)) (xs ys : List AnsweredEvent) (w : Written) → AreReadOn xs → IsToldOf ys w → w.shut ≡ true → EndWell t (xs ++ ys)
end_shut t xs ys w read_on told shut = inr (record {
  earlier = xs;
  last = told.turn;
  split = ap (λ (l : List AnsweredEvent). xs ++ l) told.turns_are;
  read_on = read_on;
  is_last = sym told.shut ∙ shut;
})

-- after a piece that couldn't be served
pub end_failed : (xs ys : List AnsweredEvent) (fault : IoFault) → AreReadOn xs → IsFaultOf ys fault → EndAt fault (xs ++ ys)
end_failed xs ys NoStamp read_on none = subst AreReadOn (sym (ap (λ (l : List AnsweredEvent). xs ++ l) none ∙ append-nil xs)) read_on
end_failed xs ys Write read_on (turn, is, well) = record {
  earlier = xs;
  last = turn;
  split = ap (λ (l : List AnsweredEvent). xs ++ l) is;
  read_on = read_on;
  is_last = well;
}
end_failed xs ys (Hub fault) read_on (turn, is, fails) = record {
  earlier = xs;
  last = turn;
  split = ap (λ (l : List AnsweredEvent). xs ++ l) is;
  read_on = read_on;
  is_last = fails;
}
end_failed xs ys Read read_on none = absurd none
end_failed xs ys Turns read_on none = absurd none

module _ (policy : List Rule) (base : List ℕ) (entries : List Entry) (n : ℕ) where
  -- before the first turn
  pub none_served : (state : HubState) (given : Option (List Stamp)) (contents : Option (List ℕ)) → AreServed policy base entries n {T = Unit {0}} state state [] [] given given contents contents (Ok tt)
  none_served state given contents = record {
    runs = refl;
    pieces = All-nil (IsPieceOf n);
    brings = record { lost = []; split = refl; is_lost = refl };
    stamps = grows_nothing given;
    written = Appends-nil contents;
  }

  -- turns after others
  pub served_on : {T : Type 0} (state mid next : HubState) (xs ys : List AnsweredEvent) (bytes more : List ℕ) (g h i : Option (List Stamp)) (a b c : Option (List ℕ)) (result : Result T IoFault)
      → AreServed policy base entries n {T = Unit {0}} state mid xs bytes g h a b (Ok tt) → AreServed policy base entries n mid next ys more h i b c result
      → AreServed policy base entries n state next (xs ++ ys) (bytes ++ more) g i a c result
  served_on state mid next xs ys bytes more g h i a b c result before after = record {
    runs = folds_on (λ (x : HubState) (t : AnsweredEvent) (y : HubState). Hears policy base entries t.event x t.done y) state xs ys mid next before.runs after.runs;
    pieces = All-append (IsPieceOf n) xs ys before.pieces after.pieces;
    brings = bytes_on xs ys bytes more result before.brings after.brings;
    stamps = subst (Grows g i) (sym (map-append (λ (t : AnsweredEvent). t.event.stamp) xs ys)) (grows_on g h i (map (λ (t : AnsweredEvent). t.event.stamp) xs) (map (λ (t : AnsweredEvent). t.event.stamp) ys) before.stamps after.stamps);
    written = subst (λ (text : List ℕ). IsWritten a c text result) (sym (flat_map-append (λ (t : AnsweredEvent). text_done t.done) xs ys))
        (written_on a b c (text_of xs) (text_of ys) result before.written after.written);
  }

  -- a turn that failed after others
  pub served_failing : {T : Type 0} (state mid next : HubState) (xs ys : List AnsweredEvent) (bytes more : List ℕ) (g h i : Option (List Stamp)) (a b c : Option (List ℕ)) (fault : IoFault)
      → AreServed policy base entries n {T = Unit {0}} state mid xs bytes g h a b (Ok tt) → AreServed policy base entries n {T = Written} mid next ys more h i b c (Err fault)
      → AreServed policy base entries n {T = T} state next (xs ++ ys) (bytes ++ more) g i a c (Err fault)
  served_failing {T} state mid next xs ys bytes more g h i a b c fault before after =
      served_on {T = T} state mid next xs ys bytes more g h i a b c (Err fault) before
      (record { runs = after.runs; pieces = after.pieces; brings = record { lost = after.brings.lost; split = after.brings.split; is_lost = after.brings.is_lost }; stamps = after.stamps; written = after.written })

  -- or didn't
  pub served_well : (state mid next : HubState) (xs ys : List AnsweredEvent) (bytes more : List ℕ) (g h i : Option (List Stamp)) (a b c : Option (List ℕ)) (w : Written)
      → AreServed policy base entries n {T = Unit {0}} state mid xs bytes g h a b (Ok tt) → AreServed policy base entries n {T = Written} mid next ys more h i b c (Ok w)
      → AreServed policy base entries n {T = Unit {0}} state next (xs ++ ys) (bytes ++ more) g i a c (Ok tt)
  served_well state mid next xs ys bytes more g h i a b c w before after =
      served_on {T = Unit {0}} state mid next xs ys bytes more g h i a b c (Ok tt) before
      (record { runs = after.runs; pieces = after.pieces; brings = record { lost = after.brings.lost; split = after.brings.split; is_lost = after.brings.is_lost }; stamps = after.stamps; written = after.written })

  -- a fault after them, by which nothing is lost
  pub served_up_to : {T : Type 0} (state next : HubState) (xs : List AnsweredEvent) (bytes : List ℕ) (g h : Option (List Stamp)) (a b : Option (List ℕ)) (fault : IoFault)
      → ((lost : List ℕ) → lost ≡ [] → IsLostAt fault lost) → ((text : List ℕ) → Appends a b text → IsWrittenAt fault a b text)
      → AreServed policy base entries n {T = Unit {0}} state next xs bytes g h a b (Ok tt) → AreServed policy base entries n {T = T} state next xs bytes g h a b (Err fault)
  served_up_to state next xs bytes g h a b fault none all served = record {
    runs = served.runs;
    pieces = served.pieces;
    brings = record { lost = served.brings.lost; split = served.brings.split; is_lost = none served.brings.lost served.brings.is_lost };
    stamps = served.stamps;
    written = all (text_of xs) served.written;
  }

  -- or none
  pub served_all : {T : Type 0} (state next : HubState) (xs : List AnsweredEvent) (bytes : List ℕ) (g h : Option (List Stamp)) (a b : Option (List ℕ)) (x : T)
      → AreServed policy base entries n {T = Unit {0}} state next xs bytes g h a b (Ok tt) → AreServed policy base entries n {T = T} state next xs bytes g h a b (Ok x)
  served_all state next xs bytes g h a b x served =
      record { runs = served.runs; pieces = served.pieces; brings = record { lost = served.brings.lost; split = served.brings.split; is_lost = served.brings.is_lost }; stamps = served.stamps; written = served.written }

  -- one turn of a piece
  pub one_served : {T : Type 0} (state next : HubState) (event : HubEvent) (done : Result (List HubOutput) HubFault) (piece : List ℕ) (g h : Option (List Stamp)) (a b : Option (List ℕ)) (result : Result T IoFault)
      → Hears policy base entries event state done next → event.connection ≡ n → IsPiece event.kind → bytes_in event.kind ≡ piece → Grows g h (event.stamp ∷ [])
      → ((lost : List ℕ) → lost ≡ [] → MatchResult result (λ _. lost ≡ []) (λ fault. IsLostAt fault lost))
      → IsWritten a b (text_done done) result → AreServed policy base entries n state next (record { event = event; done = done } ∷ []) piece g h a b result
  one_served state next event done piece g h a b result hears number is_piece brings stamped none wrote = record {
    runs = (next, hears, refl);
    pieces = All-cons (IsPieceOf n) (record { event = event; done = done }) [] (number, is_piece) (All-nil (IsPieceOf n));
    brings = record {
      lost = [];
      split = sym brings ∙ sym (append-nil (bytes_in event.kind)) ∙ sym (append-nil (bytes_in event.kind ++ []));
      is_lost = none [] refl;
    };
    stamps = stamped;
    written = subst (λ (text : List ℕ). IsWritten a b text result) (sym (append-nil (text_done done))) wrote;
  }

  -- a piece for which there is no stamp
  pub not_served : (state : HubState) (piece : List ℕ) (g h : Option (List Stamp)) (a : Option (List ℕ))
      → piece ≢ [] → Grows g h [] → IsPieceServed policy base entries n state state piece g h a a (Err NoStamp)
  not_served state piece g h a some none = record {
    turns = [];
    served = record {
      runs = refl;
      pieces = All-nil (IsPieceOf n);
      brings = record { lost = piece; split = refl; is_lost = some };
      stamps = none;
      written = Appends-nil a;
    };
    told = refl;
  }

  -- a piece that the hub answers a fault
  pub piece_denied : (state next : HubState) (event : HubEvent) (fault : HubFault) (piece : List ℕ) (g h : Option (List Stamp)) (a : Option (List ℕ))
      → Hears policy base entries event state (Err fault) next → event.connection ≡ n → IsPiece event.kind → bytes_in event.kind ≡ piece → Grows g h (event.stamp ∷ [])
      → IsPieceServed policy base entries n state next piece g h a a (Err (Hub fault))
  piece_denied state next event fault piece g h a hears number is_piece brings stamped = record {
    turns = record { event = event; done = Err fault } ∷ [];
    served = one_served state next event (Err fault) piece g h a a (Err (Hub fault)) hears number is_piece brings stamped (λ lost none. none) (Appends-nil a);
    told = (record { event = event; done = Err fault }, refl, refl);
  }

  -- a piece whose answer can't be written
  pub piece_unwritten : (state next : HubState) (event : HubEvent) (hub_outputs : List HubOutput) (piece : List ℕ) (g h : Option (List Stamp)) (a b : Option (List ℕ))
      → Hears policy base entries event state (Ok hub_outputs) next → event.connection ≡ n → IsPiece event.kind → bytes_in event.kind ≡ piece → Grows g h (event.stamp ∷ [])
      → AppendsFront a b (flat_map text_in hub_outputs) → IsPieceServed policy base entries n state next piece g h a b (Err Write)
  piece_unwritten state next event hub_outputs piece g h a b hears number is_piece brings stamped wrote = record {
    turns = record { event = event; done = Ok hub_outputs } ∷ [];
    served = one_served state next event (Ok hub_outputs) piece g h a b (Err Write) hears number is_piece brings stamped (λ lost none. none) wrote;
    told = (record { event = event; done = Ok hub_outputs }, refl, refl);
  }

  -- a piece that is answered
  pub piece_served : (state next : HubState) (event : HubEvent) (outputs : List Output) (piece : List ℕ) (g h : Option (List Stamp)) (a b : Option (List ℕ)) (w : Written)
      → Hears policy base entries event state (Ok (map output_of outputs)) next → event.connection ≡ n → IsPiece event.kind → bytes_in event.kind ≡ piece → Grows g h (event.stamp ∷ [])
      → Appends a b (flat_map text_in (map output_of outputs)) → w.replies ≡ count_by (λ o. is_reply (output_of o)) outputs → w.shut ≡ list_any (λ o. is_shutting (output_of o)) outputs
      → IsPieceServed policy base entries n state next piece g h a b (Ok w)
  piece_served state next event outputs piece g h a b w hears number is_piece brings stamped wrote replies shut = record {
    turns = record { event = event; done = Ok (map output_of outputs) } ∷ [];
    served = one_served state next event (Ok (map output_of outputs)) piece g h a b (Ok w) hears number is_piece brings stamped (λ lost none. none) wrote;
    told = record {
      turn = record { event = event; done = Ok (map output_of outputs) };
      turns_are = refl;
      well = refl;
      replies = replies ∙ sym (count_map is_reply output_of outputs);
      shut = shut ∙ sym (any_map is_shutting output_of outputs);
    };
  }

  -- the stream after a read that failed
  pub stream_unread : (state next : HubState) (xs : List AnsweredEvent) (bytes : List ℕ) (r s t : Option (List ℕ)) (g h : Option (List Stamp)) (a b : Option (List ℕ))
      → Consumes r s bytes → Keeps s t → AreServed policy base entries n {T = Unit {0}} state next xs bytes g h a b (Ok tt) → AreReadOn xs
      → IsStreamServed policy base entries n state next r t g h a b (Err Read)
  stream_unread state next xs bytes r s t g h a b consumed kept served read_on = record {
    turns = xs;
    bytes = bytes;
    consumed = Consumes-kept r s t bytes consumed kept;
    served = served_up_to state next xs bytes g h a b Read (λ lost none. none) (λ text all. all) served;
    ended = read_on;
    replies = tt;
  }

  -- the stream that was read too often
  pub stream_endless : (state next : HubState) (xs : List AnsweredEvent) (bytes : List ℕ) (r s : Option (List ℕ)) (g h : Option (List Stamp)) (a b : Option (List ℕ))
      → Consumes r s bytes → AreServed policy base entries n {T = Unit {0}} state next xs bytes g h a b (Ok tt) → All StaysOpen xs → length xs ≡ most_reads
      → IsStreamServed policy base entries n state next r s g h a b (Err Turns)
  stream_endless state next xs bytes r s g h a b consumed served stay many = record {
    turns = xs;
    bytes = bytes;
    consumed = consumed;
    served = served_up_to state next xs bytes g h a b Turns (λ lost none. none) (λ text all. all) served;
    ended = (stay, many);
    replies = tt;
  }

  -- the stream at its end
  pub stream_ended : (state next : HubState) (xs : List AnsweredEvent) (bytes piece : List ℕ) (r s t : Option (List ℕ)) (g h : Option (List Stamp)) (a b : Option (List ℕ)) (total : Served)
      → Consumes r s bytes → Consumes s t piece → piece ≡ [] → IsAtEnd t → AreServed policy base entries n {T = Unit {0}} state next xs bytes g h a b (Ok tt)
      → AreReadOn xs → total.replies ≡ min (2 ^ 64 - 1) (replies_of xs)
      → IsStreamServed policy base entries n state next r t g h a b (Ok total)
  stream_ended state next xs bytes piece r s t g h a b total before after none ends served read_on replies = record {
    turns = xs;
    bytes = bytes;
    consumed = subst (Consumes r t) (ap (λ (l : List ℕ). bytes ++ l) none ∙ append-nil bytes) (Consumes-trans r s t bytes piece before after);
    served = served_all state next xs bytes g h a b total served;
    ended = inl (ends, read_on);
    replies = replies;
  }

  -- the stream after a piece that couldn't be served
  pub stream_failed : (state mid next : HubState) (xs : List AnsweredEvent) (bytes piece : List ℕ) (r s t : Option (List ℕ)) (g h i : Option (List Stamp)) (a b c : Option (List ℕ)) (fault : IoFault)
      → Consumes r s bytes → Consumes s t piece → AreServed policy base entries n {T = Unit {0}} state mid xs bytes g h a b (Ok tt) → AreReadOn xs
      → IsPieceServed policy base entries n mid next piece h i b c (Err fault)
      → IsStreamServed policy base entries n state next r t g i a c (Err fault)
  stream_failed state mid next xs bytes piece r s t g h i a b c fault before after served read_on last = record {
    turns = xs ++ last.turns;
    bytes = bytes ++ piece;
    consumed = Consumes-trans r s t bytes piece before after;
    served = served_failing state mid next xs last.turns bytes piece g h i a b c fault served last.served;
    ended = end_failed xs last.turns fault read_on last.told;
    replies = tt;
  }

  -- the replies, with those of one piece more
  pub replies_more : (xs : List AnsweredEvent) (mid next : HubState) (piece : List ℕ) (h i : Option (List Stamp)) (b c : Option (List ℕ)) (w : Written) (total more : ℕ)
      → (last : IsPieceServed policy base entries n mid next piece h i b c (Ok w))
      → total ≡ min (2 ^ 64 - 1) (replies_of xs) → more ≡ min (total + w.replies) (2 ^ 64 - 1) → more ≡ min (2 ^ 64 - 1) (replies_of (xs ++ last.turns))
  replies_more xs mid next piece h i b c w total more last before added =
      let all = replies_on xs last.turns in
      let one = ap replies_of last.told.turns_are in
      let told = last.told.replies in
      omega (arith, before, added, all, one, told)

  -- the stream after a piece by which the connection was shut
  pub stream_shut : (state mid next : HubState) (xs : List AnsweredEvent) (bytes piece : List ℕ) (r s t : Option (List ℕ)) (g h i : Option (List Stamp)) (a b c : Option (List ℕ)) (w : Written) (sum : ℕ) (total : Served)
      → Consumes r s bytes → Consumes s t piece → AreServed policy base entries n {T = Unit {0}} state mid xs bytes g h a b (Ok tt)
      → AreReadOn xs → IsPieceServed policy base entries n mid next piece h i b c (Ok w) → w.shut ≡ true
      → sum ≡ min (2 ^ 64 - 1) (replies_of xs) → total.replies ≡ min (sum + w.replies) (2 ^ 64 - 1)
      → IsStreamServed policy base entries n state next r t g i a c (Ok total)
  stream_shut state mid next xs bytes piece r s t g h i a b c w sum total before after served read_on last shut counted added = record {
    turns = xs ++ last.turns;
    bytes = bytes ++ piece;
    consumed = Consumes-trans r s t bytes piece before after;
    served = served_all state next (xs ++ last.turns) (bytes ++ piece) g i a c total
        (served_well state mid next xs last.turns bytes piece g h i a b c w served last.served);
    ended = end_shut t xs last.turns w read_on last.told shut;
    replies = replies_more xs mid next piece h i b c w sum total.replies last counted added;
  }
