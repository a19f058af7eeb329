-- Connections that were shut are to be closed, after a change.
use Rattle.std.proofs.Common.{◌≡◌, ◌∙◌, refl, sym, ap, subst, ℕ, ◌+◌, ◌<◌, ◌≤◌, ◌==◌, Bool, true, false, List, [], ◌∷◌, ◌++◌, map, take, arith, if◌then◌else◌}
use Rattle.std.specs.Prelude.{◌||◌, ◌≢◌, Option, None, Some, Result}
use Rattle.std.specs.Option.{option_map}
use Rattle.std.specs.List.{list_any}
use Rattle.std.proofs.Math.Bool.{or-false}
use Rattle.std.proofs.lemmas.Bool.{eqb-true}
use Rattle.std.proofs.lemmas.List.{append-nil, map-append}
use Rattle.std.proofs.lemmas.List.Folds.{list_any-append}
use Rattle.scim_hub.specs.declared.events.HubFault.{HubFault}
use Rattle.scim_hub.specs.declared.events.Output.{Output}
use Rattle.scim_hub.specs.HubStates.{output_of}
use Rattle.scim_hub.specs.Events.{HubOutput}
use Rattle.scim_serve.specs.declared.pending_bytes.Waiting.{Waiting}
use Rattle.scim_serve.specs.Serving.{shuts, shut_for, is_shut}
use Rattle.scim_serve.specs.code.Rests.{Rest, no_rest, finished, with_more}
use Rattle.scim_serve.specs.code.Waiting.{waiting_for, Becomes}
use Rattle.scim_serve.specs.code.Levels.{IsOnlyFor}
use Rattle.scim_serve.specs.code.Closings.{IsMarked, Marks, IsClosing}
use Rattle.scim_serve.proofs.FitLemmas.{none_of_both}

-- whether a connection that can be written to is to be closed
abbrev closing_of : Option Rest → Bool
closing_of None = false
closing_of (Some rest) = rest.closing

-- the pending bytes of a connection that can be written to
abbrev bytes_of : Option Rest → List ℕ
bytes_of None = []
bytes_of (Some rest) = rest.bytes

-- nothing is pending for a connection that is to be closed
pub is_finished : (rest : Rest) → rest.bytes ≡ [] → rest.closing ≡ true → rest ≡ finished
is_finished rest none closing = ap (λ (b : List ℕ). record rest { bytes = b }) none ∙ ap (λ (c : Bool). record { bytes = []; closing = c }) closing

-- at the start nothing was shut
pub closing_first : (waiting : Waiting) → ((m : ℕ) → waiting_for waiting m ≡ None) → IsClosing waiting (λ m. is_shut m [])
closing_first waiting none = record {
  unfinished = λ m e. let n = none m in cc;
  marked = λ m shut. absurd (let s = shut in cc);
  fresh = λ m above. refl;
}

-- an event of a connection whose number was noted
pub closing_on : (old new : Waiting) (shut : ℕ → Bool) (n : ℕ) (result : Result (List HubOutput) HubFault)
    → Marks (λ m. shut_for m result) old new → ((m : ℕ) → ((n ≡ m → ⊥) → shut_for m result ≡ false) → waiting_for old m ≢ Some finished → waiting_for new m ≢ Some finished)
    → new.next ≡ old.next → n < old.next → IsOnlyFor n result → IsClosing old shut → IsClosing new (λ m. shut m || shut_for m result)
closing_on old new shut n result marks unfinished next noted only closing = record {
  unfinished = λ m. unfinished m (λ apart. (only m apart).1) (closing.unfinished m);
  marked = λ m. marks m (shut m) (closing.marked m);
  fresh = λ m above.
      ap (λ (b : Bool). b || shut_for m result) (closing.fresh m (omega (arith, next, above)))
      ∙ (only m (λ (e : n ≡ m). absurd (omega (arith, next, above, noted, e)))).1;
}

-- the same connections are to be closed
pub closing_kept : (old new : Waiting) (shut : ℕ → Bool) → ((m : ℕ) (s : Bool) → IsMarked (waiting_for old m) s → IsMarked (waiting_for new m) s)
    → ((m : ℕ) → waiting_for old m ≢ Some finished → waiting_for new m ≢ Some finished) → new.next ≡ old.next → IsClosing old shut → IsClosing new shut
closing_kept old new shut marks unfinished next closing = record {
  unfinished = λ m. unfinished m (closing.unfinished m);
  marked = λ m. marks m (shut m) (closing.marked m);
  fresh = λ m above. closing.fresh m (omega (arith, next, above));
}

entered_marked : (here : Bool) (o : Option Rest) (shut : Bool) → IsMarked o shut → (here ≡ true → shut ≡ false) → IsMarked (if here then Some no_rest else o) shut
entered_marked true o shut marked none = λ s. absurd (let n = none refl in let t = s in cc)
entered_marked false o shut marked none = marked

entered_unfinished : (here : Bool) (o : Option Rest) → o ≢ Some finished → (if here then Some no_rest else o) ≢ Some finished
entered_unfinished true o before = λ e. absurd (let s = ap closing_of e in cc)
entered_unfinished false o before = before

-- a connection with a new number can be written to
pub closing_entered : (old mid new : Waiting) (shut : ℕ → Bool) (n : ℕ) → old.next ≤ n → ((m : ℕ) → waiting_for mid m ≡ waiting_for old m) → old.next ≤ mid.next
    → Becomes n (Some no_rest) mid new → IsClosing old shut → IsClosing new shut
closing_entered old mid new shut n above same higher becomes closing = record {
  unfinished = λ m. subst (λ (o : Option Rest). o ≢ Some finished) (sym (becomes.waits m))
      (entered_unfinished (n == m) (waiting_for mid m) (subst (λ (o : Option Rest). o ≢ Some finished) (sym (same m)) (closing.unfinished m)));
  marked = λ m. subst (λ (o : Option Rest). IsMarked o (shut m)) (sym (becomes.waits m))
      (entered_marked (n == m) (waiting_for mid m) (shut m) (subst (λ (o : Option Rest). IsMarked o (shut m)) (sym (same m)) (closing.marked m))
      (λ e. let is = eqb-true n m e in closing.fresh m (omega (arith, above, is))));
  fresh = λ m over. closing.fresh m (omega (arith, higher, over, becomes.next));
}

no_more : (rest : Option Rest) (text : List ℕ) → text ≡ [] → option_map (with_more text) rest ≡ rest
no_more None text none = refl
no_more (Some rest) text none = ap (λ (t : List ℕ). Some (record rest { bytes = t })) (ap (λ (t : List ℕ). rest.bytes ++ t) none ∙ append-nil rest.bytes)

same_if : (here : Bool) (a o : Option Rest) (text : List ℕ) → (here ≡ true → a ≡ o) → (if here then text else []) ≡ [] → (if here then option_map (with_more text) a else o) ≡ o
same_if true a o text same none = no_more a text none ∙ same refl
same_if false a o text same none = refl

-- no text for a connection
pub text_none : (n m : ℕ) (old new : Waiting) (text : List ℕ) → Becomes n (option_map (with_more text) (waiting_for old n)) old new → (if n == m then text else []) ≡ []
    → waiting_for new m ≡ waiting_for old m
text_none n m old new text becomes none =
    becomes.waits m ∙ same_if (n == m) (waiting_for old n) (waiting_for old m) text (λ e. ap (waiting_for old) (eqb-true n m e)) none

more_unfinished : (rest : Option Rest) (text : List ℕ) → rest ≢ Some finished → option_map (with_more text) rest ≢ Some finished
more_unfinished None text before = before
more_unfinished (Some rest) text before = λ e. before (ap Some (is_finished rest (none_of_both rest.bytes text (ap bytes_of e)).0 (ap closing_of e)))

added_unfinished : (here : Bool) (a o : Option Rest) (text : List ℕ) → (here ≡ true → a ≡ o) → o ≢ Some finished → (if here then option_map (with_more text) a else o) ≢ Some finished
added_unfinished true a o text same before = more_unfinished a text (λ e. before (sym (same refl) ∙ e))
added_unfinished false a o text same before = before

-- text for one connection
pub text_unfinished : (n m : ℕ) (old new : Waiting) (text : List ℕ) → Becomes n (option_map (with_more text) (waiting_for old n)) old new
    → waiting_for old m ≢ Some finished → waiting_for new m ≢ Some finished
text_unfinished n m old new text becomes before =
    subst (λ (o : Option Rest). o ≢ Some finished) (sym (becomes.waits m))
    (added_unfinished (n == m) (waiting_for old n) (waiting_for old m) text (λ e. ap (waiting_for old) (eqb-true n m e)) before)

more_marked : (rest : Option Rest) (text : List ℕ) (shut : Bool) → IsMarked rest shut → IsMarked (option_map (with_more text) rest) shut
more_marked None text shut marked = marked
more_marked (Some rest) text shut marked = marked

added_marked : (here : Bool) (a o : Option Rest) (text : List ℕ) (shut : Bool) → (here ≡ true → a ≡ o) → IsMarked o shut → IsMarked (if here then option_map (with_more text) a else o) shut
added_marked true a o text shut same marked = more_marked a text shut (subst (λ (x : Option Rest). IsMarked x shut) (sym (same refl)) marked)
added_marked false a o text shut same marked = marked

pub text_marked : (n m : ℕ) (old new : Waiting) (text : List ℕ) (shut : Bool) → Becomes n (option_map (with_more text) (waiting_for old n)) old new
    → IsMarked (waiting_for old m) shut → IsMarked (waiting_for new m) shut
text_marked n m old new text shut becomes marked =
    subst (λ (o : Option Rest). IsMarked o shut) (sym (becomes.waits m))
    (added_marked (n == m) (waiting_for old n) (waiting_for old m) text shut (λ e. ap (waiting_for old) (eqb-true n m e)) marked)

-- which connections the outputs up to one shut, and that one
pub shuts_more : (m i : ℕ) (outputs : List Output) (output : Output) → take (i + 1) outputs ≡ take i outputs ++ output ∷ []
    → list_any (shuts m) (map output_of (take (i + 1) outputs)) ≡ (list_any (shuts m) (map output_of (take i outputs)) || shuts m (output_of output))
shuts_more m i outputs output more =
    ap (λ (xs : List Output). list_any (shuts m) (map output_of xs)) more
    ∙ ap (list_any (shuts m)) (map-append output_of (take i outputs) (output ∷ []))
    ∙ list_any-append (shuts m) (map output_of (take i outputs)) (output_of output ∷ [])
    ∙ ap (λ (b : Bool). list_any (shuts m) (map output_of (take i outputs)) || b) (or-false (shuts m (output_of output)))

-- whether a connection is shut after one more event
pub shut_more : (m : ℕ) (results : List (Result (List HubOutput) HubFault)) (result : Result (List HubOutput) HubFault) → is_shut m (results ++ result ∷ []) ≡ (is_shut m results || shut_for m result)
shut_more m results result = list_any-append (shut_for m) results (result ∷ []) ∙ ap (λ (b : Bool). is_shut m results || b) (or-false (shut_for m result))

pub closing_more : (waiting : Waiting) (results : List (Result (List HubOutput) HubFault)) (result : Result (List HubOutput) HubFault)
    → IsClosing waiting (λ m. is_shut m results || shut_for m result) → IsClosing waiting (λ m. is_shut m (results ++ result ∷ []))
closing_more waiting results result closing = record {
  unfinished = closing.unfinished;
  marked = λ m. subst (IsMarked (waiting_for waiting m)) (sym (shut_more m results result)) (closing.marked m);
  fresh = λ m above. shut_more m results result ∙ closing.fresh m above;
}
