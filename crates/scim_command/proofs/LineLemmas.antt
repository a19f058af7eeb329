-- Lines that tell events.
use Rattle.std.proofs.Common.{◌≡◌, ◌==◌, ◌∙◌, true, false, refl, sym, ap, subst, ℕ, zero, suc, ◌+◌, ◌<◌, List, [], ◌∷◌, ◌++◌, length, get_or, take, drop, map, Bor, arith}
use Rattle.std.specs.Prelude.{codes, Option, None, Some}
use Rattle.std.proofs.lemmas.List.{take_more, drop_more, take-append-drop, map-append, length-map, length-take-le}
use Rattle.scim_hub.specs.declared.owned_events.OwnedEvent.{OwnedEvent}
use Rattle.scim_hub.specs.HubStates.{owned_event_of}
use Rattle.scim_hub.specs.Events.{HubEventKind, joining, sending, leaving, HubEvent}
use Rattle.scim_command.specs.declared.event_lines.ToldEvent.{ToldEvent}
use Rattle.scim_command.specs.EventFiles.{IsNumberText, Tells, IsEventLine, AreEventLines, IsFaultyAt, without_empty_last}
use Rattle.scim_command.specs.code.Findings.{Finds, IsToldBy, IsAlone, told_event_of}

joined_only : (name text : List ℕ) (n : ℕ) (h : HubEventKind) → name ≡ codes "joined" → Tells name text n h → (h ≡ joining) × IsNumberText text n
joined_only name text n joining is (same, number) = (refl, number)
joined_only name text n (sending bytes) is (same, number, hex) = absurd (omega (arith, ap (λ (l : List ℕ). length l) (sym is ∙ same)))
joined_only name text n leaving is (same, number) = absurd (omega (arith, ap (λ (l : List ℕ). length l) (sym is ∙ same)))

left_only : (name text : List ℕ) (n : ℕ) (h : HubEventKind) → name ≡ codes "left" → Tells name text n h → (h ≡ leaving) × IsNumberText text n
left_only name text n joining is (same, number) = absurd (omega (arith, ap (λ (l : List ℕ). length l) (sym is ∙ same)))
left_only name text n (sending bytes) is (same, number, hex) = absurd (omega (arith, ap (λ (l : List ℕ). length l) (sym is ∙ same)))
left_only name text n leaving is (same, number) = (refl, number)

-- a connection joined, if the text is its number
pub joined_told : (name text : List ℕ) (found : Option ToldEvent) → name ≡ codes "joined" → Finds told_event_of (IsAlone joining text) found → Finds told_event_of (IsToldBy name text) found
joined_told name text (Some c) is alone = subst (λ (h : HubEventKind). Tells name text c.connection h) (sym alone.same) (is, alone.number)
joined_told name text None is none = λ x told. let only = joined_only name text x.connection x.kind is told in none x (record { same = only.0; number = only.1 })

-- or left
pub left_told : (name text : List ℕ) (found : Option ToldEvent) → name ≡ codes "left" → Finds told_event_of (IsAlone leaving text) found → Finds told_event_of (IsToldBy name text) found
left_told name text (Some c) is alone = subst (λ (h : HubEventKind). Tells name text c.connection h) (sym alone.same) (is, alone.number)
left_told name text None is none = λ x told. let only = left_only name text x.connection x.kind is told in none x (record { same = only.0; number = only.1 })

-- lines, and one more
pub lines_more : (ls : List (List ℕ)) (events : List HubEvent) (line : List ℕ) (event : HubEvent) → AreEventLines ls events → IsEventLine line event
    → AreEventLines (ls ++ line ∷ []) (events ++ event ∷ [])
lines_more [] events line event none is = (event, [], ap (λ (es : List HubEvent). es ++ event ∷ []) none, is, refl)
lines_more (l ∷ ls) events line event (first, rest, split, tells, are) is =
    (first, rest ++ event ∷ [], ap (λ (es : List HubEvent). es ++ event ∷ []) split, tells, lines_more ls rest line event are is)

abbrev text_of : Bor (List ℕ) → List ℕ
text_of line = line.now

-- the lines up to one, and that one
pub told_more : (ls : List (Bor (List ℕ))) (i : ℕ) (d : Bor (List ℕ)) (events after : List OwnedEvent) (event : OwnedEvent) → i < length ls → after ≡ events ++ event ∷ []
    → AreEventLines (map text_of (take i ls)) (map owned_event_of events) → IsEventLine (get_or ls i d).now (owned_event_of event)
    → AreEventLines (map text_of (take (i + 1) ls)) (map owned_event_of after)
told_more ls i d events after event inside pushed are is =
    subst (λ (texts : List (List ℕ)). AreEventLines texts (map owned_event_of after)) (sym (ap (map text_of) (take_more ls i d inside) ∙ map-append text_of (take i ls) (get_or ls i d ∷ [])))
    (subst (AreEventLines (map text_of (take i ls) ++ (get_or ls i d).now ∷ [])) (sym (ap (map owned_event_of) pushed ∙ map-append owned_event_of events (event ∷ [])))
    (lines_more (map text_of (take i ls)) (map owned_event_of events) (get_or ls i d).now (owned_event_of event) are is))

-- a line that tells nothing, behind lines that do
pub faulty_at : (ls : List (Bor (List ℕ))) (i : ℕ) (d : Bor (List ℕ)) (events : List HubEvent) → i < length ls → AreEventLines (map text_of (take i ls)) events
    → ((event : HubEvent) → ¬ (IsEventLine (get_or ls i d).now event)) → IsFaultyAt (map text_of ls) (i + 1)
faulty_at ls i d events inside are none = record {
  before = map text_of (take i ls);
  line = (get_or ls i d).now;
  after = map text_of (drop (i + 1) ls);
  split =
      ap (map text_of) (sym (take-append-drop i ls))
      ∙ map-append text_of (take i ls) (drop i ls)
      ∙ ap (λ (xs : List (Bor (List ℕ))). map text_of (take i ls) ++ map text_of xs) (drop_more ls i d inside);
  number = ap (λ (n : ℕ). n + 1) (sym (length-map (take i ls) text_of ∙ length-take-le i ls (omega (arith, inside))));
  events = events;
  told = are;
  faulty = none;
}

-- an empty last line is left out
pub empty_last : (ls : List (Bor (List ℕ))) (i : ℕ) (d : Bor (List ℕ)) → length ls ≡ suc i → (length (get_or ls i d).now == 0) ≡ true → map text_of (take i ls) ≡ without_empty_last (map text_of ls)
empty_last [] i d n empty = absurd (omega (arith, n))
empty_last (l ∷ []) zero d n empty = rw empty refl
empty_last (l ∷ []) (suc i) d n empty = absurd (omega (arith, n))
empty_last (l ∷ k ∷ ls) zero d n empty = absurd (omega (arith, n))
empty_last (l ∷ k ∷ ls) (suc i) d n empty = ap (λ texts. l.now ∷ texts) (empty_last (k ∷ ls) i d (omega (arith, n)) empty)

-- and any other stays
pub with_last : (ls : List (Bor (List ℕ))) (i : ℕ) (d : Bor (List ℕ)) → length ls ≡ suc i → (length (get_or ls i d).now == 0) ≡ false → map text_of ls ≡ without_empty_last (map text_of ls)
with_last [] i d n some = absurd (omega (arith, n))
with_last (l ∷ []) zero d n some = rw some refl
with_last (l ∷ []) (suc i) d n some = absurd (omega (arith, n))
with_last (l ∷ k ∷ ls) zero d n some = absurd (omega (arith, n))
with_last (l ∷ k ∷ ls) (suc i) d n some = ap (λ texts. l.now ∷ texts) (with_last (k ∷ ls) i d (omega (arith, n)) some)
