-- Parts of heads, one byte or a run further.
use Rattle.std.proofs.Common.{◌≡◌, ℕ, ◌<◌, ◌≤◌, ◌+◌, ◌⊎◌, Bool, true, false, cond, List, [], ◌∷◌, ◌++◌, length, reverse, refl, sym, ap, ◌∙◌, arith, inl, inr, eqb, ◌==◌}
use Rattle.std.specs.List.{ends_with}
use Rattle.std.proofs.lemmas.List.{append-nil, append_assoc, reverse-append}
use Rattle.std.proofs.lemmas.List.Sums.{sum_by-append}
use Rattle.std.proofs.lemmas.Grind.{common_steps}
use Rattle.std.proofs.lemmas.Slice.Eq.{ends_is}
use Rattle.std.proofs.lemmas.Bool.Decides.{Decides-eqb}
use Rattle.httparse.specs.Ascii.{line_feed}
use Rattle.httparse.specs.Grammar.{LineEnd, crlf, lf, print_end}
use Rattle.scim_wire.specs.Parts.{EndsHead, IsEmptyLine, IsHeadPart, feeds}

-- a front of a list and one more element is the whole, or a front of the list
pub front_push : {X : Type 0} (xs : List X) (x : X) (front back : List X) → xs ++ x ∷ [] ≡ front ++ back
    → (front ≡ xs ++ x ∷ []) ⊎ ((mid : List X) × (xs ≡ front ++ mid))
front_push xs x [] back e = inr (xs, refl)
front_push [] x (f ∷ []) back e = inl cc
front_push [] x (f ∷ g ∷ front) back e = inl cc
front_push {X = X} (y ∷ xs) x (f ∷ front) back e = at_rest (front_push xs x front back cc)
  where
    at_rest : (front ≡ xs ++ x ∷ []) ⊎ ((mid : List X) × (xs ≡ front ++ mid))
        → (f ∷ front ≡ y ∷ (xs ++ x ∷ [])) ⊎ ((mid : List X) × (y ∷ xs ≡ f ∷ (front ++ mid)))
    at_rest (inl same) = inl cc
    at_rest (inr (mid, split)) = inr (mid, cc)

-- what holds of no front of a list holds of no front of it and one more element, if not of the whole
pub none_push : (P : List ℕ → Type 0) (xs : List ℕ) (x : ℕ)
    → ((front back : List ℕ) → xs ≡ front ++ back → P front → ⊥)
    → (P (xs ++ x ∷ []) → ⊥)
    → (front back : List ℕ) → xs ++ x ∷ [] ≡ front ++ back → P front → ⊥
none_push P xs x fronts whole front back e p = by_case (front_push xs x front back e)
  where
    by_case : (front ≡ xs ++ x ∷ []) ⊎ ((mid : List ℕ) × (xs ≡ front ++ mid)) → ⊥
    by_case (inl same) = whole (rw same at p)
    by_case (inr (mid, split)) = fronts front mid split p

-- the last elements of one list are the same
same_last : (xs ys : List ℕ) (x y : ℕ) → xs ++ x ∷ [] ≡ ys ++ y ∷ [] → x ≡ y
same_last xs ys x y e = let r = simp reverse-append at (ap reverse e) in cc

-- the list ends in a line feed
abbrev IsFed : List ℕ → Type 0
IsFed bytes = (front : List ℕ) × (bytes ≡ front ++ line_feed ∷ [])

line_fed : (bytes : List ℕ) → IsEmptyLine bytes → IsFed bytes
line_fed bytes (lf, e) = ([], e)
line_fed bytes (crlf, e) = (13 ∷ [], e)

end_fed : (bytes : List ℕ) → EndsHead bytes → IsFed bytes
end_fed bytes (front, lf, e) = (front ++ 10 ∷ [], e ∙ sym (append_assoc front (10 ∷ []) (10 ∷ [])))
end_fed bytes (front, crlf, e) = (front ++ 10 ∷ 13 ∷ [], e ∙ sym (append_assoc front (10 ∷ 13 ∷ []) (10 ∷ [])))

-- what ends in another byte doesn't
not_fed : (old : List ℕ) (byte : ℕ) → feeds (byte ∷ []) ≡ 0 → ¬ (IsFed (old ++ byte ∷ []))
not_fed old byte none fed =
    let same : byte ≡ 10 = same_last old fed.0 byte 10 fed.1 in
    let one : feeds (byte ∷ []) ≡ 1 = rw same refl in
    omega (arith, none, one)

-- what holds only of what ends in a line feed, and of no front of a list, holds of no front of it and a run without line feeds
none_run : (P : List ℕ → Type 0) → ((bytes : List ℕ) → P bytes → IsFed bytes)
    → (old run : List ℕ) → feeds run ≡ 0
    → ((front back : List ℕ) → old ≡ front ++ back → P front → ⊥)
    → (front back : List ℕ) → old ++ run ≡ front ++ back → P front → ⊥
none_run P fed old [] none fronts front back e p = fronts front back (sym (append-nil old) ∙ e) p
none_run P fed old (byte ∷ run) none fronts front back e p =
    let each : feeds (byte ∷ run) ≡ feeds (byte ∷ []) + feeds run = sum_by-append (λ b. cond (b == 10) 1 0) (byte ∷ []) run in
    let whole : P (old ++ byte ∷ []) → ⊥ = λ q. not_fed old byte (omega (arith, each, none)) (fed (old ++ byte ∷ []) q) in
    none_run P fed (old ++ byte ∷ []) run (omega (arith, each, none)) (none_push P old byte fronts whole) front back (append_assoc old (byte ∷ []) run ∙ e) p

-- a run without line feeds adds none
pub feeds_run : (old run : List ℕ) → feeds run ≡ 0 → feeds (old ++ run) ≡ feeds old
feeds_run old run none = omega (arith, sum_by-append (λ b. cond (b == 10) 1 0) old run)

-- a run without line feeds that is short enough only lengthens a part
pub part_run : (old run : List ℕ) → IsHeadPart old → feeds run ≡ 0 → length (old ++ run) < 16384 → IsHeadPart (old ++ run)
part_run old run part none short = record {
  begun = none_run IsEmptyLine line_fed old run none part.begun;
  unended = none_run EndsHead end_fed old run none part.unended;
  short = short;
  few = omega (arith, feeds_run old run none, part.few);
}

pub part_push : (old : List ℕ) (byte : ℕ) → IsHeadPart old
    → ¬ (IsEmptyLine (old ++ byte ∷ [])) → ¬ (EndsHead (old ++ byte ∷ []))
    → length (old ++ byte ∷ []) < 16384 → feeds (old ++ byte ∷ []) ≤ 66 → IsHeadPart (old ++ byte ∷ [])
part_push old byte part empty ends short few = record {
  begun = none_push IsEmptyLine old byte part.begun empty;
  unended = none_push EndsHead old byte part.unended ends;
  short = short;
  few = few;
}

nil_front : (front back : List ℕ) → [] ≡ front ++ back → front ≡ []
nil_front [] back e = refl
nil_front (f ∷ front) back e = cc

not_empty_line : (end : LineEnd) → [] ≡ print_end end → ⊥
not_empty_line crlf e = cc
not_empty_line lf e = cc

not_end : (front : List ℕ) (end : LineEnd) → [] ≡ front ++ 10 ∷ print_end end → ⊥
not_end [] end e = cc
not_end (f ∷ front) end e = cc

-- nothing has come
pub part_start : IsHeadPart []
part_start = record {
  begun = λ front back e line. not_empty_line line.0 (sym (nil_front front back e) ∙ line.1);
  unended = λ front back e ends. not_end ends.0 ends.1 (sym (nil_front front back e) ∙ ends.2);
  short = omega arith;
  few = omega arith;
}

pub feeds_push : (old : List ℕ) (byte : ℕ) → feeds (old ++ byte ∷ []) ≡ feeds old + cond (eqb byte 10) 1 0
feeds_push old byte = grind (arith, common_steps)

-- what the two tests of an end say
pub ends_lf : (bytes : List ℕ) (r : Bool) → r ≡ ends_with eqb bytes (10 ∷ 10 ∷ [])
    → (r ≡ true → EndsHead bytes) × ((front : List ℕ) → bytes ≡ front ++ 10 ∷ 10 ∷ [] → r ≡ true)
ends_lf bytes r e =
    let is = ends_is Decides-eqb bytes (10 ∷ 10 ∷ []) r e in (λ t. (_, lf, is.0 t), is.1)

pub ends_crlf : (bytes : List ℕ) (r : Bool) → r ≡ ends_with eqb bytes (10 ∷ 13 ∷ 10 ∷ [])
    → (r ≡ true → EndsHead bytes) × ((front : List ℕ) → bytes ≡ front ++ 10 ∷ 13 ∷ 10 ∷ [] → r ≡ true)
ends_crlf bytes r e =
    let is = ends_is Decides-eqb bytes (10 ∷ 13 ∷ 10 ∷ []) r e in (λ t. (_, crlf, is.0 t), is.1)

-- both tests
pub ends_by_tests : (bytes : List ℕ) (short long : Bool)
    → short ≡ ends_with eqb bytes (10 ∷ 10 ∷ []) → long ≡ ends_with eqb bytes (10 ∷ 13 ∷ 10 ∷ []) → short ≡ false
    → EndsHead bytes → long ≡ true
ends_by_tests bytes short long s l no_lf (front, lf, e) = absurd (cc ((ends_lf bytes short s).1 front e))
ends_by_tests bytes short long s l no_lf (front, crlf, e) = (ends_crlf bytes long l).1 front e
