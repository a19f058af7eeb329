-- A stream is read in one way.
use Rattle.std.proofs.Common.{◌≡◌, ℕ, ◌≤◌, ◌+◌, ◌⊎◌, List, [], ◌∷◌, ◌++◌, length, refl, sym, ap, ◌∙◌, arith, inl, inr, ◌==◌, cond}
use Rattle.std.proofs.lemmas.List.{append-nil, append_assoc, length-append, nil_from_length}
use Rattle.std.proofs.lemmas.List.Sums.{count_by-le-length, sum_by-append}
use Rattle.httparse.specs.Grammar.{LineEnd, crlf, lf, print_end, print_blank}
use Rattle.scim_wire.specs.Parts.{EndsHead, IsEmptyLine, IsHeadPart, IsHeadText, IsOverlong, feeds}
use Rattle.scim_wire.specs.Streams.{OpensThen, IsOpening}
use Rattle.scim_wire.proofs.PartLemmas.{front_push}

-- of two fronts of one list, one is a front of the other
pub two_fronts : (a x b y : List ℕ) → a ++ x ≡ b ++ y
    → ((m : List ℕ) × (b ≡ a ++ m) × (x ≡ m ++ y)) ⊎ ((m : List ℕ) × (a ≡ b ++ m) × (y ≡ m ++ x))
two_fronts [] x b y e = inl (b, refl, e)
two_fronts (c ∷ a) x [] y e = inr (c ∷ a, refl, sym e)
two_fronts (c ∷ a) x (d ∷ b) y e = longer (two_fronts a x b y cc)
  where
    longer : ((m : List ℕ) × (b ≡ a ++ m) × (x ≡ m ++ y)) ⊎ ((m : List ℕ) × (a ≡ b ++ m) × (y ≡ m ++ x))
        → ((m : List ℕ) × (d ∷ b ≡ c ∷ (a ++ m)) × (x ≡ m ++ y)) ⊎ ((m : List ℕ) × (c ∷ a ≡ d ∷ (b ++ m)) × (y ≡ m ++ x))
    longer (inl (m, s, t)) = inl (m, cc, t)
    longer (inr (m, s, t)) = inr (m, cc, t)

-- no front of the text is an empty line
abbrev pub IsBegun : List ℕ → Type 0
IsBegun text = (front back : List ℕ) → text ≡ front ++ back → ¬ (IsEmptyLine front)

-- the empty lines in front are told from what has begun
pub blank_unique : (a b : List LineEnd) (s t : List ℕ) → IsBegun s → IsBegun t → print_blank a ++ s ≡ print_blank b ++ t → s ≡ t
blank_unique [] [] s t begun_s begun_t e = e
blank_unique [] (end ∷ b) s t begun_s begun_t e = absurd (begun_s (print_end end) (print_blank b ++ t) (e ∙ append_assoc (print_end end) (print_blank b) t) (end, refl))
blank_unique (end ∷ a) [] s t begun_s begun_t e = absurd (begun_t (print_end end) (print_blank a ++ s) (sym e ∙ append_assoc (print_end end) (print_blank a) s) (end, refl))
blank_unique (crlf ∷ a) (crlf ∷ b) s t begun_s begun_t e = blank_unique a b s t begun_s begun_t cc
blank_unique (lf ∷ a) (lf ∷ b) s t begun_s begun_t e = blank_unique a b s t begun_s begun_t cc
blank_unique (crlf ∷ a) (lf ∷ b) s t begun_s begun_t e = cc
blank_unique (lf ∷ a) (crlf ∷ b) s t begun_s begun_t e = cc

line_len : (front : List ℕ) → IsEmptyLine front → length front ≤ 2
line_len front (crlf, e) = rw e (omega arith)
line_len front (lf, e) = rw e (omega arith)

end_len : (end : LineEnd) → 1 ≤ length (print_end end)
end_len crlf = omega arith
end_len lf = omega arith

ends_len : (text : List ℕ) → EndsHead text → 2 ≤ length text
ends_len text (front, end, e) = omega (arith, ap length e, length-append front (10 ∷ print_end end), end_len end)

-- an empty line ends no head
line_no_end : (text : List ℕ) → IsEmptyLine text → EndsHead text → ⊥
line_no_end text (lf, line) ends = omega (arith, ap length line, ends_len text ends)
line_no_end text (crlf, line) ([], end, e) = cc
line_no_end text (crlf, line) (f ∷ front, end, e) =
    let rest : 10 ∷ [] ≡ front ++ 10 ∷ print_end end = cc in
    omega (arith, ap length rest, length-append front (10 ∷ print_end end), end_len end)

-- what has begun, with what follows
begun_more : (text after : List ℕ) → IsBegun text → 2 ≤ length text → IsBegun (text ++ after)
begun_more text after begun long front back e line = by_front (two_fronts text after front back e)
  where
    by_front : ((m : List ℕ) × (front ≡ text ++ m) × (after ≡ m ++ back)) ⊎ ((m : List ℕ) × (text ≡ front ++ m) × (back ≡ m ++ after)) → ⊥
    by_front (inl (m, s, _)) =
        let none : m ≡ [] = nil_from_length m (omega (arith, ap length s, length-append text m, line_len front line)) in
        begun text [] (sym (append-nil text)) (rw (s ∙ ap (λ x. text ++ x) none ∙ append-nil text) at line)
    by_front (inr (m, s, _)) = begun front m s line

-- one byte more than a part has begun, if the whole is no empty line
begun_push : (part : List ℕ) (byte : ℕ) (text : List ℕ) → text ≡ part ++ byte ∷ [] → IsHeadPart part → (IsEmptyLine text → ⊥) → IsBegun text
begun_push part byte text split is_part whole front back e line = by_front (front_push part byte front back (sym split ∙ e))
  where
    by_front : (front ≡ part ++ byte ∷ []) ⊎ ((mid : List ℕ) × (part ≡ front ++ mid)) → ⊥
    by_front (inl same) = whole (rw (same ∙ sym split) at line)
    by_front (inr (mid, s)) = is_part.begun front mid s line

pub text_begun : (text after : List ℕ) → IsHeadText text → IsBegun (text ++ after)
text_begun text after is = begun_more text after
    (begun_push is.part is.last text is.split is.is_part (λ line. line_no_end text line is.ends)) (ends_len text is.ends)

over_len : (text : List ℕ) → IsOverlong text → 3 ≤ length text
over_len text is = elim is.over [ inl many ↦ omega (arith, count_by-le-length (λ b. b == 10) text) | inr full ↦ omega (arith, full.0) ]

pub overlong_begun : (text after : List ℕ) → IsOverlong text → IsBegun (text ++ after)
overlong_begun text after is = begun_more text after
    (begun_push is.part is.last text is.split is.is_part (λ line. omega (arith, line_len text line, over_len text is))) (omega (arith, over_len text is))

-- a front of one byte more than a part, with something after it, is a front of the part
within_part : (part : List ℕ) (byte : ℕ) (front : List ℕ) (c : ℕ) (back : List ℕ) → part ++ byte ∷ [] ≡ front ++ c ∷ back
    → (mid : List ℕ) × (part ≡ front ++ mid)
within_part part byte front c back e = by_front (front_push part byte front (c ∷ back) e)
  where
    by_front : (front ≡ part ++ byte ∷ []) ⊎ ((mid : List ℕ) × (part ≡ front ++ mid)) → (mid : List ℕ) × (part ≡ front ++ mid)
    by_front (inl same) = absurd (omega (arith, ap length same, ap length e, length-append front (c ∷ back)))
    by_front (inr found) = found

-- no head's text goes on to another
head_cut : (t u m : List ℕ) → IsHeadText u → EndsHead t → u ≡ t ++ m → t ≡ u
head_cut t u [] is ends e = sym (e ∙ append-nil t)
head_cut t u (c ∷ m) is ends e =
    let found = within_part is.part is.last t c m (sym is.split ∙ e) in
    absurd (is.is_part.unended t found.0 found.1 ends)

pub texts_unique : (t a u b : List ℕ) → IsHeadText t → IsHeadText u → t ++ a ≡ u ++ b → t ≡ u
texts_unique t a u b is_t is_u e = by_front (two_fronts t a u b e)
  where
    by_front : ((m : List ℕ) × (u ≡ t ++ m) × (a ≡ m ++ b)) ⊎ ((m : List ℕ) × (t ≡ u ++ m) × (b ≡ m ++ a)) → t ≡ u
    by_front (inl (m, s, _)) = head_cut t u m is_u is_t.ends s
    by_front (inr (m, s, _)) = sym (head_cut u t m is_t is_u.ends s)

pub text_not_unended : (P : List ℕ → Type 0) (s a part : List ℕ) (x : OpensThen P s a) → IsHeadText x.text → IsOpening s part → ⊥
text_not_unended P s a part x is y =
    let e : x.text ++ a ≡ part = blank_unique x.blank y.blank _ _ (text_begun x.text a is) y.is_part.begun (sym x.split ∙ y.split) in
    y.is_part.unended x.text a (sym e) is.ends

-- a front of a part passes no limit
short_front : (part front back : List ℕ) → IsHeadPart part → part ≡ front ++ back → IsOverlong front → ⊥
short_front part front back is_part e is =
    let few : feeds part ≡ feeds front + feeds back = ap feeds e ∙ sum_by-append (λ b. cond (b == 10) 1 0) front back in
    elim is.over [ inl many ↦ omega (arith, few, is_part.few) | inr full ↦ omega (arith, full.0, ap length e, length-append front back, is_part.short) ]

pub overlong_not_unended : (P : List ℕ → Type 0) (s a part : List ℕ) (x : OpensThen P s a) → IsOverlong x.text → IsOpening s part → ⊥
overlong_not_unended P s a part x is y =
    let e : x.text ++ a ≡ part = blank_unique x.blank y.blank _ _ (overlong_begun x.text a is) y.is_part.begun (sym x.split ∙ y.split) in
    short_front part x.text a y.is_part (sym e) is

pub not_both : (text : List ℕ) → IsHeadText text → IsOverlong text → ⊥
not_both text is over = elim over.over [ inl many ↦ omega (arith, is.few) | inr full ↦ full.1 is.ends ]

-- what is too long for a head goes on to nothing that is so first
overlong_cut : (t u m : List ℕ) → IsOverlong t → IsOverlong u → u ≡ t ++ m → t ≡ u
overlong_cut t u [] over is e = sym (e ∙ append-nil t)
overlong_cut t u (c ∷ m) over is e =
    let found = within_part is.part is.last t c m (sym is.split ∙ e) in
    absurd (short_front is.part t found.0 is.is_part found.1 over)

pub overlongs_unique : (t a u b : List ℕ) → IsOverlong t → IsOverlong u → t ++ a ≡ u ++ b → t ≡ u
overlongs_unique t a u b is_t is_u e = by_front (two_fronts t a u b e)
  where
    by_front : ((m : List ℕ) × (u ≡ t ++ m) × (a ≡ m ++ b)) ⊎ ((m : List ℕ) × (t ≡ u ++ m) × (b ≡ m ++ a)) → t ≡ u
    by_front (inl (m, s, _)) = overlong_cut t u m is_t is_u s
    by_front (inr (m, s, _)) = sym (overlong_cut u t m is_u is_t s)

-- of a head's text and what is too long for one, neither is a front of the other
pub text_not_overlong : (t a u b : List ℕ) → IsHeadText t → IsOverlong u → t ++ a ≡ u ++ b → ⊥
text_not_overlong t a u b is over e = by_front (two_fronts t a u b e)
  where
    same : (m : List ℕ) → t ≡ u ++ m → ⊥
    same [] s = not_both u (rw (s ∙ append-nil u) at is) over
    same (c ∷ m) s =
        let found = within_part is.part is.last u c m (sym is.split ∙ s) in
        short_front is.part u found.0 is.is_part found.1 over

    longer : (m : List ℕ) → u ≡ t ++ m → ⊥
    longer [] s = not_both u (rw (sym (s ∙ append-nil t)) at is) over
    longer (c ∷ m) s =
        let found = within_part over.part over.last t c m (sym over.split ∙ s) in
        over.is_part.unended t found.0 found.1 is.ends

    by_front : ((m : List ℕ) × (u ≡ t ++ m) × (a ≡ m ++ b)) ⊎ ((m : List ℕ) × (t ≡ u ++ m) × (b ≡ m ++ a)) → ⊥
    by_front (inl (m, s, _)) = longer m s
    by_front (inr (m, s, _)) = same m s
