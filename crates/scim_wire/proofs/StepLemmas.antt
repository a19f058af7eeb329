-- What is kept of a stream, one byte or a run further.
use Rattle.std.proofs.Common.{◌≡◌, ℕ, ◌<◌, ◌≤◌, ◌+◌, ◌⊎◌, List, [], ◌∷◌, ◌++◌, length, refl, sym, ap, ◌∙◌, Bool, true, false, cond, eqb}
use mir.Val.{bool_byte}
use Rattle.std.proofs.lemmas.List.{append-nil, append_assoc}
use Rattle.std.proofs.lemmas.List.Concat.{flat_map-append}
use Rattle.httparse.specs.Grammar.{LineEnd, print_end, print_blank}
use Rattle.scim_wire.specs.Parts.{EndsHead, IsHeadText, IsEmptyLine, IsOverlong, feeds}
use Rattle.scim_wire.specs.Streams.{OpensThen, IsOpening}
use Rattle.scim_wire.proofs.PartLemmas.{part_start, part_push, part_run, feeds_push, feeds_run}

-- what opens bytes opens them whatever follows
pub then_more : (IsText : List ℕ → Type 0) (bytes after more : List ℕ) → OpensThen IsText bytes after → OpensThen IsText (bytes ++ more) (after ++ more)
then_more IsText bytes after more opens = record {
  blank = opens.blank;
  text = opens.text;
  split = rw opens.split (simp append_assoc);
  is_text = opens.is_text;
}

-- a text of one kind is one of another
pub then_map : (IsText IsOther : List ℕ → Type 0) → ((text : List ℕ) → IsText text → IsOther text) → (bytes after : List ℕ)
    → OpensThen IsText bytes after → OpensThen IsOther bytes after
then_map IsText IsOther each bytes after opens = record {
  blank = opens.blank;
  text = opens.text;
  split = opens.split;
  is_text = each opens.text opens.is_text;
}

-- empty lines alone
pub opening_start : (blank : List LineEnd) → IsOpening (print_blank blank) []
opening_start blank = record { blank = blank; split = sym (append-nil (print_blank blank)); is_part = part_start }

blank_push : (blank : List LineEnd) (end : LineEnd) → print_blank (blank ++ end ∷ []) ≡ print_blank blank ++ print_end end
blank_push blank end = flat_map-append print_end blank (end ∷ []) ∙ ap (λ x. print_blank blank ++ x) (append-nil (print_end end))

-- where the part stands, with some bytes more
more_split : (bytes old new more : List ℕ) (opening : IsOpening bytes old) → new ≡ old ++ more → bytes ++ more ≡ print_blank opening.blank ++ new
more_split bytes old new more opening is =
    ap (λ x. x ++ more) opening.split ∙ append_assoc (print_blank opening.blank) old more
    ∙ ap (λ x. print_blank opening.blank ++ x) (sym is)

-- a run without line feeds that leaves the part short enough: still no end
pub opening_run : (bytes old new run : List ℕ) → IsOpening bytes old → new ≡ old ++ run → feeds run ≡ 0 → length new < 16384
    → IsOpening (bytes ++ run) new × (feeds new ≡ feeds old)
opening_run bytes old new run opening is none short = (
  record {
    blank = opening.blank;
    split = more_split bytes old new run opening is;
    is_part = rw is (part_run old run opening.is_part none (rw is at short));
  },
  ap feeds is ∙ feeds_run old run none,
)

-- one byte more: still no end
pub opening_push : (bytes old new : List ℕ) (byte : ℕ) → IsOpening bytes old → new ≡ old ++ byte ∷ []
    → ¬ (IsEmptyLine new) → ¬ (EndsHead new) → length new < 16384 → feeds new ≤ 66
    → IsOpening (bytes ++ byte ∷ []) new
opening_push bytes old new byte opening is empty ends short few = record {
  blank = opening.blank;
  split = more_split bytes old new (byte ∷ []) opening is;
  is_part = rw is (part_push old byte opening.is_part (rw is at empty) (rw is at ends) (rw is at short) (rw is at few));
}

-- one byte more: an empty line
pub opening_empty : (bytes old new : List ℕ) (byte : ℕ) → IsOpening bytes old → new ≡ old ++ byte ∷ []
    → IsEmptyLine new → (blank : List LineEnd) × (bytes ++ byte ∷ [] ≡ print_blank blank)
opening_empty bytes old new byte opening is (end, line) = (
  opening.blank ++ end ∷ [],
  more_split bytes old new (byte ∷ []) opening is ∙ ap (λ x. print_blank opening.blank ++ x) line ∙ sym (blank_push opening.blank end),
)

-- one byte more, and it is a text
opening_text : (bytes old new : List ℕ) (byte : ℕ) (IsText : List ℕ → Type 0) → IsOpening bytes old → new ≡ old ++ byte ∷ []
    → IsText new → OpensThen IsText (bytes ++ byte ∷ []) []
opening_text bytes old new byte IsText opening is is_text = record {
  blank = opening.blank;
  text = new;
  split = more_split bytes old new (byte ∷ []) opening is ∙ ap (λ x. print_blank opening.blank ++ x) (sym (append-nil new));
  is_text = is_text;
}

-- one byte more: a limit is passed
pub opening_overlong : (bytes old new : List ℕ) (byte : ℕ) → IsOpening bytes old → new ≡ old ++ byte ∷ []
    → (66 < feeds new) ⊎ ((length new ≡ 16384) × ¬ (EndsHead new)) → OpensThen IsOverlong (bytes ++ byte ∷ []) []
opening_overlong bytes old new byte opening is over =
    opening_text bytes old new byte IsOverlong opening is
    (record { part = old; last = byte; split = is; is_part = opening.is_part; over = over })

-- one byte more: the head ends
pub opening_ended : (bytes old new : List ℕ) (byte : ℕ) → IsOpening bytes old → new ≡ old ++ byte ∷ []
    → EndsHead new → feeds new ≤ 66 → OpensThen (λ text. IsHeadText text × (text ≡ new)) (bytes ++ byte ∷ []) []
opening_ended bytes old new byte opening is ends few =
    opening_text bytes old new byte (λ text. IsHeadText text × (text ≡ new)) opening is
    (record { part = old; last = byte; split = is; is_part = opening.is_part; ends = ends; few = few }, refl)

bool_byte_is : (b : Bool) → bool_byte b ≡ cond b 1 0
bool_byte_is true = refl
bool_byte_is false = refl

-- the count of line feeds, one byte further
pub feeds_is : (old new : List ℕ) (byte n k : ℕ) → new ≡ old ++ byte ∷ [] → n ≡ feeds old → k ≡ bool_byte (eqb byte 10)
    → n + k ≡ feeds new
feeds_is old new byte n k is count one =
    let e : k ≡ cond (eqb byte 10) 1 0 = one ∙ bool_byte_is (eqb byte 10) in
    let f : feeds new ≡ feeds old + cond (eqb byte 10) 1 0 = ap feeds is ∙ feeds_push old byte in
    cc
