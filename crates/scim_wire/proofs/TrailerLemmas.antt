-- What follows in trailers, one byte further.
use Rattle.std.proofs.Common.{◌≡◌, ◌↔◌, ℕ, ◌<◌, ◌≤◌, ◌-◌, ◌⊎◌, true, List, [], ◌∷◌, ◌++◌, length, refl, sym, ap, ◌∙◌, arith, inl, inr, IsTrue, subst}
use Rattle.std.specs.List.{flat_map}
use Rattle.std.proofs.lemmas.List.{append_assoc}
use Rattle.std.proofs.lemmas.List.Elements.{All-nil, All-cons, All-head, All-tail}
use Rattle.httparse.specs.Grammar.{is_token_byte, is_value_byte, AllPass, LineEnd, crlf, lf, print_end, Field, print_field, print_section, IsField}
use Rattle.httparse.proofs.PieceLemmas.{print_field-append, token_is_no_newline, colon_ends_token}
use Rattle.scim_wire.specs.declared.trailers.TrailerPlace.{TrailerPlace}
use Rattle.scim_wire.specs.declared.trailers.TrailerPlace.TheVariants.{LineStart, EmptyReturn, Name, Value, Return, End}
use Rattle.scim_wire.specs.declared.trailers.TrailerPart.{TrailerPart}
use Rattle.scim_wire.specs.code.Trailers.{IsAfterFeed, IsRestOfLines, IsRestOfName, IsRestOfValue, GoesOn, least}

section_print : (f : Field) (fields : List Field) (last : LineEnd)
    → print_section (f ∷ fields) last ++ [] ≡ f.name ++ 58 ∷ (f.raw ++ (print_end f.end ++ (print_section fields last ++ [])))
section_print f fields last =
    ap (λ t. t ++ []) (append_assoc (print_field f) (flat_map print_field fields) (print_end last))
    ∙ append_assoc (print_field f) (print_section fields last) []
    ∙ print_field-append f (print_section fields last ++ [])

-- the first byte of a name
name_byte : (name : List ℕ) (b : ℕ) (text after : List ℕ) → 0 < length name → AllPass is_token_byte name → b ∷ text ≡ name ++ 58 ∷ after
    → IsTrue (is_token_byte b) × (more : List ℕ) × AllPass is_token_byte more × (text ≡ more ++ 58 ∷ after)
name_byte [] b text after some all e = absurd (omega arith)
name_byte (c ∷ name) b text after some all e =
    let same : b ≡ c = cc in
    (rw same (All-head (λ v. is_token_byte v ≡ true) c name all), name, All-tail (λ v. is_token_byte v ≡ true) c name all, cc)

-- the first byte of a line
pub lines_first : (most b : ℕ) (text : List ℕ) → IsRestOfLines most (b ∷ text)
    → ((b ≡ 13) × (text ≡ 10 ∷ [])) ⊎ (((b ≡ 10) × (text ≡ [])) ⊎ (IsTrue (is_token_byte b) × (0 < most) × IsRestOfName (most - 1) text))
lines_first most b text ([], crlf, reads, few) = inl (cc, cc)
lines_first most b text ([], lf, reads, few) = inr (inl (cc, cc))
lines_first most b text (f ∷ fields, last, reads, few) =
    let field = All-head IsField f fields reads.0 in
    let named = name_byte f.name b text _ field.name.0 field.name.1 (reads.1 ∙ section_print f fields last) in
    let lines : IsRestOfLines (most - 1) (print_section fields last ++ []) = (fields, last, (All-tail IsField f fields reads.0, refl), omega arith) in
    let value : IsRestOfValue (most - 1) (f.raw ++ (print_end f.end ++ (print_section fields last ++ []))) = (f.raw, f.end, _, field.raw, lines, refl) in
    let rest : IsRestOfName (most - 1) text = (named.1, _, named.2, value, named.3) in
    inr (inr (named.0, omega arith, rest))

pub lines_return : (most : ℕ) → IsRestOfLines most (13 ∷ 10 ∷ [])
lines_return most = ([], crlf, (All-nil IsField, refl), omega arith)

pub lines_feed : (most : ℕ) → IsRestOfLines most (10 ∷ [])
lines_feed most = ([], lf, (All-nil IsField, refl), omega arith)

pub lines_name : (most b : ℕ) (text : List ℕ) → IsTrue (is_token_byte b) → 0 < most → IsRestOfName (most - 1) text → IsRestOfLines most (b ∷ text)
lines_name most b text token some (name, after, all, (raw, end, lines, values, (fields, last, reads, few), split_value), split_name) =
    let f : Field = record { name = b ∷ name; raw = raw; end = end } in
    let is : IsField f = record { name = (omega arith, All-cons (λ v. is_token_byte v ≡ true) b name token all); raw = values } in
    let text_is : b ∷ text ≡ print_section (f ∷ fields) last ++ [] = rw (section_print f fields last, split_name, split_value, reads.1) refl in
    (f ∷ fields, last, (All-cons IsField f fields is reads.0, text_is), omega arith)

-- CR and LF are no bytes of a name, nor of a value; nor is the colon of a name
return_no_token : IsTrue (is_token_byte 13) → ⊥
return_no_token token = cc (token_is_no_newline 13 token)

feed_no_token : IsTrue (is_token_byte 10) → ⊥
feed_no_token token = cc (token_is_no_newline 10 token)

-- where CR leads at the start of a line
pub lines_at_return : (most : ℕ) (text : List ℕ) → IsRestOfLines most (13 ∷ text) ↔ IsAfterFeed (λ after. after ≡ []) text
lines_at_return most text = (
  λ rest. elim (lines_first most 13 text rest) [
    | inl found ↦ ([], refl, found.1)
    | inr other ↦ elim other [ inl found ↦ absurd (omega (arith, found.0)) | inr found ↦ absurd (return_no_token found.0) ]
  ],
  λ found. rw (found.2, found.1) (lines_return most),
)

-- where LF does
pub lines_at_feed : (most : ℕ) (text : List ℕ) → IsRestOfLines most (10 ∷ text) ↔ (text ≡ [])
lines_at_feed most text = (
  λ rest. elim (lines_first most 10 text rest) [
    | inl found ↦ absurd (omega (arith, found.0))
    | inr other ↦ elim other [ inl found ↦ found.1 | inr found ↦ absurd (feed_no_token found.0) ]
  ],
  λ e. rw e (lines_feed most),
)

-- any other byte begins a header, if one may
pub lines_at_other : (most b : ℕ) (text : List ℕ) → (b ≡ 13 → ⊥) → (b ≡ 10 → ⊥) → IsRestOfLines most (b ∷ text)
    → IsTrue (is_token_byte b) × (0 < most) × IsRestOfName (most - 1) text
lines_at_other most b text no_return no_feed rest = elim (lines_first most b text rest) [
  | inl found ↦ absurd (no_return found.0)
  | inr other ↦ elim other [ inl found ↦ absurd (no_feed found.0) | inr found ↦ found ]
]

-- the first byte of the rest of a name
pub name_first : (most b : ℕ) (text : List ℕ) → IsRestOfName most (b ∷ text)
    → ((b ≡ 58) × IsRestOfValue most text) ⊎ (IsTrue (is_token_byte b) × IsRestOfName most text)
name_first most b text ([], after, all, value, split) = inl (cc, subst (IsRestOfValue most) (cc) value)
name_first most b text (c ∷ name, after, all, value, split) =
    let same : b ≡ c = cc in
    inr (rw same (All-head (λ v. is_token_byte v ≡ true) c name all), (name, after, All-tail (λ v. is_token_byte v ≡ true) c name all, value, cc))

pub name_colon : (most : ℕ) (text : List ℕ) → IsRestOfValue most text → IsRestOfName most (58 ∷ text)
name_colon most text value = ([], text, All-nil (λ v. is_token_byte v ≡ true), value, refl)

pub name_more : (most b : ℕ) (text : List ℕ) → IsTrue (is_token_byte b) → IsRestOfName most text → IsRestOfName most (b ∷ text)
name_more most b text token (name, after, all, value, split) =
    (b ∷ name, after, All-cons (λ v. is_token_byte v ≡ true) b name token all, value, ap (λ t. b ∷ t) split)

-- the first byte of the rest of a value
pub value_first : (most b : ℕ) (text : List ℕ) → IsRestOfValue most (b ∷ text)
    → ((b ≡ 13) × (lines : List ℕ) × IsRestOfLines most lines × (text ≡ 10 ∷ lines))
    ⊎ (((b ≡ 10) × IsRestOfLines most text) ⊎ (IsTrue (is_value_byte b) × IsRestOfValue most text))
value_first most b text ([], crlf, lines, all, rest, split) = inl (cc, lines, rest, cc)
value_first most b text ([], lf, lines, all, rest, split) = inr (inl (cc, subst (IsRestOfLines most) (cc) rest))
value_first most b text (c ∷ raw, end, lines, all, rest, split) =
    let same : b ≡ c = cc in
    inr (inr (rw same (All-head (λ v. is_value_byte v ≡ true) c raw all), (raw, end, lines, All-tail (λ v. is_value_byte v ≡ true) c raw all, rest, cc)))

pub value_return : (most : ℕ) (lines : List ℕ) → IsRestOfLines most lines → IsRestOfValue most (13 ∷ 10 ∷ lines)
value_return most lines rest = ([], crlf, lines, All-nil (λ v. is_value_byte v ≡ true), rest, refl)

pub value_feed : (most : ℕ) (lines : List ℕ) → IsRestOfLines most lines → IsRestOfValue most (10 ∷ lines)
value_feed most lines rest = ([], lf, lines, All-nil (λ v. is_value_byte v ≡ true), rest, refl)

pub value_more : (most b : ℕ) (text : List ℕ) → IsTrue (is_value_byte b) → IsRestOfValue most text → IsRestOfValue most (b ∷ text)
value_more most b text is (raw, end, lines, all, rest, split) =
    (b ∷ raw, end, lines, All-cons (λ v. is_value_byte v ≡ true) b raw is all, rest, ap (λ t. b ∷ t) split)

-- where the colon leads in a name
pub name_at_colon : (most : ℕ) (text : List ℕ) → IsRestOfName most (58 ∷ text) ↔ IsRestOfValue most text
name_at_colon most text = (
  λ rest. elim (name_first most 58 text rest) [ inl found ↦ found.1 | inr found ↦ cc (colon_ends_token, found.0) ],
  name_colon most text,
)

-- any other byte belongs to the name
pub name_at_other : (most b : ℕ) (text : List ℕ) → (b ≡ 58 → ⊥) → IsRestOfName most (b ∷ text) → IsTrue (is_token_byte b) × IsRestOfName most text
name_at_other most b text no_colon rest = elim (name_first most b text rest) [ inl found ↦ absurd (no_colon found.0) | inr found ↦ found ]

-- where CR leads in a value
pub value_at_return : (most : ℕ) (text : List ℕ) → IsRestOfValue most (13 ∷ text) ↔ IsAfterFeed (IsRestOfLines most) text
value_at_return most text = (
  λ rest. elim (value_first most 13 text rest) [
    | inl found ↦ (found.1, found.2, found.3)
    | inr other ↦ elim other [ inl found ↦ absurd (omega (arith, found.0)) | inr found ↦ absurd (cc found.0) ]
  ],
  λ found. rw found.2 (value_return most found.0 found.1),
)

-- where LF does
pub value_at_feed : (most : ℕ) (text : List ℕ) → IsRestOfValue most (10 ∷ text) ↔ IsRestOfLines most text
value_at_feed most text = (
  λ rest. elim (value_first most 10 text rest) [
    | inl found ↦ absurd (omega (arith, found.0))
    | inr other ↦ elim other [ inl found ↦ found.1 | inr found ↦ absurd (cc found.0) ]
  ],
  value_feed most text,
)

-- any other byte belongs to the value
pub value_at_other : (most b : ℕ) (text : List ℕ) → (b ≡ 13 → ⊥) → (b ≡ 10 → ⊥) → IsRestOfValue most (b ∷ text) → IsTrue (is_value_byte b) × IsRestOfValue most text
value_at_other most b text no_return no_feed rest = elim (value_first most b text rest) [
  | inl found ↦ absurd (no_return found.0)
  | inr other ↦ elim other [ inl found ↦ absurd (no_feed found.0) | inr found ↦ found ]
]

-- ---- what may come

-- something may come, if there is room for the least, but at the end
pub goes_on : (part : TrailerPart) → (part.place ≡ End → ⊥) → least part.place ≤ part.bytes → GoesOn part
goes_on part open_yet room = by_place part.place refl
  where
    by_place : (place : TrailerPlace) → place ≡ part.place → GoesOn part
    by_place LineStart is = (10, [], (rw (sym is) (lines_feed part.headers), omega (arith, ap least is, room)))
    by_place EmptyReturn is = (10, [], (rw (sym is) ([], refl, refl), omega (arith, ap least is, room)))
    by_place Name is = (58, 10 ∷ 10 ∷ [], (rw (sym is) (name_colon part.headers _ (value_feed part.headers _ (lines_feed part.headers))), omega (arith, ap least is, room)))
    by_place Value is = (10, 10 ∷ [], (rw (sym is) (value_feed part.headers _ (lines_feed part.headers)), omega (arith, ap least is, room)))
    by_place Return is = (10, 10 ∷ [], (rw (sym is) (10 ∷ [], lines_feed part.headers, refl), omega (arith, ap least is, room)))
    by_place End is = absurd (open_yet (sym is))
