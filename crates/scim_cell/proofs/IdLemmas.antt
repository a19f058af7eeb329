-- What the text of an id reads as, and that it reads back.
use Rattle.std.proofs.Common.{◌≡◌, ℕ, ◌+◌, ◌*◌, ◌/◌, ◌%◌, ◌<◌, Bool, true, false, Option, Some, List, length, get_or, slice_index, MatchBool, if◌then◌else◌, unwrap_or, inl, inr, arith, refl, sym, ap, subst, ◌∙◌}
use Rattle.std.proofs.lemmas.Bool.{cases_lt}
use Rattle.std.proofs.lemmas.Bool.Decides.{nat_tests}
use Rattle.std.proofs.lemmas.List.{get_or_default}
use Rattle.uuid.specs.Text.{by_index, byte_of_digits, digit_place, digits_of, has_hyphens, hex_digit, hyphen, hyphen_place, hyphenated_text, is_hex_digit, is_hyphen_place, lower, nibble, parsed, parsed_hyphenated, parsed_simple, value_of}
use Rattle.uuid.proofs.RoundTrips.{parses_hyphenated}
use Rattle.uuid.proofs.TextLemmas.{by_index_at, by_index_length, by_index_same, hyphens_pass, nibble_even, nibble_odd, nibble_small, simple_some}
use Rattle.scim_cell.specs.Ids.{IsId, IsIdText, IsIdCharacter, IsLowerHexDigit, id_text}

-- a digit of an id's text is a digit of the reader, below sixteen, and is printed as itself
digit_reads : (c : ℕ) → IsLowerHexDigit c → is_hex_digit c ≡ true
digit_reads c digit = elim digit [ inl h ↦ grind (arith, nat_tests) | inr h ↦ grind (arith, nat_tests) ]

digit_small : (c : ℕ) → IsLowerHexDigit c → value_of c < 16
digit_small c digit = elim digit [ inl h ↦ grind (arith, nat_tests) | inr h ↦ grind (arith, nat_tests) ]

digit_back : (c : ℕ) → IsLowerHexDigit c → hex_digit lower (value_of c) ≡ c
digit_back c digit = elim digit [ inl h ↦ grind (arith, nat_tests) | inr h ↦ grind (arith, nat_tests) ]

digit_written : (d : ℕ) → d < 16 → IsLowerHexDigit (hex_digit lower d)
digit_written d small =
    elim (cases_lt d 10) [
      | inl below ↦ inl (grind (arith, nat_tests))
      | inr above ↦ inr (grind (arith, nat_tests))
    ]

-- what stands at a place of an id's text
hyphen_at : (text : List ℕ) → IsIdText text → (k : ℕ) → k < 36 → is_hyphen_place k ≡ true → get_or text k 0 ≡ hyphen
hyphen_at text form k within place = rw place at (form.characters k (omega (arith, form.long)))

digit_at : (text : List ℕ) → IsIdText text → (k : ℕ) → k < 36 → is_hyphen_place k ≡ false → IsLowerHexDigit (get_or text k 0)
digit_at text form k within place = rw place at (form.characters k (omega (arith, form.long)))

-- a digit by its number
digit_numbered : (text : List ℕ) → IsIdText text → (i : ℕ) → i < 32 → IsLowerHexDigit (get_or (digits_of text) i 0)
digit_numbered text form i within =
    let place : hyphen_place i < 36 = grind (arith, nat_tests) in
    let no_hyphen : is_hyphen_place (hyphen_place i) ≡ false = grind (arith, nat_tests) in
    rw (by_index_at 32 (λ j. slice_index text (hyphen_place j)) i 0 within) (digit_at text form (hyphen_place i) place no_hyphen)

-- the bytes that an id's text spells
abbrev pub bytes_of : List ℕ → List ℕ
bytes_of text = by_index 16 (byte_of_digits (digits_of text))

pub parsed-id : (text : List ℕ) → IsIdText text → parsed text ≡ Some (bytes_of text)
parsed-id text form =
    let long : length text ≡ 36 = form.long in
    let hyphens : has_hyphens text ≡ true =
    rw (hyphen_at text form 8 (omega arith) refl, hyphen_at text form 13 (omega arith) refl, hyphen_at text form 18 (omega arith) refl, hyphen_at text form 23 (omega arith) refl) refl in
    let simple : Some (bytes_of text) ≡ parsed_simple (digits_of text) =
    simple_some (digits_of text) (bytes_of text) (by_index_length 32 _) (by_index_length 16 _)
    (λ i within. digit_reads _ (digit_numbered text form i within))
    (λ i d within. by_index_at 16 (byte_of_digits (digits_of text)) i d within) in
    let any : parsed text ≡ parsed_hyphenated text = rw long refl in
    any ∙ sym (simple ∙ hyphens_pass text long hyphens)

-- the halves of a byte are its two digits
halves : (text : List ℕ) → IsIdText text → (i : ℕ) → i < 16
    → (nibble (bytes_of text) (2 * i) ≡ value_of (get_or (digits_of text) (2 * i) 0))
    × (nibble (bytes_of text) (2 * i + 1) ≡ value_of (get_or (digits_of text) (2 * i + 1) 0))
halves text form i within =
    let high = value_of (get_or (digits_of text) (2 * i) 0) in
    let low = value_of (get_or (digits_of text) (2 * i + 1) 0) in
    let high_small : high < 16 = digit_small _ (digit_numbered text form (2 * i) (omega arith)) in
    let low_small : low < 16 = digit_small _ (digit_numbered text form (2 * i + 1) (omega arith)) in
    let byte : slice_index (bytes_of text) i ≡ high * 16 + low = by_index_at 16 (byte_of_digits (digits_of text)) i 0 within in
    let first : (high * 16 + low) / 16 % 16 ≡ high = omega arith in
    let second : (high * 16 + low) % 16 ≡ low = omega arith in
    (nibble_even (bytes_of text) i ∙ ap (λ b. b / 16 % 16) byte ∙ first, nibble_odd (bytes_of text) i ∙ ap (λ b. b % 16) byte ∙ second)

nibble_read : (text : List ℕ) → IsIdText text → (j : ℕ) → j < 32 → nibble (bytes_of text) j ≡ value_of (get_or (digits_of text) j 0)
nibble_read text form j within =
    let P : ℕ → Type 0 = λ n. nibble (bytes_of text) n ≡ value_of (get_or (digits_of text) n 0) in
    let both = halves text form (j / 2) (omega arith) in
    elim (cases_lt (j % 2) 1) [
      | inl even ↦ let same : 2 * (j / 2) ≡ j = omega arith in subst P same both.0
      | inr odd ↦ let same : 2 * (j / 2) + 1 ≡ j = omega arith in subst P same both.1
    ]

-- what is printed at a place
printed_at : (text : List ℕ) → IsIdText text → (k : ℕ) → k < 36 → (b : Bool) → is_hyphen_place k ≡ b
    → get_or text k 0 ≡ (if b then hyphen else hex_digit lower (nibble (bytes_of text) (digit_place k)))
printed_at text form k within true place = hyphen_at text form k within place
printed_at text form k within false place =
    let digit = digit_at text form k within place in
    let numbered : digit_place k < 32 = digit_place_small k within place in
    let back : hyphen_place (digit_place k) ≡ k = hyphen_place_back k within place in
    let read : get_or (digits_of text) (digit_place k) 0 ≡ get_or text k 0 =
    by_index_at 32 (λ j. slice_index text (hyphen_place j)) (digit_place k) 0 numbered ∙ ap (λ n. get_or text n 0) back in
    sym (ap (hex_digit lower) (nibble_read text form (digit_place k) numbered ∙ ap value_of read) ∙ digit_back _ digit)
  where
    digit_place_small : (k : ℕ) → k < 36 → is_hyphen_place k ≡ false → digit_place k < 32
    digit_place_small k within place = grind (arith, nat_tests)

    hyphen_place_back : (k : ℕ) → k < 36 → is_hyphen_place k ≡ false → hyphen_place (digit_place k) ≡ k
    hyphen_place_back k within place = grind (arith, nat_tests)

-- the bytes that an id's text spells are printed as that text
pub id_text-bytes_of : (text : List ℕ) → IsIdText text → id_text (bytes_of text) ≡ text
unfolding id_text
id_text-bytes_of text form =
    sym (
    by_index_same text 36 (λ k. if is_hyphen_place k then hyphen else hex_digit lower (nibble (bytes_of text) (digit_place k))) form.long
    (λ k d within. get_or_default text k d 0 (omega (arith, form.long)) ∙ printed_at text form k within (is_hyphen_place k) refl)
    )

-- the text of an id has the form of one
pub IsIdText-id_text : (id : List ℕ) → IsIdText (id_text id)
unfolding id_text
IsIdText-id_text id = record {
  long = by_index_length 36 _;
  characters = λ k within.
      let below : k < 36 = omega (arith, by_index_length 36 printed) in
      let P : ℕ → Type 0 = λ c. IsIdCharacter k c in
      subst P (sym (by_index_at 36 printed k 0 below)) (cases (is_hyphen_place k) _ (digit_written (nibble id (digit_place k)) (nibble_small id (digit_place k))));
}
  where
    printed : ℕ → ℕ
    printed k = if is_hyphen_place k then hyphen else hex_digit lower (nibble id (digit_place k))

    cases : (b : Bool) (c : ℕ) → IsLowerHexDigit c → MatchBool b ((if b then hyphen else c) ≡ hyphen) (IsLowerHexDigit (if b then hyphen else c))
    cases true c digit = refl
    cases false c digit = digit

-- two ids of one text are one
pub id_text-injective : (a b : List ℕ) → IsId a → IsId b → id_text a ≡ id_text b → a ≡ b
unfolding id_text
id_text-injective a b first second same =
    let read_a : Some a ≡ parsed (hyphenated_text lower a) = parses_hyphenated lower a (inl refl) first.long first.bytes in
    let read_b : Some b ≡ parsed (hyphenated_text lower b) = parses_hyphenated lower b (inl refl) second.long second.bytes in
    ap (λ (o : Option (List ℕ)). unwrap_or o a) (read_a ∙ ap parsed same ∙ sym read_b)
