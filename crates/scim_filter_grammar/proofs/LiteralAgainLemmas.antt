-- What spells a literal is read again.
use Rattle.std.proofs.Common.{◌≡◌, ℕ, ◌<◌, ◌≤◌, Bool, true, false, cond, eqb, leb, List, [], ◌∷◌, ◌++◌, length, drop, Some, Ok, refl, sym, ap, subst, ◌∙◌, arith}
use Rattle.std.specs.Prelude.{ℤ, slice_index, ◌≢◌, ◌&&◌, map, codes, nat_lt}
use Rattle.std.specs.List.{list_all}
use Rattle.std.specs.Char.{to_ascii_lowercase}
use Rattle.std.specs.Str.Parse.{AllDigits, without_leading_sign, without_leading_plus}
use Rattle.std.proofs.lemmas.Bool.{eqb-true, lt-ltb, le-leb}
use Rattle.std.proofs.lemmas.Str.Parse.{digit_from_value, without_leading_plus_none}
use Rattle.serde_json.specs.Data.{string}
use Rattle.scim_filter_grammar.specs.declared.tree.Literal.{Literal}
use Rattle.scim_filter_grammar.specs.declared.tree.Literal.TheVariants as literal
use Rattle.scim_filter_grammar.specs.Bytes.{is_word_byte, is_word, past_quote}
use Rattle.scim_filter_grammar.specs.Literals.{IsString, IsLiteral}
use Rattle.scim_filter_grammar.specs.Reading.{integer_of, number_of, word_literal, string_at, literal_at}
use Rattle.scim_filter_grammar.proofs.SpelledLemmas.{StopsAt, front_again, behind_again, lowered, not_at, word_byte, IsRun, run_of, run_first, run_opens, word_run, Opens}
use Rattle.scim_filter_grammar.proofs.IntegerLemmas.{IsNumber, integer_number, integer_some, no_plus_differs, and_true}
use Rattle.scim_filter_grammar.proofs.LiteralLemmas.{closes_before, seam, string_ok}

-- ---- numbers

abbrev is_digit_byte : ℕ → Bool
is_digit_byte b = leb 48 b && leb b 57

digit_word : (c : ℕ) → is_digit_byte c ≡ true → is_word_byte c ≡ true
digit_word c h = word_byte is_digit_byte c h refl refl refl refl refl refl

digits_word : (ds : List ℕ) → AllDigits 10 ds → list_all is_word_byte ds ≡ true
digits_word [] h = refl
digits_word (c ∷ cs) h =
    let r = digit_from_value c h.0 in
    let e : is_word_byte c ≡ true = digit_word c (and_true (leb 48 c) (leb c 57) (le-leb 48 c (omega (arith, r))) (le-leb c 57 (omega (arith, r)))) in
    rw e (digits_word cs h.1)

signed_word : (text : List ℕ) → slice_index text 0 ≢ 43 → AllDigits 10 (without_leading_sign text) → list_all is_word_byte text ≡ true
signed_word [] n h = refl
signed_word (b ∷ bs) n h =
    let at : (v : Bool) → eqb b 45 ≡ v → AllDigits 10 (cond v bs (without_leading_plus (b ∷ bs))) → list_all is_word_byte (b ∷ bs) ≡ true =
    λ v. elim v as (λ w. eqb b 45 ≡ w → AllDigits 10 (cond w bs (without_leading_plus (b ∷ bs))) → list_all is_word_byte (b ∷ bs) ≡ true) [
      | true ↦ λ e k. and_true (is_word_byte b) (list_all is_word_byte bs) (subst (λ (x : ℕ). is_word_byte x ≡ true) (sym (eqb-true _ _ e)) refl) (digits_word bs k)
      | false ↦ λ e k. digits_word (b ∷ bs) (subst (AllDigits 10) (without_leading_plus_none (b ∷ bs) n) k)
    ]
    in at (eqb b 45) refl h

first_small : (text : List ℕ) → slice_index text 0 ≢ 43 → AllDigits 10 (without_leading_sign text) → slice_index text 0 < 65
first_small [] n h = omega arith
first_small (b ∷ bs) n h =
    let at : (v : Bool) → eqb b 45 ≡ v → AllDigits 10 (cond v bs (without_leading_plus (b ∷ bs))) → b < 65 =
    λ v. elim v as (λ w. eqb b 45 ≡ w → AllDigits 10 (cond w bs (without_leading_plus (b ∷ bs))) → b < 65) [
      | true ↦ λ e k. let same : b ≡ 45 = eqb-true _ _ e in omega (arith, same)
      | false ↦ λ e k. let d : AllDigits 10 (b ∷ bs) = subst (AllDigits 10) (without_leading_plus_none (b ∷ bs) n) k in let r = digit_from_value b d.0 in omega (arith, r)
    ]
    in at (eqb b 45) refl h

pub number_run : (l : List ℕ) → IsNumber l → IsRun l
number_run l n = run_of l (signed_word l (no_plus_differs (slice_index l 0) n.no_plus) n.numeral.1)
    (λ e. let z : 0 < length (without_leading_sign []) = subst (λ (t : List ℕ). 0 < length (without_leading_sign t)) e n.numeral.0 in absurd (omega (arith, z)))

lower_first : (l : List ℕ) → slice_index l 0 < 65 → slice_index (map to_ascii_lowercase l) 0 ≡ slice_index l 0
lower_first [] h = refl
lower_first (b ∷ bs) h = let e : nat_lt b 65 ≡ true = lt-ltb b 65 h in rw e refl

-- a number is no word that begins with a letter
no_keyword : (keyword l : List ℕ) → IsNumber l → 65 ≤ slice_index (map to_ascii_lowercase keyword) 0 → is_word keyword l ≡ false
no_keyword keyword l n high =
    let small = first_small l (no_plus_differs (slice_index l 0) n.no_plus) n.numeral.1 in
    let at : (v : Bool) → is_word keyword l ≡ v → v ≡ false =
    λ v. elim v as (λ w. is_word keyword l ≡ w → w ≡ false) [
      | true ↦ λ e. let same : slice_index l 0 ≡ slice_index (map to_ascii_lowercase keyword) 0 = sym (lower_first l small) ∙ ap (λ (t : List ℕ). slice_index t 0) (lowered keyword l e) in absurd (omega (arith, same, small, high))
      | false ↦ λ e. refl
    ]
    in at (is_word keyword l) refl

number_again : (l : List ℕ) (z : ℤ) → IsLiteral l (literal.Number z) → word_literal l ≡ Ok (literal.Number z)
unfolding word_literal number_of
number_again l z h =
    let n = integer_number l h.0 in
    let is : integer_of l ≡ Some z = sym (integer_some l z n (sym h.1)) in
    rw (no_keyword (codes "true") l n (omega arith), no_keyword (codes "false") l n (omega arith), no_keyword (codes "null") l n (omega arith), is) refl

-- ---- words

truth_again : (l : List ℕ) (b : Bool) → IsLiteral l (literal.Truth b) → word_literal l ≡ Ok (literal.Truth b)
unfolding word_literal
truth_again l true h = rw (lowered (codes "true") l h) refl
truth_again l false h = rw (lowered (codes "false") l h) refl

null_again : (l : List ℕ) → IsLiteral l literal.Null → word_literal l ≡ Ok literal.Null
unfolding word_literal
null_again l h = rw (lowered (codes "null") l h) refl

run_no_quote : (text rest : List ℕ) → IsRun text → eqb (slice_index (text ++ rest) 0) 34 ≡ false
run_no_quote text rest r = subst (λ (t : List ℕ). eqb (slice_index (t ++ rest) 0) 34 ≡ false) (sym r.whole) (not_at is_word_byte r.first 34 (run_first text r) refl)

word_again : (l rest : List ℕ) (x : Literal) → IsRun l → word_literal l ≡ Ok x → StopsAt is_word_byte rest → literal_at (l ++ rest) ≡ Ok (x, rest)
unfolding literal_at
word_again l rest x run is stops = rw (run_no_quote l rest run, front_again is_word_byte l rest run.each stops, behind_again is_word_byte l rest run.each stops, is) refl

-- ---- strings

string_again : (l rest s : List ℕ) → IsString l s → literal_at (l ++ rest) ≡ Ok (literal.Text s, rest)
unfolding literal_at string_at
string_again l rest s h =
    let quote : eqb (slice_index (l ++ rest) 0) 34 ≡ true = subst (λ (t : List ℕ). eqb (slice_index (t ++ rest) 0) 34 ≡ true) (sym h.whole) refl in
    let closes : past_quote (drop 1 (l ++ rest)) ≡ Some rest = subst (λ (t : List ℕ). past_quote (drop 1 (t ++ rest)) ≡ Some rest) (sym h.whole) (closes_before h.body rest h.closes) in
    rw (quote, closes, seam l rest, string_ok l s (string s) h.utf8 h.means refl) refl

pub literal_again : (l rest : List ℕ) (x : Literal) → IsLiteral l x → StopsAt is_word_byte rest → literal_at (l ++ rest) ≡ Ok (x, rest)
literal_again l rest (literal.Text s) h stops = string_again l rest s h
literal_again l rest (literal.Number z) h stops = word_again l rest (literal.Number z) (number_run l (integer_number l h.0)) (number_again l z h) stops
literal_again l rest (literal.Truth true) h stops = word_again l rest (literal.Truth true) (word_run (codes "true") l h refl (λ e. absurd cc)) (truth_again l true h) stops
literal_again l rest (literal.Truth false) h stops = word_again l rest (literal.Truth false) (word_run (codes "false") l h refl (λ e. absurd cc)) (truth_again l false h) stops
literal_again l rest literal.Null h stops = word_again l rest literal.Null (word_run (codes "null") l h refl (λ e. absurd cc)) (null_again l h) stops

pub literal_opens : (l : List ℕ) (x : Literal) → IsLiteral l x → Opens l
literal_opens l (literal.Text s) h = record { first = 34; others = h.body; whole = h.whole; is_open = refl }
literal_opens l (literal.Number z) h = run_opens l (number_run l (integer_number l h.0))
literal_opens l (literal.Truth true) h = run_opens l (word_run (codes "true") l h refl (λ e. absurd cc))
literal_opens l (literal.Truth false) h = run_opens l (word_run (codes "false") l h refl (λ e. absurd cc))
literal_opens l literal.Null h = run_opens l (word_run (codes "null") l h refl (λ e. absurd cc))
