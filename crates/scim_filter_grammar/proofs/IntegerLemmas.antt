-- What spells an integer within 64 bits.
use Rattle.std.proofs.Common.{◌≡◌, ℕ, zero, suc, ◌<◌, Bool, true, false, cond, eqb, List, [], ◌∷◌, length, Some, None, refl, sym, ap, subst, ◌∙◌, arith}
use Rattle.std.specs.Prelude.{ℤ, pos, neg_ℤ, slice_index, ◌≢◌, not, ◌&&◌, nat_lt, FitsSigned}
use Rattle.std.specs.Int.{w64}
use Rattle.std.specs.Char.{digit_value}
use Rattle.std.specs.Str.{IsAscii, IsUtf8}
use Rattle.std.specs.Str.Parse.{AllDigits, IsNumeral, starts_with_minus, without_leading_sign, without_leading_plus, digits_value, signed_digits_value}
use Rattle.std.proofs.lemmas.Bool.{eqb-true, false≢true, ltb-true, lt-ltb, leb-true, le-leb}
use Rattle.std.proofs.lemmas.Str.{IsUtf8-from_ascii}
use Rattle.std.proofs.lemmas.Str.Parse.{digit_from_value, without_leading_plus_none}
use Rattle.scim_filter_grammar.specs.Literals.{are_digits, is_within, is_integer}
use Rattle.scim_filter_grammar.specs.Reading.{integer_of}
use Rattle.scim_filter_grammar.proofs.FrontLemmas.{both_true, not_true}

digits_all : (ds : List ℕ) → are_digits ds ≡ true → AllDigits 10 ds
digits_all [] h = tt
digits_all (c ∷ cs) h = let t = both_true (nat_lt (digit_value c) 10) (are_digits cs) h in (ltb-true (digit_value c) 10 t.0, digits_all cs t.1)

all_digits : (ds : List ℕ) → AllDigits 10 ds → are_digits ds ≡ true
all_digits [] h = refl
all_digits (c ∷ cs) h = let e : nat_lt (digit_value c) 10 ≡ true = lt-ltb (digit_value c) 10 h.0 in rw e (all_digits cs h.1)

fits_within : (m : Bool) (n : ℕ) → is_within m n ≡ true → FitsSigned w64 (cond m (neg_ℤ (pos n)) (pos n))
fits_within false n h = let t = leb-true n 9223372036854775807 h in record { sfits = omega (arith, t) }
fits_within true zero h = record { sfits = omega arith }
fits_within true (suc n) h = let t = leb-true (suc n) 9223372036854775808 h in record { sfits = omega (arith, t) }

within_fits : (m : Bool) (n : ℕ) → FitsSigned w64 (cond m (neg_ℤ (pos n)) (pos n)) → is_within m n ≡ true
within_fits false n f = let t = f.sfits in le-leb n 9223372036854775807 (omega (arith, t))
within_fits true zero f = refl
within_fits true (suc n) f = let t = f.sfits in le-leb (suc n) 9223372036854775808 (omega (arith, t))

-- a text that is an integer has no plus, and is a number of 64 bits
pub record IsNumber (w : List ℕ) : Type 0 where
  pub no_plus : eqb (slice_index w 0) 43 ≡ false
  pub numeral : IsNumeral 10 (without_leading_sign w)
  pub fits : FitsSigned w64 (signed_digits_value 10 w)

pub integer_number : (w : List ℕ) → is_integer w ≡ true → IsNumber w
integer_number w h =
    let ds = without_leading_sign w in
    let a = both_true (not (eqb (slice_index w 0) 43) && nat_lt 0 (length ds) && are_digits ds) (is_within (starts_with_minus w) (digits_value 10 ds)) h in
    let b = both_true (not (eqb (slice_index w 0) 43) && nat_lt 0 (length ds)) (are_digits ds) a.0 in
    let c = both_true (not (eqb (slice_index w 0) 43)) (nat_lt 0 (length ds)) b.0 in
    record { no_plus = not_true (eqb (slice_index w 0) 43) c.0; numeral = (ltb-true 0 (length ds) c.1, digits_all ds b.1); fits = fits_within (starts_with_minus w) (digits_value 10 ds) a.1 }

pub and_true : (a b : Bool) → a ≡ true → b ≡ true → a && b ≡ true
and_true true b h k = k
and_true false b h k = absurd (false≢true h)

pub number_integer : (w : List ℕ) → IsNumber w → is_integer w ≡ true
number_integer w n =
    let ds = without_leading_sign w in
    and_true (not (eqb (slice_index w 0) 43) && nat_lt 0 (length ds) && are_digits ds) (is_within (starts_with_minus w) (digits_value 10 ds))
    (and_true (not (eqb (slice_index w 0) 43) && nat_lt 0 (length ds)) (are_digits ds)
    (and_true (not (eqb (slice_index w 0) 43)) (nat_lt 0 (length ds)) (ap not n.no_plus) (lt-ltb 0 (length ds) n.numeral.0)) (all_digits ds n.numeral.1))
    (within_fits (starts_with_minus w) (digits_value 10 ds) n.fits)

digits_ascii : (ds : List ℕ) → AllDigits 10 ds → IsAscii ds
digits_ascii [] h i = omega arith
digits_ascii (c ∷ cs) h zero = let r = digit_from_value c h.0 in omega (arith, r)
digits_ascii (c ∷ cs) h (suc i) = digits_ascii cs h.1 i

first_ascii : (b : ℕ) (bs : List ℕ) → b < 128 → IsAscii bs → IsAscii (b ∷ bs)
first_ascii b bs h k zero = h
first_ascii b bs h k (suc i) = k i

signed_ascii : (text : List ℕ) → slice_index text 0 ≢ 43 → AllDigits 10 (without_leading_sign text) → IsAscii text
signed_ascii [] n h = λ i. omega arith
signed_ascii (b ∷ bs) n h =
    let at : (v : Bool) → eqb b 45 ≡ v → AllDigits 10 (cond v bs (without_leading_plus (b ∷ bs))) → IsAscii (b ∷ bs) =
    λ v. elim v as (λ w. eqb b 45 ≡ w → AllDigits 10 (cond w bs (without_leading_plus (b ∷ bs))) → IsAscii (b ∷ bs)) [
      | true ↦ λ e k. let same : b ≡ 45 = eqb-true _ _ e in first_ascii b bs (omega arith) (digits_ascii bs k)
      | false ↦ λ e k. digits_ascii (b ∷ bs) (subst (AllDigits 10) (without_leading_plus_none (b ∷ bs) n) k)
    ]
    in at (eqb b 45) refl h

pub no_plus_differs : (a : ℕ) → eqb a 43 ≡ false → a ≢ 43
no_plus_differs a h = λ e. false≢true (sym h ∙ ap (λ (x : ℕ). eqb x 43) e)

pub number_utf8 : (w : List ℕ) → IsNumber w → IsUtf8 w
number_utf8 w n = IsUtf8-from_ascii w (signed_ascii w (no_plus_differs (slice_index w 0) n.no_plus) n.numeral.1)

pub integer_none : (w : List ℕ) → (IsNumber w → ⊥) → None ≡ integer_of w
unfolding integer_of
integer_none w refuted =
    let at : (v : Bool) → is_integer w ≡ v → None ≡ cond v (Some (signed_digits_value 10 w)) None =
    λ v. elim v as (λ u. is_integer w ≡ u → None ≡ cond u (Some (signed_digits_value 10 w)) None) [ true ↦ λ e. absurd (refuted (integer_number w e)) | false ↦ λ e. refl ]
    in at (is_integer w) refl

pub integer_some : (w : List ℕ) (z : ℤ) → IsNumber w → z ≡ signed_digits_value 10 w → Some z ≡ integer_of w
unfolding integer_of
integer_some w z n e = let h : is_integer w ≡ true = number_integer w n in rw h (ap (λ (y : ℤ). Some y) e)
