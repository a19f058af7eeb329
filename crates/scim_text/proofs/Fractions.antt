-- Where the digits of a fraction end.
use Rattle.std.proofs.Common.{◌≡◌, ◌<◌, ℕ, Bool, true, false, cond, List, [], ◌∷◌, ◌++◌, length, drop, refl, ap, arith}
use Rattle.std.specs.Char.{is_ascii_digit}
use Rattle.std.specs.List.{list_all, prefix_len, take_while}
use Rattle.std.proofs.Math.Seq.{drop-append_seam}
use Rattle.std.proofs.Math.Numerals.{one-add}
use Rattle.std.proofs.lemmas.Bool.{and_parts}
use Rattle.std.proofs.lemmas.List.{take-append-drop}
use Rattle.std.proofs.lemmas.List.Sums.{take_while-cons}
use Rattle.scim_text.specs.Spelling.{Zone, absent, utc, ahead, behind, zone_text, fraction_text, IsFraction}

-- the digits at the front of a text are a fraction
pub IsFraction-take_while : (text : List ℕ) → IsFraction (take_while is_ascii_digit text)
IsFraction-take_while [] = refl
IsFraction-take_while (x ∷ xs) =
    let at_front : (b : Bool) → is_ascii_digit x ≡ b → list_all is_ascii_digit (cond b (x ∷ take_while is_ascii_digit xs) []) ≡ true
    = λ b. elim b as (λ b. is_ascii_digit x ≡ b → list_all is_ascii_digit (cond b (x ∷ take_while is_ascii_digit xs) []) ≡ true) [
      | true ↦ λ e. rw e (IsFraction-take_while xs)
      | false ↦ λ _. refl
    ] in
    rw (take_while-cons is_ascii_digit x xs) (at_front (is_ascii_digit x) refl)

-- a zone begins with no digit
prefix_len-zone : (z : Zone) → prefix_len is_ascii_digit (zone_text z) ≡ 0
prefix_len-zone absent = refl
prefix_len-zone utc = refl
prefix_len-zone (ahead hours minutes) = refl
prefix_len-zone (behind hours minutes) = refl

-- so the digits before a zone are those of the fraction
pub prefix_len-fraction : (f : List ℕ) (z : Zone) → IsFraction f → prefix_len is_ascii_digit (f ++ zone_text z) ≡ length f
prefix_len-fraction [] z h = prefix_len-zone z
prefix_len-fraction (x ∷ xs) z h =
    let parts = and_parts (is_ascii_digit x) (list_all is_ascii_digit xs) h in
    rw (parts.0, prefix_len-fraction xs z parts.1) (one-add (length xs))

-- a point and digits are written as they stand
fraction_text-digits : (f : List ℕ) → 0 < length f → fraction_text f ≡ 46 ∷ f
fraction_text-digits [] h = absurd (omega arith)
fraction_text-digits (x ∷ xs) h = refl

-- what follows a point, if a digit does: the fraction of these digits, and the rest
pub fraction_text-take_while : (written : List ℕ) → 0 < length (take_while is_ascii_digit written) → fraction_text (take_while is_ascii_digit written) ++ drop (prefix_len is_ascii_digit written) written ≡ 46 ∷ written
fraction_text-take_while written some =
    rw (fraction_text-digits (take_while is_ascii_digit written) some)
    (ap (λ text. 46 ∷ text) (take-append-drop (prefix_len is_ascii_digit written) written))

-- no zone begins with a point
pub no_point : (z : Zone) (text : List ℕ) → 46 ∷ text ≡ zone_text z → ⊥
no_point absent text e = cc
no_point utc text e = let no : ◌≡◌ {A = ℕ} 46 90 = cc in omega arith
no_point (ahead hours minutes) text e = let no : ◌≡◌ {A = ℕ} 46 43 = cc in omega arith
no_point (behind hours minutes) text e = let no : ◌≡◌ {A = ℕ} 46 45 = cc in omega arith

-- so a text that begins with a point has a fraction
after_point : (written f : List ℕ) (z : Zone) → 46 ∷ written ≡ fraction_text f ++ zone_text z → written ≡ f ++ zone_text z
after_point written [] z e = absurd (no_point z written e)
after_point written (x ∷ xs) z e = cc

-- and behind its digits the zone is left
pub rest_of_fraction : (written f : List ℕ) (z : Zone) → IsFraction f → 46 ∷ written ≡ fraction_text f ++ zone_text z → drop (prefix_len is_ascii_digit written) written ≡ zone_text z
rest_of_fraction written f z h e =
    rw (after_point written f z e, prefix_len-fraction f z h) (drop-append_seam f (zone_text z))
