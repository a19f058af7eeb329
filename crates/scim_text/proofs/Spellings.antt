-- The parts of a moment are read off its text.
use Rattle.std.proofs.Common.{◌≡◌, ◌+◌, ◌-◌, ◌*◌, ◌/◌, ◌%◌, ℕ, List, [], ◌∷◌, ◌++◌, length, drop, refl, arith}
use Rattle.std.proofs.Math.Seq.{take-append_seam, drop-append_seam}
use Rattle.scim_text.specs.declared.moment_readings.Reading.{Reading}
use Rattle.scim_text.specs.Spelling.{Zone, absent, utc, ahead, behind, Spelling, date_text, fraction_text, zone_text, spelling_text, IsFraction}
use Rattle.scim_text.specs.MomentIn.{two_at, fraction_shown, zone_shown, spelling_shown}
use Rattle.scim_text.proofs.Fractions.{prefix_len-fraction}

-- readings of one second and one fraction are one reading
pub same_reading : (a b : Reading) → a.second ≡ b.second → a.later ≡ b.later → a ≡ b
same_reading a b second later = λ i. record { second = second i; later = later i }

-- two digits show their number
two_digits-shown : (n : ℕ) → (48 + n / 10 - 48) * 10 + (48 + n % 10 - 48) ≡ n
two_digits-shown n = omega arith

-- a fraction is shown before a zone
fraction_shown-text : (f : List ℕ) (z : Zone) → IsFraction f → fraction_shown (fraction_text f ++ zone_text z) ≡ f
fraction_shown-text [] absent is = refl
fraction_shown-text [] utc is = refl
fraction_shown-text [] (ahead hours minutes) is = refl
fraction_shown-text [] (behind hours minutes) is = refl
fraction_shown-text (x ∷ xs) z is =
    rw (prefix_len-fraction (x ∷ xs) z is) (take-append_seam (x ∷ xs) (zone_text z))

-- a zone is shown
zone_shown-text : (z : Zone) → zone_shown (zone_text z) ≡ z
zone_shown-text absent = refl
zone_shown-text utc = refl
zone_shown-text (ahead hours minutes) = rw (two_digits-shown hours, two_digits-shown minutes)
zone_shown-text (behind hours minutes) = rw (two_digits-shown hours, two_digits-shown minutes)

-- so the text of parts shows these parts
pub spelling_shown-text : (s : Spelling) → IsFraction s.fraction → spelling_shown (spelling_text s) ≡ s
spelling_shown-text s is =
    let date = s.date in
    let clock = s.clock in
    let rest = fraction_text s.fraction ++ zone_text s.zone in
    let year : two_at 0 (date_text date) * 100 + two_at 2 (date_text date) ≡ date.year = omega arith in
    let fraction = fraction_shown-text s.fraction s.zone is in
    let zone : zone_shown (drop (length (fraction_text (fraction_shown rest))) rest) ≡ s.zone = rw (fraction, drop-append_seam (fraction_text s.fraction) (zone_text s.zone)) (zone_shown-text s.zone) in
    λ i. record {
      date = record { year = year i; month = two_digits-shown date.month i; day = two_digits-shown date.day i };
      clock = record {
        hour = two_digits-shown clock.hour i;
        minute = two_digits-shown clock.minute i;
        second = two_digits-shown clock.second i;
      };
      fraction = fraction i;
      zone = zone i;
    }
