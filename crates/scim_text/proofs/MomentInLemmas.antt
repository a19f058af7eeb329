-- The function `moment_in` gives the reading that a text spells.
use Rattle.std.proofs.Common.{◌≡◌, Bool, true, false, ◌&&◌, if◌then◌else◌, List, ℕ, refl, sym, ap, ◌∙◌, arith}
use Rattle.std.specs.Prelude.{Option, None, Some, bytes_eq, IsSome, IfSome}
use Rattle.std.specs.Bool.{Decides}
use Rattle.std.specs.Char.{is_ascii_digit}
use Rattle.std.specs.List.{list_all}
use Rattle.std.proofs.lemmas.Bool.{and_parts, and_from, cond-true}
use Rattle.std.proofs.lemmas.Bool.Decides.{nat_tests, Decides-and, Decides-like}
use Rattle.std.proofs.lemmas.Slice.Eq.{bytes_eq-Decides}
use Rattle.jiff_core.proofs.SignedLemmas.{signed_arith}
use Rattle.scim_text.specs.declared.moment_readings.Reading.{Reading}
use Rattle.scim_text.specs.Spelling.{CivilDate, Clock, Zone, absent, utc, ahead, behind, Spelling, spelling_text, IsDate, IsClock, IsFraction, IsZone, IsSpelling}
use Rattle.scim_text.specs.Readings.{reading_of, IsMomentForm, Spells, HasOneReading}
use Rattle.scim_text.specs.MomentIn.{spelling_shown, is_date, is_clock, is_zone, is_spelling, moment_in}
use Rattle.scim_text.proofs.Spellings.{spelling_shown-text}

-- each test decides what it is named for
Decides-date : (d : CivilDate) → Decides (is_date d) (IsDate d)
Decides-date d = (
  λ test. grind (arith, signed_arith, nat_tests),
  λ is. grind (arith, signed_arith, nat_tests, is.from_year_one, is.in_calendar),
)

Decides-clock : (c : Clock) → Decides (is_clock c) (IsClock c)
Decides-clock c =
    (λ test. grind (arith, nat_tests), λ is. grind (arith, nat_tests, is.hour, is.minute, is.second))

Decides-zone : (z : Zone) → Decides (is_zone z) (IsZone z)
Decides-zone absent = (λ _. tt, λ _. refl)
Decides-zone utc = (λ _. tt, λ _. refl)
Decides-zone (ahead hours minutes) = grind (arith, nat_tests)
Decides-zone (behind hours minutes) = grind (arith, nat_tests)

Decides-spelling : (s : Spelling) → Decides (is_spelling s) (IsSpelling s)
Decides-spelling s =
    let digits : Decides (list_all is_ascii_digit s.fraction) (IsFraction s.fraction) = (λ h. h, λ h. h) in
    Decides-like (is_spelling s)
    (λ is. record { date = is.0.0.0; clock = is.0.0.1; fraction = is.0.1; zone = is.1 })
    (λ is. (((is.date, is.clock), is.fraction), is.zone))
    (Decides-and _ _ (Decides-and _ _ (Decides-and _ _ (Decides-date s.date) (Decides-clock s.clock)) digits) (Decides-zone s.zone))

-- what is found where a test passes
Some_if : {A : Type 0} (test : Bool) (x y : A) → (if test then Some x else None) ≡ Some y → (test ≡ true) × (x ≡ y)
Some_if true x y e = (refl, cc)
Some_if false x y e = cc

-- the moment in a text is spelled there
pub Spells-moment_in : (text : List ℕ) (r : Reading) → moment_in text ≡ Some r → Spells text r
unfolding moment_in
Spells-moment_in text r is =
    let shown = spelling_shown text in
    let found = Some_if (is_spelling shown && bytes_eq (spelling_text shown) text) (reading_of shown) r is in
    let passes = and_parts (is_spelling shown) (bytes_eq (spelling_text shown) text) found.0 in record {
      spelling = shown;
      is_spelling = (Decides-spelling shown).0 passes.0;
      written = sym ((bytes_eq-Decides (spelling_text shown) text).0 passes.1);
      meant = sym found.1;
    }

-- and what is spelled there is the moment in it
pub moment_in-Spells : (text : List ℕ) (r : Reading) → Spells text r → moment_in text ≡ Some r
unfolding moment_in
moment_in-Spells text r spells =
    let s = spells.spelling in
    let read : Spelling → Option Reading = λ shown. if is_spelling shown && bytes_eq (spelling_text shown) text then Some (reading_of shown) else None in
    let same : spelling_shown text ≡ s = rw spells.written (spelling_shown-text s spells.is_spelling.fraction) in
    let passes = and_from _ _ ((Decides-spelling s).1 spells.is_spelling) ((bytes_eq-Decides (spelling_text s) text).1 (sym spells.written)) in
    ap read same ∙ cond-true _ (Some (reading_of s)) None passes ∙ ap Some (sym spells.meant)

-- so a text stands for one reading at most
pub one_reading : HasOneReading
one_reading text a b first second =
    let found : Some a ≡ Some b = sym (moment_in-Spells text a first) ∙ moment_in-Spells text b second in cc

-- and what is found is the moment in a text, if something is found wherever there is one
pub is_moment_in : (text : List ℕ) (found : Option Reading) → IfSome found (Spells text) → (IsMomentForm text → IsSome found) → found ≡ moment_in text
is_moment_in text (Some r) spells complete = sym (moment_in-Spells text r spells)
is_moment_in text None spells complete =
    let at : (o : Option Reading) → moment_in text ≡ o → None ≡ o = λ o. elim o as (λ o. moment_in text ≡ o → None ≡ o) [
      | None ↦ λ is. refl
      | Some r ↦ λ is. (let has = Spells-moment_in text r is in
          let some = complete (record { spelling = has.spelling; is_spelling = has.is_spelling; written = has.written }) in
          cc)
    ] in
    at (moment_in text) refl
