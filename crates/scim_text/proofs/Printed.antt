-- The moment that has a text.
use Rattle.std.proofs.Common.{◌≡◌, ◌≤◌, ◌<◌, ◌+◌, ◌/◌, ◌%◌, ℕ, zero, suc, Bool, true, false, if◌then◌else◌, List, refl, sym, ap, subst, ◌∙◌, inl, inr, arith, pos}
use Rattle.std.specs.Prelude.{Option, None, Some, bytes_eq}
use Rattle.std.specs.Bool.{then_some}
use Rattle.std.proofs.lemmas.Bool.{cases_lt}
use Rattle.std.proofs.lemmas.Slice.Eq.{bytes_eq-Decides}
use Rattle.jiff_core.proofs.SignedLemmas.{signed_arith}
use Rattle.scim_text.specs.Moments.{last_moment, moment_text, moment_spelling, clock_at, last_below, moment_of, PrintedIsRead}
use Rattle.scim_text.specs.Readings.{clock_seconds, Spells, PrintedReadsBack}
use Rattle.scim_text.proofs.Calendar.{IsDate-date_of_day}
use Rattle.scim_text.proofs.MomentInLemmas.{one_reading}
use Rattle.scim_text.proofs.Spellings.{same_reading}

-- the text of a moment stands for that moment
pub printed_reads_back : PrintedReadsBack
unfolding moment_text
printed_reads_back n high =
    let date = IsDate-date_of_day (n / 86400) (omega arith) in
    let clock : clock_seconds (clock_at (n % 86400)) ≡ n % 86400 = omega arith in record {
      spelling = moment_spelling n;
      is_spelling = record {
        date = date.0;
        clock = record { hour = omega arith; minute = omega arith; second = omega arith };
        fraction = refl;
        zone = tt;
      };
      written = refl;
      meant = same_reading _ _ (omega (arith, signed_arith, date.1, clock)) refl;
    }

-- so two moments have two texts
pub moment_text-injective : (m n : ℕ) → m ≤ last_moment → n ≤ last_moment → moment_text m ≡ moment_text n → m ≡ n
moment_text-injective m n low high same =
    let second : pos m ≡ pos n = ap (λ r. r.second) (one_reading (moment_text n) _ _ (subst (λ text. Spells text (record { second = pos m; later = false })) same (printed_reads_back m low)) (printed_reads_back n high)) in
    cc

-- one number more, which is the one that passes or not
Some-step : (passes : Bool) (b n : ℕ) (rest : Option ℕ) → (passes ≡ true → b ≡ n) → (passes ≡ false → rest ≡ Some n) → (if passes then Some b else rest) ≡ Some n
Some-step true b n rest here below = ap Some (here refl)
Some-step false b n rest here below = below refl

-- where the number at the bound fails, the one that passes is below it
still_below : (test : ℕ → Bool) (b n : ℕ) → n < suc b → test n ≡ true → test b ≡ false → n < b
still_below test b n low passes fails = elim (cases_lt n b) [
  | inl lt ↦ lt
  | inr ge ↦ (let same : n ≡ b = omega arith in let both : true ≡ false = sym passes ∙ ap test same ∙ fails in cc)
]

-- the only number below the bound that passes is the last one
last_below-only : (test : ℕ → Bool) (bound n : ℕ) → n < bound → test n ≡ true → ((m : ℕ) → m < bound → test m ≡ true → m ≡ n) → last_below test bound ≡ Some n
unfolding last_below
last_below-only test zero n low passes only = absurd (omega arith)
last_below-only test (suc b) n low passes only =
    Some-step (test b) b n (last_below test b) (only b (omega arith))
    (λ fails. last_below-only test b n (still_below test b n low passes fails) passes (λ m below. only m (omega arith)))

-- one number more again: what is found passes, and is below the bound
passes-step : (test : ℕ → Bool) (b n : ℕ) (passes : Bool) (rest : Option ℕ) → test b ≡ passes → (rest ≡ Some n → (n < b) × (test n ≡ true)) → (if passes then Some b else rest) ≡ Some n → (n < suc b) × (test n ≡ true)
passes-step test b n true rest e below is = let same : b ≡ n = cc in (omega arith, ap test (sym same) ∙ e)
passes-step test b n false rest e below is = let found = below is in (omega arith, found.1)

-- so the last number that passes does pass
last_below-passes : (test : ℕ → Bool) (bound n : ℕ) → last_below test bound ≡ Some n → (n < bound) × (test n ≡ true)
unfolding last_below
last_below-passes test zero n is = cc
last_below-passes test (suc b) n is =
    passes-step test b n (test b) (last_below test b) refl (last_below-passes test b n) is

-- the text of a moment is that moment's
pub printed_is_read : PrintedIsRead
unfolding moment_of
printed_is_read n high =
    last_below-only (λ m. bytes_eq (moment_text m) (moment_text n)) (last_moment + 1) n (omega arith)
    ((bytes_eq-Decides (moment_text n) (moment_text n)).1 refl)
    (λ m below same. moment_text-injective m n (omega arith) high ((bytes_eq-Decides (moment_text m) (moment_text n)).0 same))

-- and the moment of a text has that text
pub moment_of-text : (text : List ℕ) (n : ℕ) → moment_of text ≡ Some n → (n ≤ last_moment) × (moment_text n ≡ text)
unfolding moment_of
moment_of-text text n is =
    let found = last_below-passes (λ m. bytes_eq (moment_text m) text) (last_moment + 1) n is in
    (omega arith, (bytes_eq-Decides (moment_text n) text).0 found.1)

-- a text that is no moment's has none
pub moment_of-no_text : (text : List ℕ) → ((n : ℕ) → n ≤ last_moment → moment_text n ≡ text → ⊥) → moment_of text ≡ None
moment_of-no_text text other =
    let at : (found : Option ℕ) → moment_of text ≡ found → moment_of text ≡ None = λ found. elim found as (λ found. moment_of text ≡ found → moment_of text ≡ None) [
      | None ↦ λ is. is
      | Some n ↦ λ is. (let has = moment_of-text text n is in absurd (other n has.0 has.1))
    ] in
    at (moment_of text) refl

-- a text that stands for no moment has none
pub moment_of-not_meant : (text : List ℕ) (meant : Option ℕ) → meant ≡ None → ((n : ℕ) → n ≤ last_moment → Spells text (record { second = pos n; later = false }) → meant ≡ Some n) → moment_of text ≡ None
moment_of-not_meant text meant none complete =
    moment_of-no_text text
    (λ n high has. let found : meant ≡ Some n = complete n high (rw has at (printed_reads_back n high)) in cc)

-- a text that stands for one moment alone has that moment, or none where it is not its text
pub moment_of-meant : (text : List ℕ) (m : ℕ) (same : Bool) → m ≤ last_moment → same ≡ bytes_eq (moment_text m) text → ((n : ℕ) → n ≤ last_moment → Spells text (record { second = pos n; later = false }) → Some m ≡ Some n) → then_some same m ≡ moment_of text
moment_of-meant text m true high is complete =
    let has : moment_text m ≡ text = (bytes_eq-Decides (moment_text m) text).0 (sym is) in
    sym (rw has at (printed_is_read m high))
moment_of-meant text m false high is complete =
    sym (moment_of-no_text text
    (λ n below has. let same : Some m ≡ Some n = complete n below (rw has at (printed_reads_back n below)) in
    let both : false ≡ true = is ∙ (bytes_eq-Decides (moment_text m) text).1 (let one : m ≡ n = cc in ap moment_text one ∙ has) in cc))
