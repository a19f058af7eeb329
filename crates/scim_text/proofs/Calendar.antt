-- The calendar date of a day number is the date that has it.
use Rattle.std.proofs.Common.{◌≡◌, ◌≤◌, ◌<◌, ◌+◌, ℕ, zero, suc, Bool, true, false, if◌then◌else◌, refl, sym, ◌∙◌, inl, inr, arith, rules, pos, ◌≤ℤ◌}
use Rattle.std.proofs.lemmas.Bool.{cases_lt}
use Rattle.std.proofs.lemmas.Int.{ints}
use Rattle.jiff_core.specs.Calendar.{IsYear, days_in_month, days_from_civil}
use Rattle.jiff_core.specs.Date.{epoch_day}
use Rattle.jiff_core.specs.declared.civil.date.Date.{Date}
use Rattle.jiff_core.proofs.CalendarLemmas.{days_from_civil-day_count, day_count-lt_year, days_in_month_bounds}
use Rattle.jiff_core.proofs.DateLemmas.{days_from_civil-day, days_from_civil-next_month, days_from_civil-next_year, days_from_civil-max, epoch_day_injective}
use Rattle.jiff_core.proofs.SignedLemmas.{signed_arith}
use Rattle.jiff_core.proofs.StandardFacts.{known_days}
use Rattle.scim_text.specs.Spelling.{CivilDate, IsDate}
use Rattle.scim_text.specs.Moments.{last_passing, has_begun, year_of_day, month_of_day, day_of_month, date_of_day}
use Rattle.scim_text.specs.Readings.{day_number}

-- no month is longer than 31 days
pub day_bound : (d : CivilDate) → IsDate d → d.day ≤ 31
day_bound d h = omega (arith, h.in_calendar, days_in_month_bounds (pos d.year) d.month)

-- k is the last number up to n that passes
record IsLast (test : ℕ → Bool) (n k : ℕ) : Type 0 where
  from_one : 1 ≤ k
  within : k ≤ n
  passes : test k ≡ true
  last : (j : ℕ) → k < j → j ≤ n → test j ≡ false

-- one number more, which passes or not
IsLast-suc : (test : ℕ → Bool) (n : ℕ) (passes : Bool) → test (suc n) ≡ passes → IsLast test n (last_passing test n) → IsLast test (suc n) (if passes then suc n else last_passing test n)
IsLast-suc test n true e before =
    record { from_one = omega arith; within = omega arith; passes = e; last = λ j low high. absurd (omega arith) }
IsLast-suc test n false e before = record {
  from_one = before.from_one;
  within = omega (arith, before.within);
  passes = before.passes;
  last = λ j low high. elim (cases_lt j (suc n)) [
    | inl lt ↦ before.last j low (omega arith)
    | inr ge ↦ (let same : j ≡ suc n = omega arith in rw same e)
  ];
}

-- where 1 passes, `last_passing` is that number
IsLast-last_passing : (test : ℕ → Bool) (n : ℕ) → 1 ≤ n → test 1 ≡ true → IsLast test n (last_passing test n)
unfolding last_passing
IsLast-last_passing test zero low first = absurd (omega arith)
IsLast-last_passing test (suc zero) low first =
    rw first (record { from_one = omega arith; within = omega arith; passes = first; last = λ j low high. absurd (omega arith) })
IsLast-last_passing test (suc (suc n)) low first =
    IsLast-suc test (suc n) (test (suc (suc n))) refl (IsLast-last_passing test (suc n) (omega arith) first)

-- the year 1 has begun by each day from 1970-01-01 on
year_one : (n : ℕ) → has_begun n 1 1 1 ≡ true
year_one n =
    let before = day_count-lt_year (pos 1) 1 1 (pos 1970) 1 1 (search rules) (omega arith) (search rules) in
    let low : days_from_civil (pos 1) 1 1 ≤ℤ pos n = omega (arith, signed_arith, days_from_civil-day_count (pos 1) 1 1, days_from_civil-day_count (pos 1970) 1 1, known_days.0) in
    grind (arith, ints)

-- so the year, the month and the day of a date are the last that have begun
is_year : (n : ℕ) → IsLast (λ year. has_begun n year 1 1) 9999 (year_of_day n)
unfolding year_of_day
is_year n = IsLast-last_passing (λ year. has_begun n year 1 1) 9999 (omega arith) (year_one n)

is_month : (n : ℕ) → IsLast (λ month. has_begun n (year_of_day n) month 1) 12 (month_of_day n)
unfolding month_of_day
is_month n =
    IsLast-last_passing (λ month. has_begun n (year_of_day n) month 1) 12 (omega arith) (is_year n).passes

is_day : (n : ℕ) → IsLast (λ day. has_begun n (year_of_day n) (month_of_day n) day) 31 (day_of_month n)
unfolding day_of_month
is_day n =
    IsLast-last_passing (λ day. has_begun n (year_of_day n) (month_of_day n) day) 31 (omega arith) (is_month n).passes

-- the day is not after the last day of its year
within_year : (n : ℕ) → n ≤ 2932896 → pos n ≤ℤ days_from_civil (pos (year_of_day n)) 12 31
within_year n high =
    let is = is_year n in
    elim (cases_lt (year_of_day n) 9999) [
      | inl lt ↦ (
          let after = is.last (year_of_day n + 1) (omega arith) (omega arith) in
          let next = days_from_civil-next_year (pos (year_of_day n)) (pos (year_of_day n + 1)) (omega (arith, signed_arith)) (omega (arith, signed_arith)) in
          omega (arith, signed_arith, after, next))
      | inr ge ↦ (
          let same : year_of_day n ≡ 9999 = omega (arith, is.within) in
          rw same (omega (arith, signed_arith, days_from_civil-max)))
    ]

-- nor after the last day of its month
within_month : (n : ℕ) → n ≤ 2932896 → pos n ≤ℤ days_from_civil (pos (year_of_day n)) (month_of_day n) (days_in_month (pos (year_of_day n)) (month_of_day n))
within_month n high =
    let is = is_month n in
    elim (cases_lt (month_of_day n) 12) [
      | inl lt ↦ (
          let after = is.last (month_of_day n + 1) (omega arith) (omega arith) in
          let next = days_from_civil-next_month (pos (year_of_day n)) (month_of_day n) _ is.from_one refl in
          omega (arith, signed_arith, after, next))
      | inr ge ↦ (
          let same : month_of_day n ≡ 12 = omega (arith, is.within) in
          rw same (within_year n high))
    ]

-- the date of a day is in the calendar, and has that day's number
pub IsDate-date_of_day : (n : ℕ) → n ≤ 2932896 → IsDate (date_of_day n) × (day_number (date_of_day n) ≡ pos n)
IsDate-date_of_day n high =
    let y = pos (year_of_day n) in
    let m = month_of_day n in
    let d = day_of_month n in
    let is = is_day n in
    let length = days_in_month_bounds y m in
    let last = days_from_civil-day y m d (days_in_month y m) is.from_one (omega arith) in
    let number : days_from_civil y m d ≡ pos n = elim (cases_lt d 31) [
      | inl lt ↦ (
          let after = is.last (d + 1) (omega arith) (omega arith) in
          omega (arith, signed_arith, after, is.passes, days_from_civil-day y m d (d + 1) is.from_one (omega arith)))
      | inr ge ↦ omega (arith, signed_arith, is.passes, is.within, within_month n high, last)
    ] in
    let year_in : IsYear y = omega (arith, signed_arith, (is_year n).within) in
    let day_in : d ≤ days_in_month y m = omega (arith, signed_arith, number, within_month n high, last) in (
      record {
        from_year_one = (is_year n).from_one;
        in_calendar = (year_in, ((is_month n).from_one, (is_month n).within), (is.from_one, day_in));
      },
      number,
    )

-- so it is the date that jiff has under that number
pub parts_of_day : (d : Date) (n : ℕ) → n ≤ 2932896 → epoch_day d ≡ pos n → (d.year ≡ pos (year_of_day n)) × (d.month ≡ month_of_day n) × (d.day ≡ day_of_month n)
parts_of_day d n high e =
    let is = IsDate-date_of_day n high in
    epoch_day_injective d (record {
      year = pos (year_of_day n);
      month = month_of_day n;
      day = day_of_month n;
      year_in = is.0.in_calendar.0;
      month_in = is.0.in_calendar.1;
      day_in = is.0.in_calendar.2;
    }) (e ∙ sym is.1)
