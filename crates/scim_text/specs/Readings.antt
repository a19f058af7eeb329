-- The instant that the text of a moment denotes.
use Rattle.std.specs.Prelude.{◌≡◌, ◌↔◌, ℕ, ◌+◌, ◌*◌, ◌==◌, not, Bool, false, List, ℤ, pos, neg_ℤ, ◌+ℤ◌, ◌-ℤ◌, ◌*ℤ◌, ◌≤◌}
use Rattle.std.specs.List.{list_any}
use Rattle.std.specs.declared.cmp.Ordering.{Ordering}
use Rattle.std.specs.declared.cmp.Ordering.TheVariants.{Equal}
use Rattle.std.specs.Ordering.{nat_cmp, int_cmp, bool_cmp, on, then_cmp}
use Rattle.std.specs.Cmp.{IsTotalOrder}
use Rattle.jiff_core.specs.Calendar.{days_from_civil}
use Rattle.scim_text.specs.declared.moment_readings.Reading.{Reading}
use Rattle.scim_text.specs.Moments.{last_moment, moment_text}
use Rattle.scim_text.specs.Spelling.{CivilDate, Clock, Zone, absent, utc, ahead, behind, Spelling, spelling_text, IsSpelling}

-- the number of a day, where 1970-01-01 is 0
abbrev pub day_number : CivilDate → ℤ
day_number d = days_from_civil (pos d.year) d.month d.day

-- the seconds since midnight of a time of day
abbrev pub clock_seconds : Clock → ℕ
clock_seconds c = c.hour * 3600 + c.minute * 60 + c.second

-- the number of seconds in these hours and minutes
abbrev pub offset_seconds : ℕ → ℕ → ℕ
offset_seconds hours minutes = hours * 3600 + minutes * 60

-- how many seconds the clock of a zone is ahead of UTC; a text without a zone is in UTC
abbrev pub zone_seconds : Zone → ℤ
zone_seconds absent = pos 0
zone_seconds utc = pos 0
zone_seconds (ahead hours minutes) = pos (offset_seconds hours minutes)
zone_seconds (behind hours minutes) = neg_ℤ (pos (offset_seconds hours minutes))

-- whether one of the digits of the fraction isn't `0`
abbrev pub is_above_zero : List ℕ → Bool
is_above_zero fraction = list_any (λ digit. not (digit == 48)) fraction

-- the instant that these parts denote: the whole seconds since 1970-01-01T00:00:00Z, and whether the fraction
-- is greater than zero
abbrev pub reading_of : Spelling → Reading
reading_of s = record {
  second = day_number s.date *ℤ pos 86400 +ℤ pos (clock_seconds s.clock) -ℤ zone_seconds s.zone;
  later = is_above_zero s.fraction;
}

-- the text has the form of a moment's text
pub record IsMomentForm (text : List ℕ) : Type 0 where
  pub spelling : Spelling
  pub is_spelling : IsSpelling spelling
  pub written : text ≡ spelling_text spelling

-- the text has the form of a moment's text and denotes this reading
pub record Spells (text : List ℕ) (reading : Reading) : Type 0 where
  pub spelling : Spelling
  pub is_spelling : IsSpelling spelling
  pub written : text ≡ spelling_text spelling
  pub meant : reading ≡ reading_of spelling

-- a text denotes at most one reading
abbrev pub HasOneReading : Type 0
HasOneReading = (text : List ℕ) (a b : Reading) → Spells text a → Spells text b → a ≡ b

-- the text of a moment denotes that moment, without a fraction
abbrev pub PrintedReadsBack : Type 0
PrintedReadsBack = (n : ℕ) → n ≤ last_moment → Spells (moment_text n) (record { second = pos n; later = false })

-- the order of readings: by second; within a second, a reading without a fraction comes first
abbrev pub reading_cmp : Reading → Reading → Ordering
reading_cmp = then_cmp (on (λ (r : Reading). r.second) int_cmp) (on (λ (r : Reading). r.later) bool_cmp)

-- a comparison of readings agrees with `reading_cmp`
abbrev pub OrdersReadings : (Reading → Reading → Ordering) → Type 0
OrdersReadings compare = (a b : Reading) → compare a b ≡ reading_cmp a b

-- `reading_cmp` is a total order in which only equal readings compare as equal
pub record ReadingsAreOrdered : Type 0 where
  pub total : IsTotalOrder reading_cmp
  pub apart : (a b : Reading) → (reading_cmp a b ≡ Equal) ↔ (a ≡ b)

-- the readings of the printed texts of two moments are in the same order as the moments
abbrev pub PrintedInOrder : Type 0
PrintedInOrder = (m n : ℕ) (a b : Reading) → m ≤ last_moment → n ≤ last_moment → Spells (moment_text m) a → Spells (moment_text n) b → reading_cmp a b ≡ nat_cmp m n
