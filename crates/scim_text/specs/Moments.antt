-- Moments in seconds since 1970-01-01T00:00:00Z, and their texts.
use Rattle.std.specs.Prelude.{◌≡◌, ◌≤◌, ℕ, zero, suc, ◌+◌, ◌/◌, ◌%◌, Bool, if◌then◌else◌, Option, None, Some, List, [], pos, int_le, bytes_eq}
use Rattle.jiff_core.specs.Calendar.{days_from_civil}
use Rattle.scim_text.specs.Spelling.{CivilDate, Clock, utc, Spelling, spelling_text}

-- the last moment, 9999-12-31T23:59:59Z, in seconds since 1970-01-01T00:00:00Z
abbrev pub last_moment : ℕ
last_moment = 253402300799

-- the greatest number from 1 to n that passes the test, or 0 if there is none
unfoldable pub last_passing : (ℕ → Bool) → ℕ → ℕ
last_passing test zero = 0
last_passing test (suc n) = if test (suc n) then suc n else last_passing test n

-- whether the date is at or before the day with this number, where 1970-01-01 is day 0
abbrev pub has_begun : ℕ → ℕ → ℕ → ℕ → Bool
has_begun number year month day = int_le (days_from_civil (pos year) month day) (pos number)

-- the year of the day with this number
unfoldable pub year_of_day : ℕ → ℕ
year_of_day number = last_passing (λ year. has_begun number year 1 1) 9999

-- the month of the day with this number
unfoldable pub month_of_day : ℕ → ℕ
month_of_day number = last_passing (λ month. has_begun number (year_of_day number) month 1) 12

-- the day of the month of the day with this number
unfoldable pub day_of_month : ℕ → ℕ
day_of_month number =
    last_passing (λ day. has_begun number (year_of_day number) (month_of_day number) day) 31

-- the date of the day with this number
abbrev pub date_of_day : ℕ → CivilDate
date_of_day number =
    record { year = year_of_day number; month = month_of_day number; day = day_of_month number }

-- the time of day this many seconds after midnight
abbrev pub clock_at : ℕ → Clock
clock_at seconds =
    record { hour = seconds / 3600; minute = seconds / 60 % 60; second = seconds % 60 }

-- the parts of a moment's text: whole seconds in UTC, with 86,400 seconds a day
abbrev pub moment_spelling : ℕ → Spelling
moment_spelling n =
    record { date = date_of_day (n / 86400); clock = clock_at (n % 86400); fraction = []; zone = utc }

-- the text of the moment this many seconds after 1970-01-01T00:00:00Z
unfoldable pub moment_text : ℕ → List ℕ
moment_text n = spelling_text (moment_spelling n)

-- the greatest number below n that passes the test, or None if there is none
unfoldable pub last_below : (ℕ → Bool) → ℕ → Option ℕ
last_below test zero = None
last_below test (suc n) = if test n then Some n else last_below test n

-- the moment with this text, or None if no moment has this text
unfoldable pub moment_of : List ℕ → Option ℕ
moment_of text = last_below (λ n. bytes_eq (moment_text n) text) (last_moment + 1)

-- no two moments have the same text
abbrev pub PrintedIsRead : Type 0
PrintedIsRead = (n : ℕ) → n ≤ last_moment → moment_of (moment_text n) ≡ Some n
