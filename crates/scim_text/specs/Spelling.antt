-- The form of a moment's text: the `dateTime` of RFC 7643 section 2.3.5, as in RFC 3339.
-- The zone may be absent, as in XML Schema. A text is the list of its bytes.
use Rattle.std.specs.Prelude.{ℕ, ◌+◌, ◌/◌, ◌%◌, ◌≤◌, List, [], ◌∷◌, ◌++◌, pos, codes, IsTrue}
use Rattle.std.specs.List.{list_all}
use Rattle.std.specs.Char.{is_ascii_digit}
use Rattle.jiff_core.specs.Calendar.{IsCivilDate}

-- the two digits of a number below 100
abbrev pub two_digits : ℕ → List ℕ
two_digits n = (48 + n / 10) ∷ (48 + n % 10) ∷ []

-- the four digits of a number below 10000
abbrev pub four_digits : ℕ → List ℕ
four_digits n = two_digits (n / 100) ++ two_digits (n % 100)

-- a day of the calendar
pub record CivilDate : Type 0 where
  pub year : ℕ
  pub month : ℕ
  pub day : ℕ

-- a time of day, in whole seconds
pub record Clock : Type 0 where
  pub hour : ℕ
  pub minute : ℕ
  pub second : ℕ

-- the zone of a text: absent, UTC, or hours and minutes ahead of UTC or behind it
pub data Zone : Type 0 where
  absent : Zone
  utc : Zone
  ahead : ℕ → ℕ → Zone
  behind : ℕ → ℕ → Zone

-- the parts of a moment's text; the fraction is the digits after the point, and empty if there is no point
pub record Spelling : Type 0 where
  pub date : CivilDate
  pub clock : Clock
  pub fraction : List ℕ
  pub zone : Zone

-- the text of a date, such as `2024-02-29`
abbrev pub date_text : CivilDate → List ℕ
date_text d = four_digits d.year ++ codes "-" ++ two_digits d.month ++ codes "-" ++ two_digits d.day

-- the text of a time of day, such as `T23:59:59`
abbrev pub clock_text : Clock → List ℕ
clock_text c =
    codes "T" ++ two_digits c.hour ++ codes ":" ++ two_digits c.minute ++ codes ":" ++ two_digits c.second

-- the text of a fraction, such as `.5`; empty if there are no digits
abbrev pub fraction_text : List ℕ → List ℕ
fraction_text [] = []
fraction_text (digit ∷ digits) = codes "." ++ digit ∷ digits

-- the text of hours and minutes, such as `05:30`
abbrev pub offset_text : ℕ → ℕ → List ℕ
offset_text hours minutes = two_digits hours ++ codes ":" ++ two_digits minutes

-- the text of a zone: `Z`, `+05:30`, `-05:30` or nothing
abbrev pub zone_text : Zone → List ℕ
zone_text absent = []
zone_text utc = codes "Z"
zone_text (ahead hours minutes) = codes "+" ++ offset_text hours minutes
zone_text (behind hours minutes) = codes "-" ++ offset_text hours minutes

-- the whole text of a moment, such as `2024-02-29T23:59:59.5+05:30`
abbrev pub spelling_text : Spelling → List ℕ
spelling_text s = date_text s.date ++ clock_text s.clock ++ fraction_text s.fraction ++ zone_text s.zone

-- the date exists in the calendar, and its year is from 1 to 9999
pub record IsDate (d : CivilDate) : Type 0 where
  pub from_year_one : 1 ≤ d.year
  pub in_calendar : IsCivilDate (pos d.year) d.month d.day

-- hours are at most 23, and minutes and seconds at most 59
pub record IsClock (c : Clock) : Type 0 where
  pub hour : c.hour ≤ 23
  pub minute : c.minute ≤ 59
  pub second : c.second ≤ 59

-- the fraction consists of digits
abbrev pub IsFraction : List ℕ → Type 0
IsFraction digits = IsTrue (list_all is_ascii_digit digits)

-- hours are at most 23 and minutes at most 59
abbrev pub IsOffset : ℕ → ℕ → Type 0
IsOffset hours minutes = (hours ≤ 23) × (minutes ≤ 59)

-- the hours and minutes of a zone are within their limits
abbrev pub IsZone : Zone → Type 0
IsZone absent = Unit {0}
IsZone utc = Unit {0}
IsZone (ahead hours minutes) = IsOffset hours minutes
IsZone (behind hours minutes) = IsOffset hours minutes

-- all parts are valid
pub record IsSpelling (s : Spelling) : Type 0 where
  pub date : IsDate s.date
  pub clock : IsClock s.clock
  pub fraction : IsFraction s.fraction
  pub zone : IsZone s.zone
