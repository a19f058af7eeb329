-- The reading of a moment's text, as a function of the text (RFC 7643 section 2.3.5).
-- The function `moment_in` reads each part of the moment at its place in the text. It accepts the parts if
-- they are valid and their text equals the given text.
use Rattle.std.specs.Prelude.{◌≡◌, ◌↔◌, ℕ, ◌+◌, ◌*◌, ◌-◌, ◌==◌, nat_le, ◌&&◌, Bool, true, if◌then◌else◌, List, [], ◌∷◌, length, drop, take_while, slice_index, bytes_eq, Option, None, Some, pos}
use Rattle.std.specs.Char.{is_ascii_digit}
use Rattle.std.specs.Int.{is_in_range}
use Rattle.std.specs.List.{list_all}
use Rattle.jiff_core.specs.Calendar.{days_in_month}
use Rattle.scim_text.specs.declared.moment_readings.Reading.{Reading}
use Rattle.scim_text.specs.Spelling.{CivilDate, Clock, Zone, absent, utc, ahead, behind, Spelling, fraction_text, spelling_text}
use Rattle.scim_text.specs.Readings.{reading_of, Spells}

-- the number in the two digits at byte offset `place`; 48 is `0`
abbrev pub two_at : ℕ → List ℕ → ℕ
two_at place text = (slice_index text place - 48) * 10 + (slice_index text (place + 1) - 48)

-- the date in a text such as `2024-02-29T23:59:59`
abbrev pub date_shown : List ℕ → CivilDate
date_shown text =
    record { year = two_at 0 text * 100 + two_at 2 text; month = two_at 5 text; day = two_at 8 text }

-- the time of day in a text such as `2024-02-29T23:59:59`
abbrev pub clock_shown : List ℕ → Clock
clock_shown text = record { hour = two_at 11 text; minute = two_at 14 text; second = two_at 17 text }

-- the digits of the fraction in the text that follows the seconds; 46 is the point
abbrev pub fraction_shown : List ℕ → List ℕ
fraction_shown [] = []
fraction_shown (mark ∷ rest) = if mark == 46 then take_while is_ascii_digit rest else []

-- the zone in the text that follows the fraction; its first byte decides, where 43 is `+` and 45 is `-`
abbrev pub zone_shown : List ℕ → Zone
zone_shown [] = absent
zone_shown (mark ∷ rest) =
    if mark == 43 then ahead (two_at 0 rest) (two_at 3 rest)
    else (if mark == 45 then behind (two_at 0 rest) (two_at 3 rest) else utc)

-- the parts of a moment, each read at its place in the text
abbrev pub spelling_shown : List ℕ → Spelling
spelling_shown text =
    let rest = drop 19 text in
    let fraction = fraction_shown rest in record {
      date = date_shown text;
      clock = clock_shown text;
      fraction = fraction;
      zone = zone_shown (drop (length (fraction_text fraction)) rest);
    }

-- whether the date exists in the calendar, and its year is from 1 to 9999
abbrev pub is_date : CivilDate → Bool
is_date d =
    is_in_range 1 9999 d.year && is_in_range 1 12 d.month
    && is_in_range 1 (days_in_month (pos d.year) d.month) d.day

-- whether hours are at most 23, and minutes and seconds at most 59
abbrev pub is_clock : Clock → Bool
is_clock c = nat_le c.hour 23 && nat_le c.minute 59 && nat_le c.second 59

-- whether hours are at most 23 and minutes at most 59
abbrev pub is_offset : ℕ → ℕ → Bool
is_offset hours minutes = nat_le hours 23 && nat_le minutes 59

-- whether the hours and minutes of a zone are within their limits
abbrev pub is_zone : Zone → Bool
is_zone absent = true
is_zone utc = true
is_zone (ahead hours minutes) = is_offset hours minutes
is_zone (behind hours minutes) = is_offset hours minutes

-- whether all parts are valid
abbrev pub is_spelling : Spelling → Bool
is_spelling s = is_date s.date && is_clock s.clock && list_all is_ascii_digit s.fraction && is_zone s.zone

-- the reading of a text, or None if a part is invalid or the parts, printed again, differ from the text
unfoldable pub moment_in : List ℕ → Option Reading
moment_in text =
    let shown = spelling_shown text in
    if is_spelling shown && bytes_eq (spelling_text shown) text then Some (reading_of shown) else None

-- `moment_in` returns a reading exactly if the text denotes that reading
abbrev pub MomentInIsSpelled : Type 0
MomentInIsSpelled = (text : List ℕ) (r : Reading) → (moment_in text ≡ Some r) ↔ Spells text r
