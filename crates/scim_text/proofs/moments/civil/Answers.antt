use Rattle.std.proofs.Common.{◌≡◌, ◌++◌, ◌/◌, pos, arith}
use Rattle.jiff.specs.Words.{iso_datetime_text}
use Rattle.jiff_core.specs.declared.civil.datetime.DateTime.{DateTime}
use Rattle.jiff_core.proofs.CalendarLemmas.{days_in_month_bounds}
use Rattle.jiff_core.proofs.SignedLemmas.{signed_casts}
use Rattle.scim_text.specs.Spelling.{CivilDate, Clock, date_text, clock_text}
use Rattle.scim_text.proofs.Calendar.{parts_of_day}
use Rattle.scim_text.proofs.moments.civil.Goals as goal

-- jiff writes these parts as they are written here
same_text : (shown : DateTime) (d : CivilDate) (t : Clock) → (shown.date.year ≡ pos d.year) × (shown.date.month ≡ d.month) × (shown.date.day ≡ d.day) → (shown.time.hour ≡ t.hour) × (shown.time.minute ≡ t.minute) × (shown.time.second ≡ t.second) × (shown.time.subsec_nanosecond ≡ 0) → iso_datetime_text shown ≡ date_text d ++ clock_text t
same_text shown d t date time = rw (date.0, date.1, date.2, time.0, time.1, time.2, time.3)

pub returns : goal.returns
returns c =
    let date = c.date_of-date.result in
    let parts = parts_of_day date (c.args.seconds / 86400) (omega arith) c.date_of-date.ensures in
    let shown = c.datetime.ensures.date in
    let bounds = days_in_month_bounds date.year date.month in
    same_text c.datetime.result _ _
    (omega (arith, signed_casts, date.year_in, shown.0), omega (arith, signed_casts, date.month_in, shown.1, parts.1), omega (arith, signed_casts, date.day_in, shown.2, parts.2))
    (omega (arith, signed_casts))
