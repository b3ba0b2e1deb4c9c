-- Dates and times as a format writes them.
use Rattle.std.specs.Prelude.{ℕ, suc, ◌/◌, ℤ, pos, ◌+ℤ◌, ◌-ℤ◌, int_lt, unsigned_abs, false, if◌then◌else◌, Option, Some, None, Result, Ok, Err, codes}
use Rattle.std.specs.Int.{int_div_euclid}
use Rattle.std.specs.Ordering.{int_eq}
use Rattle.std.specs.Str.{is_utf8}
use Rattle.jiff_core.specs.Calendar.{day_of_year, weekday_number, iso_year_start}
use Rattle.jiff_core.specs.Timestamp.{nanos_of_seconds}
use Rattle.jiff_core.specs.declared.error.Error.{Error}
use Rattle.jiff_core.specs.declared.error.Error.TheVariants.{Missing}
use Rattle.jiff_core.specs.declared.error.Part.TheVariants as Part
use Rattle.jiff_fmt.specs.Offset as Offset
use Rattle.jiff_fmt.specs.Reader.{◌>>=◌}
use Rattle.jiff_fmt.specs.Temporal.{DateTimeParts, instant, parts_nanos, time_or_midnight, full, temporal_datetime}
use Rattle.jiff_fmt.specs.declared.offset.ParsedOffset.{ParsedOffset}
use Rattle.jiff_strtime.specs.Show.{Context, Shown, show_format}
use Rattle.jiff_strtime.specs.Text.{Parts, no_parts, from_hour}
use Rattle.jiff_strtime.specs.declared.directive.Config.{Config}
use Rattle.jiff_strtime.specs.declared.directive.Locale.TheVariants.{Default}
use Rattle.tera_errors.specs.Site.{Text}
use Rattle.tera_errors.specs.Fault.{Fault, invalid_argument}
use Rattle.tera_values.specs.Alphabet.{plain}
use Rattle.tera_values.specs.Val.{Val, int, text}
use Rattle.tera_values.specs.Named.{Named}
use Rattle.tera_built_ins.specs.Arguments.{◌▸◌, Given, as_text, as_bytes, or_default, optional}
use Rattle.tera_filters.specs.Clocks.{Day, Time, day_nanos, date_on, time_on, told, instant_after}

-- what a clock shows, or an instant and how many seconds a clock is ahead of UTC that shows it:
-- nanoseconds since the start of 1970, there and at UTC
pub data Moment : Type 0 where
  civil : (clock : ℤ) → Moment
  placed : (nanos seconds : ℤ) → Moment

-- the number of the day that a clock shows, where 1 January 1970 has 0
abbrev pub number_on : ℤ → ℤ
number_on clock = int_div_euclid clock (pos day_nanos)

-- the year to which ISO 8601 counts the week of a day of this number and this year
abbrev pub iso_year : ℤ → ℤ → ℤ
iso_year number year =
    if int_lt number (iso_year_start year) then year -ℤ pos 1
    else (if int_lt number (iso_year_start (year +ℤ pos 1)) then year else year +ℤ pos 1)

abbrev pub iso_week : ℤ → ℤ → ℕ
iso_week number year = suc (unsigned_abs (number -ℤ iso_year_start year) / 7)

-- all that a format can show of a day and a time
abbrev pub parts_on : Day → Time → ℤ → Parts
parts_on d t number = record no_parts {
  year = Some d.year;
  month = Some d.month;
  day = Some d.day;
  day_of_year = Some (day_of_year d.year d.month d.day);
  iso_week_year = Some (iso_year number d.year);
  iso_week = Some (iso_week number (iso_year number d.year));
  weekday = Some (weekday_number number);
  hour = Some t.hour;
  minute = Some t.minute;
  second = Some t.second;
  subsec = Some t.subsec;
  meridiem = Some (from_hour t.hour);
}

abbrev pub clock_parts : ℤ → Parts
clock_parts clock = parts_on (date_on clock) (time_on clock) (number_on clock)

-- only UTC has a name
abbrev pub name_of_offset : ℤ → Option Text
name_of_offset seconds = if int_eq seconds (pos 0) then Some (codes "UTC") else None

abbrev pub moment_parts : Moment → Parts
moment_parts (civil clock) = clock_parts clock
moment_parts (placed nanos seconds) =
    record (clock_parts (nanos +ℤ nanos_of_seconds seconds)) {
      offset = Some seconds;
      timestamp = Some nanos;
      tz_abbreviation = name_of_offset seconds;
    }

abbrev pub second_of_moment : Moment → Result ℤ Error
second_of_moment (civil clock) = Err (Missing Part.Instant)
second_of_moment (placed nanos seconds) = Ok (int_div_euclid nanos (pos 1_000_000_000))

abbrev pub IsPlaced : Moment → Type 0
IsPlaced (civil clock) = ⊥
IsPlaced (placed nanos seconds) = Unit {0}

-- no part of the date is left to be found
abbrev pub context_of : Moment → Context
context_of m = record {
  parts = moment_parts m;
  date = Err (Missing Part.Date);
  iso = Err (Missing Part.Date);
  second = second_of_moment m;
}

-- a directive that can't be followed is refused
abbrev pub strict : Config
strict = record { locale = Default; lenient = false }

abbrev pub readable : Shown → Result Text Fault
readable (Ok t) = if is_utf8 t then Ok t else Err invalid_argument
readable (Err e) = Err invalid_argument

abbrev pub shown : Text → Moment → Result Text Fault
shown format m = readable (show_format strict format (context_of m))

-- the instant at which a clock shows this, that is so many seconds ahead of UTC
abbrev pub placed_on : ℤ → ℤ → Result Moment Error
placed_on clock seconds =
    instant (clock -ℤ nanos_of_seconds seconds) >>= (λ nanos. Ok (placed nanos seconds))

-- a date and a time, and the offset if it was written
abbrev pub moment_at : ℤ → Option ParsedOffset → Result Moment Error
moment_at clock None = Ok (civil clock)
moment_at clock (Some written) = Offset.to_offset written >>= placed_on clock

abbrev pub moment_of_parts : DateTimeParts → Result Moment Error
moment_of_parts p = moment_at (parts_nanos p.date (time_or_midnight p.time)) p.offset

-- `2024-05-31`, `2024-05-31T10:20:30`, and the same with an offset or `Z`
abbrev pub parse_moment : Text → Result Moment Error
parse_moment t = full (temporal_datetime t) >>= moment_of_parts

-- a text, or seconds since 1970
abbrev pub moment_of : Val → Result Moment Fault
moment_of (int z) = instant_after z ▸ λ nanos. Ok (placed nanos (pos 0))
moment_of (text t s) = told (parse_moment t)
moment_of v = Err invalid_argument

-- `+02:00`, or `Z`
abbrev pub parse_offset : Text → Result ℤ Error
parse_offset t = full (Offset.parse Offset.datetime_parser t) >>= Offset.to_offset

-- an instant at another offset; a clock stays as it is
abbrev pub turned : ℤ → Moment → Moment
turned seconds (civil clock) = civil clock
turned seconds (placed nanos other) = placed nanos seconds

abbrev pub turned_by : Result ℤ Error → Moment → Result Moment Fault
turned_by (Ok seconds) m = Ok (turned seconds m)
turned_by (Err e) m = Err invalid_argument

abbrev pub turned_to : Option Given → Moment → Result Moment Fault
turned_to None m = Ok m
turned_to (Some zone) m = turned_by (parse_offset zone.text) m

abbrev pub date_of : Val → Named Val → Result Val Fault
date_of v given =
    moment_of v ▸ λ m.
    or_default (codes "%Y-%m-%d") (as_bytes plain) (codes "format") given ▸ λ format.
    optional as_text (codes "timezone") given ▸ λ zone.
    turned_to zone m ▸ λ m.
    shown format m ▸ λ t.
    Ok (text t false)
