-- An instant and what a clock shows of it.
use Rattle.std.proofs.Common.{◌≡◌, ◌↔◌, ℕ, ℤ, Some, Result, Ok, Err, IsOk, IfOk, IfErr, refl, sym, ap, ap₂, ◌∙◌}
use Rattle.std.specs.Result.{result_map_both}
use Rattle.jiff_core.specs.Date.{epoch_day, ordinal, weekday_of}
use Rattle.jiff_core.specs.DateTime.{civil_nanos}
use Rattle.jiff_core.specs.IsoWeekDate.{iso_epoch_day}
use Rattle.jiff_core.specs.Timestamp.{IsTimestampNanos}
use Rattle.jiff_core.specs.declared.civil.datetime.DateTime.{DateTime}
use Rattle.jiff_core.specs.declared.civil.iso_week_date.ISOWeekDate.{ISOWeekDate}
use Rattle.jiff_core.specs.declared.timestamp.Timestamp.{Timestamp}
use Rattle.jiff_core.specs.declared.error.Error.{Error}
use Rattle.jiff_core.specs.declared.error.Error.TheVariants.{Range}
use Rattle.jiff_core.specs.declared.error.Bound.TheVariants.{UnixEpochSeconds}
use Rattle.jiff_core.proofs.DateTimeLemmas.{epoch_day-civil_nanos}
use Rattle.jiff_fmt.specs.Reader.{◌>>=◌}
use Rattle.jiff_fmt.specs.Temporal.{instant}
use Rattle.jiff_fmt.proofs.TemporalLemmas.{timestamp-instant}
use Rattle.jiff_strtime.specs.Text.{Parts, no_parts, from_hour}
use Rattle.jiff_strtime.specs.declared.tm.Meridiem.{Meridiem}
use Rattle.tera_filters.specs.Dates.{placed, parts_on, clock_parts, number_on, iso_year, iso_week}
use Rattle.tera_filters.proofs.Calendars.{day_of, time_of, date_on-is, time_on-is}
use Rattle.tera_filters.proofs.IsoYears.{iso_year-is, iso_week-is}

pub placed-is : (r : Result Timestamp Error) (n seconds : ℤ) → (IsOk r ↔ IsTimestampNanos n) → IfOk r (λ t. t.nanosecond ≡ n) →
    IfErr r (λ e. e ≡ Range UnixEpochSeconds) →
    result_map_both (λ t. placed t.nanosecond seconds) (λ e. e) r ≡ (instant n >>= (λ nanos. Ok (placed nanos seconds)))
placed-is (Ok t) n seconds iff value exact = ap (λ r. r >>= (λ nanos. Ok (placed nanos seconds))) (timestamp-instant (Ok t) n iff value exact)
placed-is (Err e) n seconds iff value exact = ap (λ r. r >>= (λ nanos. Ok (placed nanos seconds))) (timestamp-instant (Err e) n iff value exact)

module _ (dt : DateTime) where
  -- all parts of what a clock shows
  abbrev pub parts_with : ℤ → ℤ → ℕ → ℕ → ℕ → Meridiem → Parts
  parts_with year counted week day weekday meridiem = record no_parts {
    year = Some year;
    month = Some dt.date.month;
    day = Some dt.date.day;
    day_of_year = Some day;
    iso_week_year = Some counted;
    iso_week = Some week;
    weekday = Some weekday;
    hour = Some dt.time.hour;
    minute = Some dt.time.minute;
    second = Some dt.time.second;
    subsec = Some dt.time.subsec_nanosecond;
    meridiem = Some meridiem;
  }

  abbrev number : ℤ
  number = epoch_day dt.date

  whole : clock_parts (civil_nanos dt)
      ≡ parts_with dt.date.year (iso_year number dt.date.year) (iso_week number (iso_year number dt.date.year)) (ordinal dt.date)
      (weekday_of dt.date) (from_hour dt.time.hour)
  whole =
      ap₂ (λ d t. parts_on d t (number_on (civil_nanos dt))) (date_on-is dt (civil_nanos dt) refl) (time_on-is dt (civil_nanos dt) refl)
      ∙ ap (λ n. parts_on (day_of dt.date) (time_of dt.time) n) (sym (epoch_day-civil_nanos dt))

  pub clock_parts-is : (i : ISOWeekDate) (year counted : ℤ) (day weekday : ℕ) (meridiem : Meridiem) → iso_epoch_day i ≡ epoch_day dt.date →
      year ≡ dt.date.year → counted ≡ i.year → day ≡ ordinal dt.date → weekday ≡ weekday_of dt.date → meridiem ≡ from_hour dt.time.hour →
      parts_with year counted i.week day weekday meridiem ≡ clock_parts (civil_nanos dt)
  clock_parts-is i year counted day weekday meridiem is is_year is_counted is_day is_weekday is_meridiem =
      let same : iso_year number dt.date.year ≡ i.year = iso_year-is dt.date i is in
      let week : iso_week number (iso_year number dt.date.year) ≡ i.week = ap (iso_week number) same ∙ iso_week-is dt.date i is in
      ap₂ (λ y c. parts_with y c i.week day weekday meridiem) is_year (is_counted ∙ sym same)
      ∙ ap (λ w. parts_with dt.date.year (iso_year number dt.date.year) w day weekday meridiem) (sym week)
      ∙ ap₂ (λ d w. parts_with dt.date.year (iso_year number dt.date.year) (iso_week number (iso_year number dt.date.year)) d w meridiem) is_day is_weekday
      ∙ ap (parts_with dt.date.year (iso_year number dt.date.year) (iso_week number (iso_year number dt.date.year)) (ordinal dt.date) (weekday_of dt.date)) is_meridiem
      ∙ sym whole
