-- What a calendar and a clock show.
use Rattle.std.specs.Prelude.{ℕ, zero, suc, ◌-◌, ◌/◌, ◌%◌, ◌++◌, ◌∷◌, [], nat_lt, false, if◌then◌else◌, ℤ, pos, ◌+ℤ◌, ◌-ℤ◌, unsigned_abs, None, Result, Ok, Err, codes}
use Rattle.std.specs.Int.{int_div_euclid, int_rem_euclid}
use Rattle.jiff_core.specs.Calendar.{days_of_years, days_of_months, day_count}
use Rattle.jiff_core.specs.Timestamp.{nanos_of_seconds}
use Rattle.jiff_core.specs.declared.error.Error.{Error}
use Rattle.jiff_fmt.specs.Temporal.{instant}
use Rattle.jiff_fmt.specs.Text.{year_text, pad2, fraction_part}
use Rattle.tera_errors.specs.Site.{Text}
use Rattle.tera_errors.specs.Fault.{Fault, message}
use Rattle.tera_values.specs.Val.{Val, int, text}
use Rattle.tera_values.specs.Named.{Named}
use Rattle.tera_built_ins.specs.Arguments.{◌▸◌, as_bool, or_default}

-- of the years from the year k on, counted from the year -10000, the first at whose end more than
-- n days are over
unfoldable pub year_in : ℕ → ℕ → ℕ → ℕ
year_in zero k n = k
year_in (suc more) k n = if nat_lt n (days_of_years (suc k)) then k else year_in more (suc k) n

-- of the months from the month m on, the first at whose end more than n days of the year are over
unfoldable pub month_in : ℤ → ℕ → ℕ → ℕ → ℕ
month_in y zero m n = m
month_in y (suc more) m n = if nat_lt n (days_of_months y m) then m else month_in y more (suc m) n

pub record Day : Type 0 where
  pub year : ℤ
  pub month : ℕ
  pub day : ℕ

-- the day that n days of the year are before
abbrev pub day_in : ℤ → ℕ → Day
day_in y n = let m = month_in y 11 1 n in
    record { year = y; month = m; day = suc (n - days_of_months y (m - 1)) }

-- the day that n days are before, from 1 January of the year -10000 on
abbrev pub day_after : ℕ → Day
day_after n = let k = year_in 20000 0 n in
    day_in (pos k -ℤ pos 10000) (n - days_of_years k)

-- the day that has this number, where 1 January 1970 has 0
abbrev pub day_numbered : ℤ → Day
day_numbered number = day_after (unsigned_abs (number +ℤ pos (day_count (pos 1970) 1 1)))

-- the nanoseconds of a day, and of its parts
abbrev pub day_nanos : ℕ
day_nanos = 86_400_000_000_000

pub record Time : Type 0 where
  pub hour : ℕ
  pub minute : ℕ
  pub second : ℕ
  pub subsec : ℕ

abbrev pub time_after : ℕ → Time
time_after n = record {
  hour = n / 3_600_000_000_000;
  minute = n / 60_000_000_000 % 60;
  second = n / 1_000_000_000 % 60;
  subsec = n % 1_000_000_000;
}

-- what a clock shows that went for so many nanoseconds since it showed the start of 1970
abbrev pub date_on : ℤ → Day
date_on nanos = day_numbered (int_div_euclid nanos (pos day_nanos))

abbrev pub time_on : ℤ → Time
time_on nanos = time_after (unsigned_abs (int_rem_euclid nanos (pos day_nanos)))

abbrev pub day_text : Day → Text
day_text d = year_text d.year ++ 45 ∷ [] ++ pad2 d.month ++ 45 ∷ [] ++ pad2 d.day

abbrev pub time_text : Time → Text
time_text t = pad2 t.hour ++ 58 ∷ pad2 t.minute ++ 58 ∷ pad2 t.second ++ fraction_part None t.subsec

-- `2024-05-31T10:20:30`, with a fraction if there is one
abbrev pub clock_text : ℤ → Text
clock_text nanos = day_text (date_on nanos) ++ 84 ∷ time_text (time_on nanos)

-- and `Z` behind it
abbrev pub instant_text : ℤ → Text
instant_text nanos = clock_text nanos ++ 90 ∷ []

-- what a calculation of an instant gives
abbrev pub told : {A : Type 0} → Result A Error → Result A Fault
told (Ok x) = Ok x
told (Err e) = Err message

-- so many seconds since 1970 at UTC, within the years that there are
abbrev pub instant_after : ℤ → Result ℤ Fault
instant_after seconds = told (instant (nanos_of_seconds seconds))

-- the seconds themselves, or a text that shows them at UTC
abbrev pub now_of : ℤ → Named Val → Result Val Fault
now_of seconds given =
    or_default false as_bool (codes "timestamp") given ▸ λ as_seconds.
    if as_seconds then Ok (int seconds)
    else (instant_after seconds ▸ λ nanos. Ok (text (instant_text nanos) false))
