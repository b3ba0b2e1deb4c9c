-- What a calendar shows is the date that the library counts.
use Rattle.std.proofs.Common.{◌≡◌, ℕ, zero, suc, ◌+◌, ◌-◌, ◌/◌, ◌%◌, ◌++◌, ◌∷◌, ◌<◌, ◌≤◌, false, None, ℤ, pos, ◌+ℤ◌, ◌-ℤ◌, unsigned_abs, refl, ap₂, ⊎_elim, arith}
use Rattle.std.proofs.lemmas.Bool.{cases_lt}
use Rattle.std.proofs.lemmas.Bool.Decides.{leb_tells}
use Rattle.std.specs.Int.{IsInRange, int_rem_euclid}
use Rattle.jiff_core.specs.Calendar.{days_of_years, days_of_months, days_in_month, days_in_year, day_count}
use Rattle.jiff_core.specs.Date.{epoch_day}
use Rattle.jiff_core.specs.DateTime.{civil_nanos}
use Rattle.jiff_core.specs.Time.{time_nanos}
use Rattle.jiff_core.specs.declared.civil.date.Date.{Date}
use Rattle.jiff_core.specs.declared.civil.time.Time as core_time
use Rattle.jiff_core.specs.declared.civil.datetime.DateTime.{DateTime}
use Rattle.jiff_core.proofs.SignedLemmas.{signed_arith, unsigned_abs-parts, one_part}
use Rattle.jiff_core.proofs.MarchLemmas.{days_of_years-suc}
use Rattle.jiff_core.proofs.CalendarLemmas.{day_count-epoch, days_from_civil-day_count, days_of_months_all, days_of_months_more, days_of_months_mono}
use Rattle.jiff_core.proofs.DateTimeLemmas.{civil_nanos-parts, epoch_day-civil_nanos, time_nanos_bound}
use Rattle.jiff_fmt.specs.Text as Text
use Rattle.tera_filters.specs.Clocks.{Day, Time, year_in, month_in, day_after, day_numbered, time_after, date_on, time_on, clock_text, day_text, time_text}

days_of_years-add : (a k : ℕ) → days_of_years a ≤ days_of_years (k + a)
days_of_years-add a zero = let same : 0 + a ≡ a = omega arith in rw same (omega arith)
days_of_years-add a (suc k) =
    let next : suc k + a ≡ suc (k + a) = omega arith in
    rw next (omega (arith, days_of_years-add a k, days_of_years-suc (k + a)))

days_of_years-mono : (a b : ℕ) → a ≤ b → days_of_years a ≤ days_of_years b
days_of_years-mono a b h =
    let same : b - a + a ≡ b = omega arith in
    rw same at (days_of_years-add a (b - a))

days_of_years-below : (a b n : ℕ) → days_of_years a ≤ n → n < days_of_years b → a < b
days_of_years-below a b n from to =
    ⊎_elim (λ lt. lt) (λ ge. absurd (omega (arith, days_of_years-mono b a ge))) (cases_lt a b)

days_of_months-below : (y : ℤ) (a b n : ℕ) → days_of_months y a ≤ n → n < days_of_months y b → a < b
days_of_months-below y a b n from to =
    ⊎_elim (λ lt. lt) (λ ge. absurd (omega (arith, days_of_months_mono y b a ge))) (cases_lt a b)

year_in-is : (more k last n : ℕ) → k ≤ last → last ≤ k + more → days_of_years last ≤ n → n < days_of_years (suc last) →
    year_in more k n ≡ last
unfolding year_in
year_in-is zero k last n low high from to = omega arith
year_in-is (suc more) k last n low high from to = ⊎_elim
    (λ t. let here : suc n ≤ days_of_years (suc k) = t.1 in
    let same : k ≡ last = omega (arith, days_of_years-below last (suc k) n from here) in rw t.0 same)
    (λ t. let over : days_of_years (suc k) < suc n = t.1 in
    let later : suc k ≤ last = omega (arith, days_of_years-below (suc k) (suc last) n (omega arith) to) in
    rw t.0 (year_in-is more (suc k) last n later (omega arith) from to))
    (leb_tells (suc n) (days_of_years (suc k)))

month_in-is : (y : ℤ) (more m last n : ℕ) → m ≤ last → last ≤ m + more → days_of_months y (last - 1) ≤ n →
    n < days_of_months y last → month_in y more m n ≡ last
unfolding month_in
month_in-is y zero m last n low high from to = omega arith
month_in-is y (suc more) m last n low high from to = ⊎_elim
    (λ t. let here : suc n ≤ days_of_months y m = t.1 in
    let same : m ≡ last = omega (arith, days_of_months-below y (last - 1) m n from here) in rw t.0 same)
    (λ t. let over : days_of_months y m < suc n = t.1 in
    let later : suc m ≤ last = days_of_months-below y m last n (omega arith) to in
    rw t.0 (month_in-is y more (suc m) last n later (omega arith) from to))
    (leb_tells (suc n) (days_of_months y m))

days_of_years-next : (k : ℕ) → days_of_years (suc k) ≡ days_of_years k + days_in_year (pos k -ℤ pos 10000)
unfolding days_of_years
days_of_years-next k = refl

-- the day of a month of a year
day_after-is : (y : ℤ) (k m d n : ℕ) → pos k -ℤ pos 10000 ≡ y → k ≤ 20000 → IsInRange 1 12 m → IsInRange 1 (days_in_month y m) d →
    n ≡ days_of_years k + (days_of_months y (m - 1) + d - 1) → day_after n ≡ record { year = y; month = m; day = d }
day_after-is y k m d n is_year few in_year in_month is =
    let month = days_of_months_more y m in_year.0 in
    let whole = days_of_months_mono y m 12 in_year.1 in
    let next : days_of_years (suc k) ≡ days_of_years k + days_in_year y = rw is_year at (days_of_years-next k) in
    let first : year_in 20000 0 n ≡ k = year_in-is 20000 0 k n (omega arith) (omega arith) (omega arith)
    (omega (arith, days_of_months_all y)) in
    let second : month_in y 11 1 (n - days_of_years k) ≡ m = month_in-is y 11 1 m (n - days_of_years k) (omega arith) (omega arith)
    (omega arith) (omega arith) in
    let third : suc (n - days_of_years k - days_of_months y (m - 1)) ≡ d = omega arith in
    rw (first, is_year, second, third) refl

abbrev pub day_of : Date → Day
day_of d = record { year = d.year; month = d.month; day = d.day }

day_count-is : (d : Date) → day_after (day_count d.year d.month d.day) ≡ day_of d
unfolding day_count
day_count-is d =
    let k : ℕ = unsigned_abs (d.year +ℤ pos 10000) in
    let is_year : pos k -ℤ pos 10000 ≡ d.year = omega (arith, signed_arith, unsigned_abs-parts (d.year +ℤ pos 10000), one_part (d.year +ℤ pos 10000), d.year_in) in
    let few : k ≤ 20000 = omega (arith, signed_arith, unsigned_abs-parts (d.year +ℤ pos 10000), one_part (d.year +ℤ pos 10000), d.year_in) in
    let first = d.day_in.0 in
    day_after-is d.year k d.month d.day _ is_year few d.month_in d.day_in (omega arith)

day_numbered-is : (d : Date) → day_numbered (epoch_day d) ≡ day_of d
day_numbered-is d =
    let same : unsigned_abs (epoch_day d +ℤ pos (day_count (pos 1970) 1 1)) ≡ day_count d.year d.month d.day =
    omega (
      arith,
      signed_arith,
      unsigned_abs-parts (epoch_day d +ℤ pos (day_count (pos 1970) 1 1)),
      one_part (epoch_day d +ℤ pos (day_count (pos 1970) 1 1)),
      days_from_civil-day_count d.year d.month d.day,
      day_count-epoch,
    ) in
    rw same (day_count-is d)

abbrev pub time_of : core_time.Time → Time
time_of t = record { hour = t.hour; minute = t.minute; second = t.second; subsec = t.subsec_nanosecond }

time_after-is : (t : core_time.Time) → time_after (time_nanos t) ≡ time_of t
time_after-is t =
    let hour : time_nanos t / 3_600_000_000_000 ≡ t.hour = omega arith in
    let minute : time_nanos t / 60_000_000_000 % 60 ≡ t.minute = omega arith in
    let second : time_nanos t / 1_000_000_000 % 60 ≡ t.second = omega arith in
    let subsec : time_nanos t % 1_000_000_000 ≡ t.subsec_nanosecond = omega arith in
    cc

-- what a clock shows
pub date_on-is : (dt : DateTime) (n : ℤ) → civil_nanos dt ≡ n → date_on n ≡ day_of dt.date
date_on-is dt n is = rw (← is, ← epoch_day-civil_nanos dt) (day_numbered-is dt.date)

pub time_on-is : (dt : DateTime) (n : ℤ) → civil_nanos dt ≡ n → time_on n ≡ time_of dt.time
time_on-is dt n is =
    let same : unsigned_abs (int_rem_euclid n (pos 86_400_000_000_000)) ≡ time_nanos dt.time =
    omega (arith, signed_arith, unsigned_abs-parts (int_rem_euclid n (pos 86_400_000_000_000)), civil_nanos-parts dt, time_nanos_bound dt.time) in
    rw same (time_after-is dt.time)

pub clock_text-is : (dt : DateTime) (n : ℤ) → civil_nanos dt ≡ n → clock_text n ≡ Text.datetime_text false 84 None dt
clock_text-is dt n is = ap₂ (λ d t. day_text d ++ 84 ∷ time_text t) (date_on-is dt n is) (time_on-is dt n is)
