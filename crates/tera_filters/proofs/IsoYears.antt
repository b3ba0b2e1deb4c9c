-- The ISO 8601 year and week of a day are the library's.
use Rattle.std.proofs.Common.{◌≡◌, suc, ◌+◌, ◌-◌, ◌*◌, ◌/◌, ◌<◌, ◌≤◌, true, false, ℤ, pos, neg_ℤ, ◌+ℤ◌, ◌-ℤ◌, ◌<ℤ◌, ◌≤ℤ◌, int_lt, unsigned_abs, refl, arith}
use Rattle.std.proofs.lemmas.Int.{by_lt_z, ints}
use Rattle.jiff_core.specs.Calendar.{iso_year_start, IsBetween, IsYear}
use Rattle.jiff_core.specs.Date.{epoch_day}
use Rattle.jiff_core.specs.IsoWeek.{weeks_in_year, days_from_iso}
use Rattle.jiff_core.specs.IsoWeekDate.{iso_epoch_day}
use Rattle.jiff_core.specs.Weekday.{monday_zero}
use Rattle.jiff_core.specs.declared.civil.date.Date.{Date}
use Rattle.jiff_core.specs.declared.civil.iso_week_date.ISOWeekDate.{ISOWeekDate}
use Rattle.jiff_core.specs.declared.civil.weekday.Weekday.{Weekday}
use Rattle.jiff_core.specs.declared.civil.weekday.Weekday.TheVariants.{Monday, Tuesday, Wednesday, Thursday, Friday, Saturday, Sunday}
use Rattle.jiff_core.proofs.SignedLemmas.{signed_arith, unsigned_abs-parts, one_part}
use Rattle.jiff_core.proofs.CalendarLemmas.{day_count-later_year, days_from_civil-day_count, days_in_year_bounds}
use Rattle.jiff_core.proofs.IsoWeekLemmas.{iso_year_start_near, weeks_in_year-next, in_year_before, in_year_after, in_year_last}
use Rattle.tera_filters.specs.Dates.{iso_year, iso_week}

-- a later year starts later
start-lt : (a b : ℤ) → IsYear a → IsBetween (neg_ℤ (pos 9999)) (pos 10000) b → a <ℤ b → iso_year_start a <ℤ iso_year_start b
start-lt a b year later lt =
    let from = iso_year_start_near a (omega (arith, signed_arith)) in
    let to = iso_year_start_near b later in
    let long = days_in_year_bounds a in
    let between = day_count-later_year a b (omega (arith, signed_arith)) lt in
    omega (arith, signed_arith, days_from_civil-day_count a 1 1, days_from_civil-day_count b 1 1)

start-le : (a b : ℤ) → IsYear a → IsBetween (neg_ℤ (pos 9999)) (pos 10000) b → a <ℤ b → iso_year_start (a +ℤ pos 1) ≤ℤ iso_year_start b
start-le a b year later lt = by_lt_z (a +ℤ pos 1) b
    (λ less. let next : IsYear (a +ℤ pos 1) = omega (arith, signed_arith) in
    omega (arith, signed_arith, start-lt (a +ℤ pos 1) b next later less))
    (λ more. let same : a +ℤ pos 1 ≡ b = omega (arith, signed_arith) in rw same (omega (arith, signed_arith)))

-- a day lies in one ISO year
only_year : (a b day : ℤ) → IsYear a → IsYear b → iso_year_start a ≤ℤ day → day <ℤ iso_year_start (a +ℤ pos 1) →
    iso_year_start b ≤ℤ day → day <ℤ iso_year_start (b +ℤ pos 1) → a ≡ b
only_year a b day year other from to start end =
    by_lt_z a b (λ lt. absurd (omega (arith, signed_arith, start-le a b year (omega (arith, signed_arith)) lt)))
    (λ ge. by_lt_z b a (λ gt. absurd (omega (arith, signed_arith, start-le b a other (omega (arith, signed_arith)) gt)))
    (λ le. omega (arith, signed_arith)))

monday_zero_bound : (w : Weekday) → monday_zero w < 7
monday_zero_bound Monday = omega arith
monday_zero_bound Tuesday = omega arith
monday_zero_bound Wednesday = omega arith
monday_zero_bound Thursday = omega arith
monday_zero_bound Friday = omega arith
monday_zero_bound Saturday = omega arith
monday_zero_bound Sunday = omega arith

iso_day : (i : ISOWeekDate) → iso_epoch_day i ≡ iso_year_start i.year +ℤ pos ((i.week - 1) * 7 + monday_zero i.weekday)
unfolding days_from_iso
iso_day i = refl

in_iso_year : (i : ISOWeekDate) → (iso_year_start i.year ≤ℤ iso_epoch_day i) × (iso_epoch_day i <ℤ iso_year_start (i.year +ℤ pos 1))
in_iso_year i =
    let weeks = weeks_in_year-next i.year (i.year +ℤ pos 1) i.year_in refl in
    let few : i.week ≤ weeks_in_year i.year = i.week_in.1 in
    let last = monday_zero_bound i.weekday in
    (omega (arith, signed_arith, iso_day i), omega (arith, signed_arith, iso_day i, weeks.0))

-- which of the three years it is
year-is : (d : Date) (y : ℤ) → IsYear y → iso_year_start y ≤ℤ epoch_day d → epoch_day d <ℤ iso_year_start (y +ℤ pos 1) →
    iso_year (epoch_day d) d.year ≡ y
year-is d y year from to =
    let this : IsYear d.year = d.year_in in
    by_lt_z (epoch_day d) (iso_year_start d.year)
    (λ early. let before : d.year -ℤ pos 1 +ℤ pos 1 ≡ d.year = omega (arith, signed_arith) in
    let there = in_year_before d (d.year -ℤ pos 1) before early in
    let same = only_year (d.year -ℤ pos 1) y (epoch_day d) there.0 year there.1 (rw before early) from to in
    let test : int_lt (epoch_day d) (iso_year_start d.year) ≡ true = grind (arith, ints) in
    rw test same)
    (λ late. let test : int_lt (epoch_day d) (iso_year_start d.year) ≡ false = grind (arith, ints) in
    by_lt_z (epoch_day d) (iso_year_start (d.year +ℤ pos 1))
    (λ within. let second : int_lt (epoch_day d) (iso_year_start (d.year +ℤ pos 1)) ≡ true = grind (arith, ints) in
    rw (test, second) (only_year d.year y (epoch_day d) this year late within from to))
    (λ after. let second : int_lt (epoch_day d) (iso_year_start (d.year +ℤ pos 1)) ≡ false = grind (arith, ints) in
    let next : IsYear (d.year +ℤ pos 1) = by_lt_z (d.year +ℤ pos 1) (pos 10000) (λ lt. omega (arith, signed_arith))
    (λ ge. let end : d.year +ℤ pos 1 ≡ pos 10000 = omega (arith, signed_arith) in
    absurd (omega (arith, signed_arith, in_year_last d (d.year +ℤ pos 1) end))) in
    rw (test, second) (only_year (d.year +ℤ pos 1) y (epoch_day d) next year after (in_year_after d (d.year +ℤ pos 1) next refl) from to)))

pub iso_year-is : (d : Date) (i : ISOWeekDate) → iso_epoch_day i ≡ epoch_day d → iso_year (epoch_day d) d.year ≡ i.year
iso_year-is d i is =
    let within = in_iso_year i in
    year-is d i.year i.year_in (rw (← is) within.0) (rw (← is) within.1)

pub iso_week-is : (d : Date) (i : ISOWeekDate) → iso_epoch_day i ≡ epoch_day d → iso_week (epoch_day d) i.year ≡ i.week
iso_week-is d i is =
    let last = monday_zero_bound i.weekday in
    let first : 1 ≤ i.week = i.week_in.0 in
    let far : unsigned_abs (epoch_day d -ℤ iso_year_start i.year) ≡ (i.week - 1) * 7 + monday_zero i.weekday =
    omega (arith, signed_arith, iso_day i, unsigned_abs-parts (epoch_day d -ℤ iso_year_start i.year), one_part (epoch_day d -ℤ iso_year_start i.year)) in
    let weeks : suc (((i.week - 1) * 7 + monday_zero i.weekday) / 7) ≡ i.week = omega arith in
    rw far weeks
