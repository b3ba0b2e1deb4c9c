use Rattle.std.proofs.Common.{arith, FitsSigned, w16, to_z-of_z}
use Rattle.jiff_core.proofs.SignedLemmas.{signed_arith}
use Rattle.tera_filters.proofs.Placing.{clock_parts-is}
use Rattle.tera_filters.proofs.dates.clock_parts.Goals as goal

pub returns : goal.returns
returns c =
    let week = c.from_date-week.result in
    let year : FitsSigned w16 c.args.clock.date.year = omega (arith, signed_arith, c.args.clock.date.year_in) in
    let counted : FitsSigned w16 c.from_date-week.result.year = omega (arith, signed_arith, c.from_date-week.result.year_in) in
    clock_parts-is c.args.clock week _ _ _ _ _ c.from_date-week.ensures (to_z-of_z year) (to_z-of_z counted)
    c.day_of_year.ensures.value c.weekday.ensures c.from_hour.ensures
