use Rattle.std.proofs.Common.{Ok, Err}
use Rattle.tera_filters.proofs.Placing.{placed-is}
use Rattle.tera_filters.proofs.moments.place_at.Goals as goal

pub returns-in-Ok : goal.returns-in-Ok
returns-in-Ok c =
    let made = c.in-Ok.ensures in
    placed-is (Ok c.in-Ok.instant) _ c.args.offset.seconds made.succeeds made.value made.exact

pub returns-in-Err : goal.returns-in-Err
returns-in-Err c =
    let made = c.in-Err.ensures in
    placed-is (Err c.in-Err.error) _ c.args.offset.seconds made.succeeds made.value made.exact
