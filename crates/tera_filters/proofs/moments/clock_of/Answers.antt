use Rattle.std.proofs.Common.{rules}
use Rattle.jiff_core.specs.DateTime.{civil_nanos}
use Rattle.tera_filters.proofs.moments.clock_of.Goals as goal

pub returns-in-Some : goal.returns-in-Some
unfolding civil_nanos
returns-in-Some c = search rules

pub returns-in-None : goal.returns-in-None
unfolding civil_nanos
returns-in-None c = search rules
