use Rattle.tera_calls.proofs.Refusals.{refused_calls_change_nothing}
use Rattle.tera_calls.proofs.laws.refused_calls_change_nothing.Goals as goal

pub returns : goal.returns
returns g c = refused_calls_change_nothing
