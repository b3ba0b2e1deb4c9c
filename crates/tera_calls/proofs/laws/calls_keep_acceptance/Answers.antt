use Rattle.tera_calls.proofs.Accepting.{calls_keep_acceptance}
use Rattle.tera_calls.proofs.laws.calls_keep_acceptance.Goals as goal

pub returns : goal.returns
returns g c = calls_keep_acceptance
