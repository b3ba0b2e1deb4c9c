use Rattle.std.proofs.Common.{rules}
use Rattle.tera_machine.proofs.configuration.Configuration.append_name_from_all_scopes.Goals as goal

pub returns : goal.returns
returns g c = λ site. let did = c.append_name.ensures site in search (rules, did)
