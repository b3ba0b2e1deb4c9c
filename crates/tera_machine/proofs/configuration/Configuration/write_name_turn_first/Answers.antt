use Rattle.std.proofs.Common.{rules}
use Rattle.tera_machine.proofs.configuration.Configuration.write_name_turn_first.Goals as goal

pub returns-in_err-is_put : goal.returns-in_err-is_put
returns-in_err-is_put g c = search (rules, c.append_name_turn_first.ensures (record { file = c.args.file.now; span = c.args.span }))

pub returns : goal.returns
returns g c = search (rules, c.append_name_turn_first.ensures (record { file = c.args.file.now; span = c.args.span }))
