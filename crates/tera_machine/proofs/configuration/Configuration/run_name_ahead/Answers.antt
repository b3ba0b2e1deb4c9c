use Rattle.std.proofs.Common.{arith}
use Rattle.std.proofs.lemmas.Option.{slice_get_within}
use Rattle.tera_machine.proofs.configuration.Configuration.run_name_ahead.Goals as goal

pub overflow_add-cursor : goal.overflow_add-cursor
overflow_add-cursor g c = omega (arith, slice_get_within c.args.cursor.now.chunk.now.code c.args.cursor.now.at _ c.requires.there, c.requires.few)
