use Rattle.std.proofs.Common.{[]}
use Rattle.tera_machine.proofs.built_in.test_result_without_arguments.Goals as goal

pub returns : goal.returns
returns g c = λ around vars. c.test_result.ensures around vars [] c.of_none-none.ensures
