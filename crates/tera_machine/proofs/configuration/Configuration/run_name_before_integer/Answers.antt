use Rattle.std.proofs.Common.{rules, refl, ap, ◌∙◌}
use Rattle.std.specs.Int.{w128}
use Rattle.std.proofs.lemmas.Int.{to_z-of_z}
use Rattle.tera_values.specs.Val.{int}
use Rattle.tera_machine.specs.Config.{config_of}
use Rattle.tera_machine.specs.Subject.{here_of}
use Rattle.tera_machine.proofs.Reaching.{begins, compared_comes, counted_so}
use Rattle.tera_machine.proofs.configuration.Configuration.run_name_before_integer.Goals as goal

pub returns-in-Some-integer_comparison_at : goal.returns-in-Some-integer_comparison_at
returns-in-Some-integer_comparison_at g c =
    let here = here_of g.O.Objects.engine c.args.machine.now c.args.cursor.now.chunk.now.file c.args.self.now in
    let comes = compared_comes (config_of c.args.self.now) (begins {here = here} {c = config_of c.args.self.now} refl c.requires.there refl (ap int (to_z-of_z w128 c.in-Some.number (search rules)) ∙ c.in-Some.ensures) refl) c.in-Some-integer_comparison_at.ensures.means refl (counted_so c.in-Some-integer_comparison_at.ensures.count) refl (c.compare_integer-truth.ensures c.args.cursor.now.chunk.now.file) in
    record { stands = c.test_or_push.ensures.stands _ _ comes; does = c.test_or_push.ensures.does _ comes }
