use Rattle.std.proofs.Common.{refl, subst, sym}
use Rattle.tera_machine.specs.Config.{config_of}
use Rattle.tera_machine.specs.Paths.{Comes, topped}
use Rattle.tera_machine.proofs.configuration.Configuration.test_or_push.Goals as goal

pub returns-in-Some-clause-stands : goal.returns-in-Some-clause-stands
returns-in-Some-clause-stands g c = c.in-Some.ensures.stands

pub returns-in-Some-clause-does : goal.returns-in-Some-clause-does
returns-in-Some-clause-does g c = λ s r. (
  c.in-Some.ensures.goes s (config_of c.args.self.now) (subst (λ a. Comes s c.args.cursor.now (topped a (config_of c.args.self.now))) (sym c.lend.ensures) r),
  (refl, refl),
)
