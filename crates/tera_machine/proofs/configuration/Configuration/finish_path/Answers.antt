use Rattle.std.proofs.Common.{refl, subst, sym}
use Rattle.tera_machine.specs.Config.{config_of}
use Rattle.tera_machine.specs.Paths.{Comes, topped}
use Rattle.tera_machine.proofs.Reaching.{compares_there, counted_so, file_there, two_more, compared_comes, compared_breaks}
use Rattle.tera_machine.proofs.configuration.Configuration.finish_path.Goals as goal

pub returns-in-Ok : goal.returns-in-Ok
returns-in-Ok g c = λ s r.
    let lent = subst (λ a. Comes s c.args.cursor.now (topped a (config_of c.args.self.now))) (sym c.lend.ensures) r in
    let top = compared_comes (config_of c.args.self.now) lent (compares_there r.stands.continues c.in-Some.ensures.means) refl (counted_so c.in-Some.ensures.count) (file_there r.stands.continues c.file.ensures) c.in-Ok.ensures in
    record { stands = c.test_or_push-in-Ok.ensures.stands s _ top; does = c.test_or_push-in-Ok.ensures.does s top }

pub returns : goal.returns
returns g c = λ s r.
    let lent = subst (λ a. Comes s c.args.cursor.now (topped a (config_of c.args.self.now))) (sym c.lend.ensures) r in
    record {
      stands = two_more r (compares_there r.stands.continues c.in-Some.ensures.means) refl (counted_so c.in-Some.ensures.count);
      does = (
        compared_breaks (config_of c.args.self.now) lent (compares_there r.stands.continues c.in-Some.ensures.means) refl (counted_so c.in-Some.ensures.count) (file_there r.stands.continues c.file.ensures) c.in-Err.error c.in-Err.ensures _,
        (refl, tt),
      );
    }
