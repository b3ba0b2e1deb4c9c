use Rattle.std.proofs.Common.{◌+◌, ◌*◌, ◌≤◌, ap, subst}
use Rattle.tera_machine.specs.Config.{Config, config_of}
use Rattle.tera_state.specs.Scope.{nothing_set}
use Rattle.tera_state.specs.Scopes.{variables_of}
use Rattle.tera_meaning.specs.Run.{Signal, Answer, begun, visits_of}
use Rattle.tera_machine.specs.Subject.{meant, meant_from}
use Rattle.tera.proofs.Renders.{begins-means, fault-means, nothing-captured}
use Rattle.tera.proofs.engine.TeraOver.run_counted.Goals as goal

pub into_string-requires : goal.into_string-requires
into_string-requires g c =
    let start = c.with_memory-configuration in
    nothing-captured (meant_from g.about start.result) _ (config_of start.result) (config_of c.run.new.configuration) (ap (λ (s : Config). s.captures) start.ensures.starts) c.in-Ok.ensures.means

pub returns-in-Err-clause-means : goal.returns-in-Err-clause-means
returns-in-Err-clause-means g c =
    let start = c.with_memory-configuration in
    let same = begins-means g.about start.result (variables_of c.args.scopes) start.ensures.starts c.requires.1.1.1.1.1.1.1.0 in
    fault-means (meant g.about (begun nothing_set)) c.in-Err.error _ _ (rw same at c.in-Err.ensures.means)

pub returns-in-Err-clause-few : goal.returns-in-Err-clause-few
returns-in-Err-clause-few g c =
    let start = c.with_memory-configuration in
    let same = begins-means g.about start.result (variables_of c.args.scopes) start.ensures.starts c.requires.1.1.1.1.1.1.1.0 in
    let P : Answer Signal → Type 0 = λ a. c.run.new.steps ≤ c.args.steps.now + 8 * visits_of a in
    subst P same c.in-Err.ensures.few
