use Rattle.tera.specs.Registry.{registry_of}
use Rattle.tera_calls.specs.Renders.{Answers, Renders}
use Rattle.tera_calls.proofs.Answered.{AppendsOneOf-weaker, Renders-answers}
use Rattle.tera_calls.proofs.rendering.render_call_to.Goals as goal

pub returns : goal.returns
returns g c =
    let r = registry_of g.O.Objects.engine c.args.engine.now in
    let call = c.args.call.now in
    AppendsOneOf-weaker (Answers r call) (Renders r call) (Renders-answers r call) c.append_answer.result c.args.out.now.items c.append_answer.new.out.items c.append_answer.ensures
