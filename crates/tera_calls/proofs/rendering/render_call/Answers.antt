use Rattle.std.proofs.Common.{Global, string_bytes}
use Rattle.tera.specs.Registry.{registry_of}
use Rattle.tera_calls.specs.Renders.{Answered, Rendered}
use Rattle.tera_calls.proofs.Answered.{GivesOneOf-weaker, Rendered-answered}
use Rattle.tera_calls.proofs.rendering.render_call.Goals as goal

pub returns : goal.returns
returns g c =
    let r = registry_of g.O.Objects.engine c.args.engine.now in
    let call = c.args.rendering.now in
    GivesOneOf-weaker (string_bytes {Z = Global}) (Answered r call) (Rendered r call) (Rendered-answered r call) c.answer_of.result c.answer_of.ensures
