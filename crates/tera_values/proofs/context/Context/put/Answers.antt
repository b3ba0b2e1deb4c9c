use Rattle.std.proofs.Common.{ap, ◌∙◌}
use Rattle.tera_values.specs.Named.{put}
use Rattle.tera_values.specs.Names.{by_name}
use Rattle.tera_values.proofs.Named.{inserted}
use Rattle.tera_values.proofs.context.Context.put.Goals as goal

pub returns-clause-ok : goal.returns-clause-ok
returns-clause-ok c =
    let name = c.args.name in
    let value = c.args.value in
    ap by_name c.in_ok-old.ensures.entries ∙ inserted c.self.inside.names.entries name value ∙ ap (put name value) c.self.view_is
