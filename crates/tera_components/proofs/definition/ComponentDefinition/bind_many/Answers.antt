use Rattle.std.proofs.Common.{Ok, rules}
use Rattle.tera_components.specs.Definition.{named_arguments}
use Rattle.tera_components.proofs.Calls.{gives_called}
use Rattle.tera_components.proofs.definition.ComponentDefinition.bind_many.Goals as goal

pub returns-in_err-others : goal.returns-in_err-others
returns-in_err-others g c = gives_called _ c.args.self.now (named_arguments c.args.given.now) c.args.body (g.C.Implicits.implicit c.args.caller.now) (search rules)

pub returns-in_err-ordered : goal.returns-in_err-ordered
returns-in_err-ordered g c = gives_called _ c.args.self.now (named_arguments c.args.given.now) c.args.body (g.C.Implicits.implicit c.args.caller.now) (search rules)

pub returns-in_err-map_arguments : goal.returns-in_err-map_arguments
returns-in_err-map_arguments g c = gives_called _ c.args.self.now (named_arguments c.args.given.now) c.args.body (g.C.Implicits.implicit c.args.caller.now) (search rules)

pub returns-in_err-context : goal.returns-in_err-context
returns-in_err-context g c = gives_called _ c.args.self.now (named_arguments c.args.given.now) c.args.body (g.C.Implicits.implicit c.args.caller.now) (search rules)

pub returns-in_err-put_others : goal.returns-in_err-put_others
returns-in_err-put_others g c = gives_called _ c.args.self.now (named_arguments c.args.given.now) c.args.body (g.C.Implicits.implicit c.args.caller.now) (search rules)

pub returns : goal.returns
returns g c = gives_called (Ok c.put_others.new.context) c.args.self.now (named_arguments c.args.given.now) c.args.body (g.C.Implicits.implicit c.args.caller.now) (search rules)
