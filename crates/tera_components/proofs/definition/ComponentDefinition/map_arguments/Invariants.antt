use Rattle.std.proofs.Common.{◌≡◌, List, drop}
use Rattle.tera_errors.specs.Site.{Name}
use Rattle.tera_values.specs.Val.{Val}
use Rattle.tera_components.specs.Definition.{named_arguments, with_formals}
use Rattle.tera_components.proofs.definition.ComponentDefinition.map_arguments.Given as goal

abbrev pub invariant-loop-argument : goal.invariant-loop-argument
invariant-loop-argument g l =
    let look : Name → Val = g.C.Implicits.implicit l.caller in
    let given : List (Name × Val) = named_arguments l.given in
    with_formals look given l.self.formals l.initial.context.entries ≡ with_formals look given (drop l.argument-index l.argument-items) l.context.entries
