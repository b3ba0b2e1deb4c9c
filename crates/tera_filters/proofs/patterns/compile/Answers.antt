use Rattle.std.proofs.Common.{◌≡◌}
use Rattle.regex.specs.declared.error.Error.TheVariants.{Syntax}
use Rattle.tera_filters.proofs.Compiling.{is_compiled, is_refused}
use Rattle.tera_filters.proofs.patterns.compile.Goals as goal

pub returns-in-Ok : goal.returns-in-Ok
returns-in-Ok c =
    let made = c.in-Ok.ensures in
    is_compiled c.args.source.now c.in-Ok.pattern made.source made.config made.read

pub returns-in-Err-Syntax : goal.returns-in-Err-Syntax
returns-in-Err-Syntax c =
    let said = c.in-Err-Syntax.ensures in
    let is : c.in-Err-Syntax.field-0 ≡ Syntax c.in-Err-Syntax.error = cc in
    rw c.no_pattern.ensures
    (is_refused c.args.source.now c.in-Err-Syntax.error.kind (said.by_grammar c.in-Err-Syntax.error is) (rw is at said.kind))
