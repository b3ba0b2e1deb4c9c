use Rattle.std.proofs.Common.{◌∙◌}
use Rattle.tera_state.specs.Scopes.{around_of, variables_of}
use Rattle.tera_state.proofs.Called.{lent-html, function-stored, no-function}
use Rattle.tera_state.proofs.objects.unboxed.UnboxedObjectsObjects.call_function.Goals as goal

pub returns-in_default : goal.returns-in_default
returns-in_default g c =
    no-function _ _ c.args.self.now c.args.call _ c.function.result c.function.ensures c.message.result c.in_default.is c.message.ensures

pub returns : goal.returns
returns g c =
    function-stored _ _ c.args.self.now c.args.call _ c.function.result c.function.ensures _
    (c.state-state.ensures ∙ lent-html (around_of c.args.call.scopes.now) (variables_of c.args.call.scopes.now) c.args.call.autoescape c.args.self.now.escape _ _ c.as_slice.ensures.value)
    c.in-Some.is c.is_safe.ensures (c.mark_if.ensures _ c.call.ensures)
