use Rattle.std.proofs.Common.{◌≡◌, sym, subst, ap₂, ◌∙◌}
use Rattle.tera_errors.specs.Answer.{Says}
use Rattle.tera_errors.specs.Prelude.{Gives}
use Rattle.tera_values.specs.Alphabet.{plain}
use Rattle.tera_values.specs.Val.{Val}
use Rattle.tera_values.specs.Named.{Named}
use Rattle.tera_built_ins.specs.Filters.{filter_of}
use Rattle.tera_operators.specs.Calls.{by_name, placed_call}
use Rattle.tera_operators.specs.Operand.{at_span, then}
use Rattle.tera_state.specs.BuiltIn.{escaping_by}
use Rattle.tera_state.specs.Calling.{filtered_by, seen_in}
use Rattle.tera_machine.proofs.BuiltIn.{filtered_is}
use Rattle.tera_machine.proofs.built_in.filter_result.Goals as goal

pub returns-in-Err : goal.returns-in-Err
returns-in-Err g c = λ around vars all same.
    let engine = g.O.Objects.engine c.args.machine.now.objects.now in
    let escapes = c.args.machine.now.autoescape in
    let meant = filtered_by plain engine (seen_in plain engine around vars escapes) c.args.name.now c.args.target.now.value (by_name all) in
    let is : filter_of plain (escaping_by engine escapes) c.args.filter c.value.result.now c.args.given.now ≡ meant =
    ap₂ (λ (v : Val) (given : Named Val). filter_of plain (escaping_by engine escapes) c.args.filter v given) c.value.ensures same
    ∙ filtered_is engine around vars escapes c.args.name.now c.args.filter c.args.target.now.value (by_name all) c.requires.lone c.requires.named in
    let says = subst (λ e. Says e meant) (sym c.of_callee.ensures) (subst (Says c.in-Err.error) is c.in-Err.ensures) in
    subst (λ s. Gives (λ o. o) c.operand_or_call_fault.result (then (placed_call c.args.file.now meant s c.args.span) (λ v. at_span v c.args.span))) c.span.ensures (c.operand_or_call_fault.ensures meant says)
