use Rattle.std.proofs.Common.{◌≡◌, List, sym, ap, ◌∙◌, subst}
use Rattle.tera_operators.specs.Operand.{Evaluated, Outcome}
use Rattle.tera_operators.specs.Operators.{binary_of}
use Rattle.tera_machine.specs.Config.{Config, config_of}
use Rattle.tera_machine.specs.Did.{Did, holding}
use Rattle.tera_machine.specs.Effect.{Effected, operated, on_one, on_two}
use Rattle.tera_machine.proofs.Loaded.{two_is_one}
use Rattle.tera_machine.proofs.configuration.Configuration.operate.Goals as goal

pub returns : goal.returns
returns c =
    let before : Config = config_of c.args.self.now in
    let right : Evaluated = c.pop_top-right.result in
    let rest : List Evaluated = c.pop_top-right.new.self in
    let made : Evaluated → Evaluated → Outcome = λ a b. binary_of c.args.file.now c.args.operator a b c.args.span in
    let same : operated c.args.file.now c.args.operator c.args.span before ≡ on_one (λ a. made a right) rest (holding rest before) =
    ap (λ (operands : List Evaluated). on_two made operands (holding operands before)) c.pop_top-right.ensures ∙ two_is_one made right rest (holding rest before) in
    (subst (λ (d : Did). Effected d c.apply.result (config_of c.apply.new.self)) (sym same) c.apply.ensures.0, c.apply.ensures.1)
