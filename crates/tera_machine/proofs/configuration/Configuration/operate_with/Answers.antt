use Rattle.std.proofs.Common.{◌≡◌, subst, ap, ◌∙◌, rules, w64}
use Rattle.std.specs.Int.{w128}
use Rattle.std.proofs.lemmas.Int.{to_z-of_z}
use Rattle.tera_values.specs.Val.{int}
use Rattle.tera_operators.specs.Operand.{Evaluated}
use Rattle.tera_operators.specs.Operators.{binary_of}
use Rattle.tera_machine.specs.Effect.{Does, on_one}
use Rattle.tera_machine.proofs.configuration.Configuration.operate_with.Goals as goal

pub returns : goal.returns
returns c =
    let number_is = to_z-of_z w128 c.from.result (search rules) ∙ c.from.ensures ∙ to_z-of_z w64 c.args.number c.ranges.number in
    let made : c.new-right.result ≡ record { value = int c.args.number; span = c.args.span } =
    c.new-right.ensures ∙ ap (λ v. record { value = v; span = c.args.span }) (c.from_int.ensures ∙ ap int number_is) in
    subst (λ (right : Evaluated). Does (λ x. on_one (λ a. binary_of c.args.file.now c.args.operator a right c.args.whole) x.operands x) c.args.self.now c.apply.result c.apply.new.self) made c.apply.ensures
