use Rattle.std.proofs.Common.{sym, ap, ap₂, ◌∙◌, Ok, rules, w64}
use Rattle.std.specs.Int.{w128}
use Rattle.std.proofs.lemmas.Int.{to_z-of_z}
use Rattle.tera_errors.specs.declared.span.Span.{Span}
use Rattle.tera_values.specs.Val.{Val, int}
use Rattle.tera_operators.specs.Operand.{Evaluated}
use Rattle.tera_operators.specs.Operators.{binary_of}
use Rattle.tera_machine.proofs.integers.compare_integer.Goals as goal

abbrev at : Val → Span → Evaluated
at v span = record { value = v; span = span }

pub returns : goal.returns
returns c = λ file.
    let whole : Span = record { start = c.args.span.start; end = c.args.comparison.now.integer_span.end } in
    let number_is = to_z-of_z w128 c.args.number c.ranges.number in
    let integer_is = to_z-of_z w128 c.from-right.result (search rules) ∙ c.from-right.ensures ∙ to_z-of_z w64 c.args.comparison.now.integer (search rules) in
    ap₂ (λ m n. binary_of file c.args.comparison.now.operator (at (int m) c.args.span) (at (int n) c.args.comparison.now.integer_span) c.args.comparison.now.span) (sym number_is) (sym integer_is)
    ∙ c.compare_integers-truth.ensures file c.args.span c.args.comparison.now.integer_span c.args.comparison.now.span
    ∙ sym (ap Ok (c.new.ensures ∙ ap (λ v. at v whole) c.from_bool.ensures))
