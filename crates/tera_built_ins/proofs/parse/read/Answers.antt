use Rattle.std.proofs.Common.{◌≡◌, ℕ, List, rules, ap, sym, ◌∙◌, Err, FitsSigned}
use Rattle.std.specs.Prelude.{Result}
use Rattle.std.proofs.lemmas.Int.{to_z-of_z}
use Rattle.tera_errors.specs.Fault.{Fault, message}
use Rattle.tera_values.specs.Val.{Val, int}
use Rattle.tera_values.specs.Alphabet.{plain}
use Rattle.tera_built_ins.specs.Pieces.{trimmed_start}
use Rattle.tera_built_ins.specs.Parse.{signed_numeral, numeral_in, prefix}
use Rattle.tera_built_ins.proofs.Parsing.{signed_numeral-read, signed_numeral-refused}
use Rattle.tera_built_ins.proofs.parse.read.Goals as goal
use mir.Syntax.{w128}

-- src/parse.rt
pub returns-in-Ok : goal.returns-in-Ok
returns-in-Ok c =
    let parsed : c.without_prefix-numeral.result.now ≡ numeral_in c.args.base c.args.text.now = c.without_prefix-numeral.ensures ∙ ap (λ (t : List ℕ). trimmed_start plain.code (prefix c.args.base) t) c.trim.ensures.trim in
    let fits : FitsSigned w128 c.in-Ok.number = search rules in
    let made : c.from_int.result ≡ int c.in-Ok.number = c.from_int.ensures ∙ ap int (to_z-of_z w128 c.in-Ok.number fits) in
    let meant = signed_numeral-read c.args.base c.without_prefix-numeral.result.now c.in-Ok.ensures.value.0.0 c.in-Ok.ensures.value.0.1 in
    cc (parsed, made, meant, c.in-Ok.ensures.value.1)

pub returns-in-Err : goal.returns-in-Err
returns-in-Err c =
    let parsed : c.without_prefix-numeral.result.now ≡ numeral_in c.args.base c.args.text.now = c.without_prefix-numeral.ensures ∙ ap (λ (t : List ℕ). trimmed_start plain.code (prefix c.args.base) t) c.trim.ensures.trim in
    let meant : ◌≡◌ {A = Result Val Fault} (signed_numeral c.args.base (numeral_in c.args.base c.args.text.now)) (Err message)
    = ap (λ (t : List ℕ). signed_numeral c.args.base t) (sym parsed) ∙ signed_numeral-refused c.args.base c.without_prefix-numeral.result.now c.in-Err.ensures.value in
    search (rules, meant)
