use Rattle.std.proofs.Common.{◌≡◌, true, ap₂, sym, ◌∙◌}
use Rattle.tera_syntax_tokens.specs.Input.{kind, next}
use Rattle.tera_syntax_tokens.specs.Takes.{input}
use Rattle.tera_syntax_expressions.proofs.Alone.{alone, stands}
use Rattle.tera_syntax_expressions.proofs.levels.stands_alone.Goals as goal

pub returns : goal.returns
returns c = λ t limit sub.
    let i = input c.args.tokens.now in
    let k = c.kinds-first.ensures in
    let h : alone c.args.floor (kind i) (kind (next i)) ≡ true = ap₂ (alone c.args.floor) (sym k.first) (sym k.second) ∙ sym c.is_alone.ensures ∙ t in
    stands limit sub c.args.floor i h
