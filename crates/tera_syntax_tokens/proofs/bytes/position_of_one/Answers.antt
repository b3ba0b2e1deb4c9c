use Rattle.std.proofs.Common.{length, sym, arith}
use Rattle.std.proofs.lemmas.Bool.{false_from_ne_true}
use Rattle.memchr.specs.Find.{is_byte}
use Rattle.tera_syntax_tokens.proofs.Positions.{position_of_head}
use Rattle.tera_syntax_tokens.proofs.bytes.position_of_one.Goals as goal

pub returns-in-Some-clause-value : goal.returns-in-Some-clause-value
returns-in-Some-clause-value c =
    let f = c.in-Some.ensures in
    sym (position_of_head (is_byte c.args.a) c.args.bytes.now c.in-Some.i (let h = f.0.high in omega arith)
    (λ j l. false_from_ne_true _ (f.0.before j (omega arith) l)) (λ l. f.1))

pub returns-in-None-clause-value : goal.returns-in-None-clause-value
returns-in-None-clause-value c =
    sym (position_of_head (is_byte c.args.a) c.args.bytes.now (length c.args.bytes.now) (omega arith)
    (λ j l. false_from_ne_true _ (c.in-None.ensures j (omega arith) l)) (λ l. absurd (omega arith)))
