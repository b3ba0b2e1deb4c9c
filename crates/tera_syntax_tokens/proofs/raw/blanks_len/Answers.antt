use Rattle.std.proofs.Common.{◌≡◌, ◌∙◌, drop, get_or, None, true}
use Rattle.tera_syntax_tokens.specs.Inside.{closing}
use Rattle.tera_syntax_tokens.specs.Token.{is_blank}
use Rattle.tera_syntax_tokens.proofs.Insides.{passes_blank}
use Rattle.tera_syntax_tokens.proofs.Raws.{is_none}
use Rattle.tera_syntax_tokens.proofs.raw.blanks_len.Goals as goal

pub loop-i-preserved : goal.loop-i-preserved
loop-i-preserved c at =
    let h : closing c.args.end.now (drop c.loop-i.i c.args.text.now) ≡ None = is_none _ (cc) in
    let b : is_blank (get_or c.args.text.now c.loop-i.i 0) ≡ true = cc in
    c.loop-i.invariant at ∙ passes_blank c.args.end.now 0 at c.loop-i.i c.args.text.now c.loop-i-test.true h b
