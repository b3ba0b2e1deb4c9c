use Rattle.std.proofs.Common.{lit<}
use Rattle.tera_run_script.proofs.Splits.{words_of-more, words_of-one}
use Rattle.tera_run_script.proofs.lines.first_word.Goals as goal

pub returns-in-Some : goal.returns-in-Some
returns-in-Some c =
    let h = c.in-Some.ensures.byte (lit< tt) (λ w o f. f) in
    words_of-more c.args.line.now c.in-Some.word.now c.in-Some.rest.now h.0 h.1 h.2

pub returns-in-None : goal.returns-in-None
returns-in-None c = words_of-one c.args.line.now (c.in-None.ensures.byte (lit< tt) (λ w o f. f))
