use Rattle.std.proofs.Common.{lit<, arith, ◌<◌, length}
use Rattle.std.proofs.lemmas.Bool.Decides.{nat_tests}
use Rattle.tera_run_script.proofs.Splits.{lines_of-more, lines_of-one}
use Rattle.tera_run_script.proofs.lines.first_line.Goals as goal

pub returns-in-Some-clause-lines : goal.returns-in-Some-clause-lines
returns-in-Some-clause-lines c =
    let h = c.in-Some.ensures.byte (lit< tt) (λ w o f. f) in
    lines_of-more c.args.text.now c.in-Some.found.0.now c.in-Some.found.1.now h.0 h.1 h.2

pub returns-in-None-clause-lines : goal.returns-in-None-clause-lines
returns-in-None-clause-lines c =
    let some : 0 < length c.args.text.now = grind (arith, nat_tests, c.is_empty.ensures, c.if-is_empty.false) in
    lines_of-one c.args.text.now some (c.in-None.ensures.byte (lit< tt) (λ w o f. f))
