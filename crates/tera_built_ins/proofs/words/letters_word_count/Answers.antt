use Rattle.std.proofs.Common.{length, arith}
use Rattle.std.specs.Str.{chars}
use Rattle.std.proofs.lemmas.Iterator.{YieldsList-from_chars}
use Rattle.std.proofs.lemmas.List.{at_drop_all, length_push}
use Rattle.std.proofs.lemmas.Iterator.Consumers.{YieldsList-turn, YieldsList-end}
use Rattle.std.proofs.lemmas.Bool.Decides.{nat_tests}
use Rattle.tera_built_ins.proofs.Begun.{begun, begun-is, begun-drop}
use Rattle.tera_built_ins.proofs.words.letters_word_count.Goals as goal

pub loop-letter-preserved : goal.loop-letter-preserved
loop-letter-preserved c =
    let t = YieldsList-turn (YieldsList-from_chars c.args.text.now c.utf8.text cc) c.loop-letter.yielded _ c.loop-letter.yielded_by _ _ c.in-Some.letter c.in-Some.is c.next.ensures.steps in
    let e = begun-drop c.loop-letter.inside _ _ _ t in
    let n = length_push c.loop-letter.yielded c.in-Some.letter in
    grind (arith, nat_tests)

pub returns : goal.returns
returns c =
    let t = YieldsList-end (YieldsList-from_chars c.args.text.now c.utf8.text cc) c.loop-letter.yielded _ c.loop-letter.yielded_by _ _ c.in-None.is c.next.ensures.steps in
    let e = at_drop_all (begun c.loop-letter.inside) (chars c.args.text.now) (length c.loop-letter.yielded) (omega (arith, t.1)) in
    let all = begun-is (chars c.args.text.now) in
    omega (arith, e, all)
