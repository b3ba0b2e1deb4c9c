use Rattle.std.proofs.Common.{◌≡◌, true, false, nat_lt, length, Some, None, sym, arith}
use Rattle.std.proofs.lemmas.Grind.{common_steps}
use Rattle.std.proofs.lemmas.Option.{slice_get_within}
use Rattle.std.proofs.lemmas.Iterator.Consumers.{nth_from_yields_List}
use Rattle.tera_filters.specs.Words.{words_of}
use Rattle.tera_filters.proofs.Spaced.{YieldsList-from_words, none-at}
use Rattle.tera_filters.proofs.words.has_more_words.Goals as goal

pub returns-in-Some : goal.returns-in-Some
returns-in-Some c =
    let ws = words_of c.args.content.now in
    let item = nth_from_yields_List (Some c.in-Some.field-0) c.nth.new.self c.args.count c.in-Some.ensures.ran (YieldsList-from_words _ _ c.utf8.content c.split_whitespace.ensures.rest) in
    let within = slice_get_within ws c.args.count c.in-Some.field-0.now (sym item) in
    let more : nat_lt c.args.count (length ws) ≡ true = grind (arith, common_steps, within) in
    sym more

pub returns-in-None : goal.returns-in-None
returns-in-None c =
    let ws = words_of c.args.content.now in
    let item = nth_from_yields_List None c.nth.new.self c.args.count c.in-None.ensures.ran (YieldsList-from_words _ _ c.utf8.content c.split_whitespace.ensures.rest) in
    let few = none-at ws c.args.count (sym item) in
    let more : nat_lt c.args.count (length ws) ≡ false = grind (arith, common_steps, few) in
    sym more
