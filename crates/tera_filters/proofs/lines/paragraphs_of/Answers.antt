use Rattle.std.proofs.Common.{◌≡◌, ◌++◌, List, ℕ, Ok, length, string_bytes, true, ap, sym, ◌∙◌, arith}
use Rattle.std.proofs.lemmas.Iterator.Consumers.{YieldsList-turn, YieldsList-end}
use Rattle.std.proofs.lemmas.Iterator.Splits.{YieldsList-from_str_split}
use Rattle.std.proofs.lemmas.List.{at_drop_all, length_push}
use Rattle.std.specs.Str.Iter.{split_text, split_has_more, split_pattern}
use Rattle.tera_built_ins.specs.Words.{has_some}
use Rattle.tera_filters.specs.Lines.{lines_of}
use Rattle.tera_filters.specs.LineMarks.{added, added_by, begun_behind, ending}
use Rattle.tera_filters.proofs.Paragraphs.{added-more, paragraphs-are}
use Rattle.tera_filters.proofs.lines.paragraphs_of.Goals as goal

pub loop-line-preserved : goal.loop-line-preserved
loop-line-preserved c =
    let gives = c.into_iter-line-iterator.ensures.into_iter_gives in
    let made = c.split-line-items.ensures in
    let text : split_text c.into_iter-line-iterator.result ≡ c.args.text.now = ap split_text gives ∙ made.text in
    let has_more : split_has_more c.into_iter-line-iterator.result ≡ true = ap split_has_more gives ∙ made.has_more in
    let sign : split_pattern c.into_iter-line-iterator.result ≡ 10 = ap split_pattern gives ∙ made.pattern in
    let turn = YieldsList-turn (YieldsList-from_str_split 10 c.args.text.now (omega arith) text has_more sign) c.loop-line.yielded _ c.loop-line.yielded_by _ _ c.in-Some.line c.in-Some.is c.next.ensures.steps in
    let line : List ℕ = c.in-Some.line.now in
    let old : List ℕ = string_bytes c.loop-line.marked in
    let written : string_bytes c.put_line.new.out ≡ old ++ added c.loop-line.begun c.loop-line.inside line = c.in_ok-put_line.ensures.ok in
    let begun : c.is_begun_behind-begun.result ≡ begun_behind c.loop-line.begun line = c.is_begun_behind-begun.ensures in
    let inside : c.has_text-inside.result ≡ has_some line = c.has_text-inside.ensures in
    added-more old (string_bytes c.put_line.new.out) _ line c.loop-line.begun c.loop-line.inside c.is_begun_behind-begun.result c.has_text-inside.result (lines_of c.args.text.now) (length c.loop-line.yielded) _ written begun inside (length_push c.loop-line.yielded c.in-Some.line) turn c.loop-line.invariant

pub returns : goal.returns
returns c =
    let gives = c.into_iter-line-iterator.ensures.into_iter_gives in
    let made = c.split-line-items.ensures in
    let text : split_text c.into_iter-line-iterator.result ≡ c.args.text.now = ap split_text gives ∙ made.text in
    let has_more : split_has_more c.into_iter-line-iterator.result ≡ true = ap split_has_more gives ∙ made.has_more in
    let sign : split_pattern c.into_iter-line-iterator.result ≡ 10 = ap split_pattern gives ∙ made.pattern in
    let all = YieldsList-end (YieldsList-from_str_split 10 c.args.text.now (omega arith) text has_more sign) c.loop-line.yielded _ c.loop-line.yielded_by _ _ c.in-None.is c.next.ensures.steps in
    let lines : List (List ℕ) = lines_of c.args.text.now in
    let old : List ℕ = string_bytes c.loop-line.marked in
    let none = at_drop_all (added_by c.loop-line.begun c.loop-line.inside) lines (length c.loop-line.yielded) (omega (arith, all.1)) in
    let put : string_bytes c.put_ending.new.out ≡ old ++ ending c.loop-line.inside = c.in_ok-put_ending.ensures.ok in
    ap Ok (sym (put ∙ ap (λ t. old ++ t) (sym none) ∙ c.loop-line.invariant ∙ paragraphs-are lines))
