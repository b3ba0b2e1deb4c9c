use Rattle.std.proofs.Common.{◌≡◌, codes, Ok, sym, ap, ◌∙◌}
use Rattle.std.specs.Iterator.Adapters.{take_source}
use Rattle.std.specs.List.{join_by}
use Rattle.std.specs.Str.Iter.{split_whitespace_rest}
use Rattle.std.proofs.lemmas.Iterator.{YieldsList-from_take}
use Rattle.std.proofs.lemmas.Iterator.Consumers.{YieldsList-end}
use Rattle.tera_filters.proofs.Spaced.{YieldsList-from_words, join-seen}
use Rattle.tera_filters.proofs.words.first_words.Goals as goal

pub returns : goal.returns
returns c =
    let rest : split_whitespace_rest (take_source c.into_iter-word-iterator.result) ≡ c.args.content.now =
    ap (λ i. split_whitespace_rest (take_source i)) c.into_iter-word-iterator.ensures.into_iter_gives ∙ ap split_whitespace_rest c.take-word-items.ensures.source ∙ c.split_whitespace.ensures.rest in
    let road = YieldsList-from_take {s = c.into_iter-word-iterator.result} c.args.count (YieldsList-from_words _ _ c.utf8.content rest) cc in
    let all = YieldsList-end road c.loop-word.yielded _ c.loop-word.yielded_by _ _ c.in-None.is c.next.ensures.steps in
    ap Ok (sym (c.loop-word.invariant.made ∙ join-seen (λ p. p.now) (codes " ") c.loop-word.yielded ∙ ap (join_by (λ t. t) (codes " ")) all.0))
