use Rattle.std.proofs.Common.{◌≡◌, drop, sym, ap, ◌∙◌}
use Rattle.tera_syntax_tree.specs.Delimiters.{delimiters_of}
use Rattle.tera_syntax_tokens.specs.Cut.{opening_at}
use Rattle.tera_syntax_tokens.proofs.Openings.{words_boundary, opening_fits}
use Rattle.tera_syntax_tokens.proofs.cut.words.Goals as goal

pub split_at-requires : goal.split_at-requires
split_at-requires c =
    rw (c.opening_ahead-ahead.ensures.value, c.as_bytes.ensures.value) (words_boundary c.args.delimiters.now c.args.text.now c.requires.usable c.utf8.text)

pub trims_before-behind-requires : goal.trims_before-behind-requires
trims_before-behind-requires c =
    let d = delimiters_of c.args.delimiters.now in
    let e : c.opening_ahead-ahead.result.opening ≡ opening_at d c.split_at.result.1.now = c.opening_ahead-ahead.ensures.known
    ∙ ap (λ t. opening_at d (drop c.opening_ahead-ahead.result.at t)) c.as_bytes.ensures.value ∙ ap (opening_at d) (sym c.split_at.ensures.back) in
    rw (e, c.as_bytes-2.ensures.value) (opening_fits c.args.delimiters.now c.split_at.result.1.now c.requires.usable)

pub trimmed_words-requires-clause-whole : goal.trimmed_words-requires-clause-whole
trimmed_words-requires-clause-whole c =
    rw (c.opening_ahead-ahead.ensures.value, c.as_bytes.ensures.value) (words_boundary c.args.delimiters.now c.args.text.now c.requires.usable c.utf8.text)
