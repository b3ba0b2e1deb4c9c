use Rattle.std.proofs.Common.{◌≡◌, ◌+◌, drop, ap, sym, ◌∙◌, Some, None, option_map}
use Rattle.tera_syntax_tree.specs.Delimiters.{delimiters_of}
use Rattle.tera_syntax_tokens.specs.Bytes.{position}
use Rattle.tera_syntax_tokens.specs.Cut.{endraw, ends_raw, trims_before, opening_at, words}
use Rattle.tera_syntax_tokens.specs.Found.{end_of, end_from, piece_of}
use Rattle.tera_syntax_tokens.proofs.Openings.{opening_fits}
use Rattle.tera_syntax_tokens.proofs.Raws.{raw_boundary, no_raw, a_raw}
use Rattle.tera_syntax_tokens.proofs.raw.raw_piece.Goals as goal

pub split_at-requires : goal.split_at-requires
split_at-requires c =
    rw (c.next_endraw-n.ensures, c.as_bytes.ensures.value) (raw_boundary c.args.delimiters.now c.args.text.now c.requires.usable c.utf8.text)

pub trimmed_words-requires-clause-whole : goal.trimmed_words-requires-clause-whole
trimmed_words-requires-clause-whole c =
    rw (c.next_endraw-n.ensures, c.as_bytes.ensures.value) (raw_boundary c.args.delimiters.now c.args.text.now c.requires.usable c.utf8.text)

pub trims_before-behind-requires : goal.trims_before-behind-requires
trims_before-behind-requires c =
    rw c.opening_at.ensures (rw (c.as_bytes-3.ensures.value, c.as_bytes-4.ensures.value) (opening_fits c.args.delimiters.now c.split_at.result.1.now c.requires.usable))

pub returns-in_default-clause-value : goal.returns-in_default-clause-value
returns-in_default-clause-value c tokens =
    let d = delimiters_of c.args.delimiters.now in
    let n = c.next_endraw-n.result in
    let p : n ≡ position (ends_raw d) c.args.text.now = c.next_endraw-n.ensures ∙ ap (position (ends_raw d)) c.as_bytes.ensures.value in
    let r : c.as_bytes-2.result.now ≡ drop n c.args.text.now = c.as_bytes-2.ensures.value ∙ c.split_at.ensures.back in
    let e : None ≡ option_map end_of (endraw d (c.args.at + n) (drop n c.args.text.now)) = rw r at c.in_default.ensures.value (c.args.at + n) in
    no_raw d c.args.trims c.args.at c.args.text.now n p (sym e)

pub returns-clause-value : goal.returns-clause-value
returns-clause-value c tokens =
    let d = delimiters_of c.args.delimiters.now in
    let n = c.next_endraw-n.result in
    let p : n ≡ position (ends_raw d) c.args.text.now = c.next_endraw-n.ensures ∙ ap (position (ends_raw d)) c.as_bytes.ensures.value in
    let r : c.as_bytes-2.result.now ≡ drop n c.args.text.now = c.as_bytes-2.ensures.value ∙ c.split_at.ensures.back in
    let e : Some (end_from (c.args.at + n) c.in-Some.ending) ≡ option_map end_of (endraw d (c.args.at + n) (drop n c.args.text.now)) = rw r at c.in-Some.ensures.value (c.args.at + n) in
    let b : c.trims_before-behind.result ≡ trims_before (drop n c.args.text.now) (opening_at d (drop n c.args.text.now)) =
    c.trims_before-behind.ensures ∙ ap (trims_before c.as_bytes-3.result.now) (c.opening_at.ensures ∙ ap (opening_at d) (c.as_bytes-4.ensures.value ∙ c.split_at.ensures.back))
    ∙ ap (λ t. trims_before t (opening_at d (drop n c.args.text.now))) (c.as_bytes-3.ensures.value ∙ c.split_at.ensures.back) in
    let w : piece_of tokens c.trimmed_words.result ≡ words c.args.trims (trims_before (drop n c.args.text.now) (opening_at d (drop n c.args.text.now))) n c.args.at c.args.text.now =
    c.trimmed_words.ensures tokens ∙ ap (λ t. words c.args.trims t n c.args.at c.args.text.now) b in
    a_raw d c.args.trims c.args.at c.args.text.now n (piece_of tokens c.trimmed_words.result) c.in-Some.ending p w (sym e)
