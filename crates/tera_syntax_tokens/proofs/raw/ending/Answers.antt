use Rattle.std.proofs.Common.{◌+◌, drop, ap, sym, ◌∙◌, option_map}
use Rattle.tera_syntax_tokens.specs.Cut.{of_word}
use Rattle.tera_syntax_tokens.specs.Found.{end_of}
use Rattle.tera_syntax_tokens.specs.Inside.{closing}
use Rattle.tera_syntax_tokens.proofs.Insides.{ending_fits, ending_boundary}
use Rattle.tera_syntax_tokens.proofs.Openings.{some_from}
use Rattle.tera_syntax_tokens.proofs.Raws.{word, is_none, ends_first, other_first, behind_both, alone, not_alone}
use Rattle.tera_syntax_tokens.proofs.raw.ending.Goals as goal

pub returns-then-is_some-clause-value : goal.returns-then-is_some-clause-value
returns-then-is_some-clause-value c at =
    let n = c.blanks_len-n.result in
    let o = some_from (closing c.args.end.now (drop n c.args.text.now)) (cc) in
    sym (ap (option_map end_of) (ap (of_word word) (c.blanks_len-n.ensures.same at) ∙ ends_first c.args.end.now at n c.args.text.now o.0 o.1))

pub returns-then-not-names_endraw-clause-value : goal.returns-then-not-names_endraw-clause-value
returns-then-not-names_endraw-clause-value c at =
    let n = c.blanks_len-n.result in
    sym (ap (option_map end_of) (ap (of_word word) (c.blanks_len-n.ensures.same at) ∙ other_first c.args.end.now at n c.args.text.now c.blanks_len-n.ensures.stops (is_none _ (cc)) (cc)))

pub returns-in-Some-clause-value : goal.returns-in-Some-clause-value
returns-in-Some-clause-value c at =
    let n = c.blanks_len-n.result in
    let e = behind_both c.blanks_len-n.result 6 c.args.text.now c.bytes_from-name.ensures c.bytes_from-more.ensures in
    sym (ap (option_map end_of) (alone c.args.end.now at n c.blanks_len-m.result c.args.text.now c.in-Some.ending c.requires.some (c.blanks_len-n.ensures.same at)
    c.blanks_len-n.ensures.stops (is_none _ (cc)) (cc) (rw e at c.blanks_len-m.ensures.same) (cc)))

pub returns-in-None-clause-value : goal.returns-in-None-clause-value
returns-in-None-clause-value c at =
    let n = c.blanks_len-n.result in
    let e = behind_both c.blanks_len-n.result 6 c.args.text.now c.bytes_from-name.ensures c.bytes_from-more.ensures in
    sym (ap (option_map end_of) (not_alone c.args.end.now at n c.blanks_len-m.result c.args.text.now (c.blanks_len-n.ensures.same at)
    c.blanks_len-n.ensures.stops (is_none _ (cc)) (cc) (rw e at c.blanks_len-m.ensures.same) (rw e at c.blanks_len-m.ensures.stops) (cc)))

pub returns-in-Some-clause-fits : goal.returns-in-Some-clause-fits
returns-in-Some-clause-fits c u v =
    let e = behind_both (c.blanks_len-n.result + 6) c.blanks_len-m.result c.args.text.now (behind_both c.blanks_len-n.result 6 c.args.text.now c.bytes_from-name.ensures c.bytes_from-more.ensures) c.bytes_from.ensures in
    ending_boundary c.args.end.now c.args.text.now ((c.blanks_len-n.result + 6) + c.blanks_len-m.result) c.in-Some.ending u v c.requires.some (cc)

pub returns-in-Some-clause-within : goal.returns-in-Some-clause-within
returns-in-Some-clause-within c =
    let e = behind_both (c.blanks_len-n.result + 6) c.blanks_len-m.result c.args.text.now (behind_both c.blanks_len-n.result 6 c.args.text.now c.bytes_from-name.ensures c.bytes_from-more.ensures) c.bytes_from.ensures in
    (ending_fits c.args.end.now c.args.text.now ((c.blanks_len-n.result + 6) + c.blanks_len-m.result) c.in-Some.ending c.requires.some (cc)).1
