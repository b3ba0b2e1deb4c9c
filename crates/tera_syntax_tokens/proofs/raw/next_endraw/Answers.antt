use Rattle.std.proofs.Common.{◌≡◌, ap, ◌∙◌, is_some}
use Rattle.tera_syntax_tokens.specs.Bytes.{position}
use Rattle.tera_syntax_tokens.specs.Cut.{opens, ends_raw}
use Rattle.tera_syntax_tokens.specs.Found.{end_of, end_from}
use Rattle.tera_syntax_tree.specs.Delimiters.{delimiters_of}
use Rattle.tera_syntax_tokens.proofs.Positions.{none_before-start, none_before-step, none_before-here, none_before-end}
use Rattle.tera_syntax_tokens.proofs.Raws.{some_alike, ends_opened}
use Rattle.tera_syntax_tokens.proofs.raw.next_endraw.Goals as goal

pub loop-i-init : goal.loop-i-init
loop-i-init c =
    let d = delimiters_of c.args.delimiters.now in
    none_before-start (opens d) (ends_raw d) (ends_opened d) c.next_opening-i.result c.args.text.now c.next_opening-i.ensures.value

pub returns-then-is_some : goal.returns-then-is_some
returns-then-is_some c =
    let d = delimiters_of c.args.delimiters.now in
    let s : is_some c.endraw.result ≡ ends_raw d c.bytes_from.result.now = some_alike (end_from 0) end_of _ _ (c.endraw.ensures.value 0) in
    none_before-here (ends_raw d) c.loop-i.i c.args.text.now c.loop-i.invariant c.loop-i-test.true (cc)

pub loop-i-preserved : goal.loop-i-preserved
loop-i-preserved c =
    let d = delimiters_of c.args.delimiters.now in
    let s : is_some c.endraw.result ≡ ends_raw d c.bytes_from.result.now = some_alike (end_from 0) end_of _ _ (c.endraw.ensures.value 0) in
    let e = c.next_opening.ensures.value ∙ ap (position (opens d)) c.bytes_from-in-loop-i.ensures in
    none_before-step (opens d) (ends_raw d) (ends_opened d) c.loop-i.i c.next_opening.result c.args.text.now c.loop-i.invariant c.loop-i-test.true (cc) e

pub returns : goal.returns
returns c = none_before-end (ends_raw (delimiters_of c.args.delimiters.now)) c.loop-i.i c.args.text.now c.loop-i.invariant c.loop-i-test.false
