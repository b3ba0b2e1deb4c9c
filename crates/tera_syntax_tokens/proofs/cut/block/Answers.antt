use Rattle.std.proofs.Common.{◌-◌, length, ap, ◌∙◌, arith, rules}
use Rattle.std.proofs.lemmas.List.{length-drop}
use Rattle.tera_syntax_tree.specs.Delimiters.{delimiters_of}
use Rattle.tera_syntax_tokens.proofs.Cuts.{points_from}
use Rattle.tera_syntax_tokens.proofs.Openings.{filled}
use Rattle.tera_syntax_tokens.proofs.cut.block.Goals as goal

pub cut_inside-requires-clause-some : goal.cut_inside-requires-clause-some
cut_inside-requires-clause-some c = rw c.as_str.ensures.value (filled (delimiters_of c.args.delimiters.now) c.requires.usable).block_end

pub returns-then-is_alone-clause-value : goal.returns-then-is_alone-clause-value
returns-then-is_alone-clause-value c = let h = c.raw_piece.ensures.value c.cut_inside.new.tokens.items in search rules

pub returns-then-is_alone-clause-points : goal.returns-then-is_alone-clause-points
returns-then-is_alone-clause-points c =
    let x = c.in_ok-x.x in
    let f = c.in_ok-x.ensures.rest in
    let l = ap length f.2 ∙ length-drop (x.next - c.args.at) c.args.text.now in
    points_from c.raw_piece.result c.args.at x.next c.args.text.now x.rest.now f.0 (omega (arith, f.0, f.1, l)) c.raw_piece.ensures.points
