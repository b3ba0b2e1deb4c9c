use Rattle.std.proofs.Common.{◌≡◌, false, get_or, sym}
use Rattle.tera_syntax_tree.specs.Delimiters.{delimiters_of}
use Rattle.tera_syntax_tokens.proofs.Openings.{filled, first_bytes, no_start}
use Rattle.tera_syntax_tokens.proofs.cut.opening_of.Goals as goal

pub returns-in-None-2 : goal.returns-in-None-2
returns-in-None-2 c =
    let d = delimiters_of c.args.delimiters.now in
    let h : first_bytes d (get_or c.args.text.now 0 0) ≡ false = cc in
    sym (no_start d (filled d c.requires.usable) c.args.text.now c.requires.some h)
