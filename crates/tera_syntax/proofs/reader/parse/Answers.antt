use Rattle.std.proofs.Common.{length, refl, subst}
use Rattle.tera_syntax_tokens.specs.Points.{PointsWithin}
use Rattle.tera_syntax_tree.specs.Delimiters.{delimiters_of}
use Rattle.tera_syntax_tree.specs.Inside.{Within}
use Rattle.tera_syntax.specs.Reads.{Reads, ReadsPlainText}
use Rattle.tera_syntax_tree.specs.View.{tree_of}
use Rattle.tera_syntax.proofs.Extending.{file_sound, file_placed, file_outside}
use Rattle.tera_syntax.proofs.Inside.{tree_inside}
use Rattle.tera_syntax.proofs.Plain.{says_one, refused_by, spells_none, plain, one_tree}
use Rattle.tera_syntax.proofs.reader.parse.Goals as goal
use Rattle.tera_syntax_tree.specs.Depth.{max_tree_depth}

pub returns-in-Ok-clause-reads : goal.returns-in-Ok-clause-reads
returns-in-Ok-clause-reads c =
    let tree = tree_of c.in-Ok.output in
    let s = file_sound max_tree_depth _ tree c.in-Ok.ensures.value in
    (s.0, (s.1, file_placed s.0, s.2.0, file_outside s.0, s.2.1), λ other w h. one_tree c.args.name.now (delimiters_of c.args.delimiters.now) c.args.source.now other tree h s.0)

pub returns-in-Ok-clause-inside : goal.returns-in-Ok-clause-inside
returns-in-Ok-clause-inside c =
    let tree = tree_of c.in-Ok.output in
    let s = file_sound max_tree_depth _ tree c.in-Ok.ensures.value in
    tree_inside c.args.name.now c.args.delimiters.now c.args.source.now tree c.requires c.utf8.source s.0

pub returns-in-Err-Syntax-clause-reads : goal.returns-in-Err-Syntax-clause-reads
returns-in-Err-Syntax-clause-reads c =
    let within : Within (length c.args.source.now) c.in-Err-Syntax.span = subst (PointsWithin (length c.args.source.now)) c.in-Err-Syntax.field-0-is c.in-Err-Syntax.ensures.points in
    says_one c.error_at.result _ (Reads c.args.name.now (delimiters_of c.args.delimiters.now) c.args.source.now) c.error_at.ensures
    ((c.in-Err-Syntax.span, refl, within), spells_none c.args.name.now (delimiters_of c.args.delimiters.now) c.args.source.now (refused_by _ c.in-Err-Syntax.why c.in-Err-Syntax.span _ c.in-Err-Syntax.field-0-is c.in-Err-Syntax.ensures.value))

pub returns-in-Err-Syntax-clause-plain : goal.returns-in-Err-Syntax-clause-plain
returns-in-Err-Syntax-clause-plain c =
    says_one c.error_at.result _ (ReadsPlainText (delimiters_of c.args.delimiters.now) c.args.source.now) c.error_at.ensures
    (plain (delimiters_of c.args.delimiters.now) c.args.source.now (refused_by _ c.in-Err-Syntax.why c.in-Err-Syntax.span _ c.in-Err-Syntax.field-0-is c.in-Err-Syntax.ensures.value))
