use Rattle.std.proofs.Common.{◌≡◌, false, sym, subst}
use Rattle.std.specs.Prelude.{option_and_then}
use Rattle.tera_syntax_tokens.specs.Token.{tokens_of}
use Rattle.tera_syntax.specs.Reader.{room, taken}
use Rattle.tera_syntax.specs.View.{Becomes, progress_of}
use Rattle.tera_syntax.proofs.Begun.{hint, none_begun}
use Rattle.tera_syntax.proofs.word_statements.statement_by_word.Goals as goal
use Rattle.tera_syntax_tree.specs.Depth.{max_tree_depth}

pub returns-then-not-may_begin : goal.returns-then-not-may_begin
returns-then-not-may_begin c =
    let s = progress_of c.args.progress.now in
    let tokens = tokens_of c.args.tag.now in
    let h : hint c.args.word.now ≡ false = cc in
    let n = none_begun (room max_tree_depth s) s.surroundings tokens c.args.word.now h in
    subst (λ o. Becomes (option_and_then (taken max_tree_depth s tokens) o) c.read_end.result c.read_end.new.self) (sym n) c.read_end.ensures
