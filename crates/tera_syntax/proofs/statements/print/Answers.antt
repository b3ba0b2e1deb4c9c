use Rattle.std.proofs.Common.{◌≡◌, ◌<◌, Some, sym, ap, ap₂, ◌∙◌, subst}
use Rattle.tera_syntax_tokens.specs.Input.{begin}
use Rattle.tera_syntax_tokens.specs.Token.{token_of, tokens_of}
use Rattle.tera_syntax_tree.specs.Tree.{Print}
use Rattle.tera_syntax_tree.specs.View.{expr_of}
use Rattle.tera_syntax.specs.Reader.{printed, room, whole}
use Rattle.tera_syntax.specs.View.{Becomes, progress_of}
use Rattle.tera_syntax.proofs.Lone.{name_is_printed}
use Rattle.tera_syntax.proofs.Whole.{put_read}
use Rattle.tera_syntax.proofs.statements.print.Goals as goal
use Rattle.tera_syntax_tree.specs.Depth.{max_tree_depth}

pub returns-in-Some : goal.returns-in-Some
returns-in-Some c =
    let s = progress_of c.args.progress.now in
    let le : 0 < room max_tree_depth s = subst (λ n. 0 < n) c.room.ensures c.if-room-gt0.true in
    let e = name_is_printed s (tokens_of c.args.tag.now) (token_of c.in-Some.token) c.in-Some.ensures.only c.in-Some.ensures.name le in
    subst (λ o. Becomes o c.add.result c.add.new.self) (sym e) c.add.ensures

pub returns-in_ok-value-in_default : goal.returns-in_ok-value-in_default
returns-in_ok-value-in_default c =
    let s = progress_of c.args.progress.now in
    let i = begin c.args.progress.now.surroundings.in_loop (tokens_of c.args.tag.now) in
    let x = expr_of c.in_ok-value-in_default.value in
    let h : whole (room max_tree_depth s) i ≡ Some x = sym (ap₂ whole c.room-in_default.ensures c.begin-ahead.ensures) ∙ c.in_ok-value-in_default.ensures in
    subst (λ o. Becomes o c.add-in_default.result c.add-in_default.new.self) (sym (ap (printed max_tree_depth s) h ∙ put_read max_tree_depth s i x (Print x) h)) c.add-in_default.ensures
