use Rattle.std.proofs.Common.{sym, ap, ◌∙◌, subst}
use Rattle.tera_syntax_tokens.specs.Token.{tokens_of}
use Rattle.tera_syntax_tree.specs.View.{nodes_of}
use Rattle.tera_syntax_expressions.proofs.Rounds.{refuses}
use Rattle.tera_syntax.specs.Reader.{shut}
use Rattle.tera_syntax.specs.View.{Becomes}
use Rattle.tera_syntax.proofs.Rows.{last_of, nothing_open, shut_innermost, shut_otherwise}
use Rattle.tera_syntax.proofs.open_statements.OpenStatements.read_end.Goals as goal
use Rattle.tera_syntax.proofs.open_statements.OpenStatements.read_end.Goals.{in_default-via-in-Some+else-is_ended_by, in_default-via-in_default}

pub returns-in-Some : goal.returns-in-Some
returns-in-Some c =
    let tokens = tokens_of c.args.tag.now in
    let statements = c.args.self.now.statements.items in
    let found = nodes_of c.args.self.now.found.items in
    subst (λ o. Becomes o c.close_chain.result c.close_chain.new.self) (shut_innermost statements (last_of statements c.deref.ensures.value c.in-Some.ensures.value) tokens found (sym c.is_ended_by.ensures ∙ c.if-is_ended_by.true)) c.close_chain.ensures

pub returns-in_default : goal.returns-in_default
returns-in_default c =
    let tokens = tokens_of c.args.tag.now in
    let statements = c.args.self.now.statements.items in
    let found = nodes_of c.args.self.now.found.items in
    elim c.in_default.branch [
      | in_default-via-in-Some+else-is_ended_by w ↦ refuses c.refusal_of_tag.result c.refusal_of_tag.ensures (shut_otherwise statements (last_of statements c.deref.ensures.value w.in-Some.ensures.value) tokens found (sym w.is_ended_by.ensures ∙ w.if-is_ended_by.false))
      | in_default-via-in_default w ↦ refuses c.refusal_of_tag.result c.refusal_of_tag.ensures (ap (λ fs. shut tokens fs found) (nothing_open statements (last_of statements c.deref.ensures.value w.in_default.ensures.value)))
    ]
