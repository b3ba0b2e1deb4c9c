use Rattle.std.proofs.Common.{sym, ap, ◌∙◌, subst}
use Rattle.tera_syntax_tree.specs.View.{nodes_of}
use Rattle.tera_syntax_expressions.proofs.Rounds.{refuses}
use Rattle.tera_syntax.specs.Heads.{chains}
use Rattle.tera_syntax.specs.Reader.{divided}
use Rattle.tera_syntax.specs.View.{Becomes}
use Rattle.tera_syntax.proofs.Rows.{last_of, nothing_open, divided_innermost, divided_otherwise}
use Rattle.tera_syntax.proofs.open_statements.OpenStatements.read_elif.Goals as goal
use Rattle.tera_syntax.proofs.open_statements.OpenStatements.read_elif.Goals.{in_default-via-in-Some+else-chains, in_default-via-in_default}

pub returns-in-Some : goal.returns-in-Some
returns-in-Some c =
    let statements = c.args.self.now.statements.items in
    let found = nodes_of c.args.self.now.found.items in
    subst (λ o. Becomes o c.end_body.result c.end_body.new.self) (divided_innermost statements (last_of statements c.deref.ensures.value c.in-Some.ensures.value) chains found (sym c.chains.ensures ∙ c.if-chains.true)) c.end_body.ensures

pub returns-in_default : goal.returns-in_default
returns-in_default c =
    let statements = c.args.self.now.statements.items in
    let found = nodes_of c.args.self.now.found.items in
    elim c.in_default.branch [
      | in_default-via-in-Some+else-chains w ↦ refuses c.refusal_of_tag.result c.refusal_of_tag.ensures (divided_otherwise statements (last_of statements c.deref.ensures.value w.in-Some.ensures.value) chains found (sym w.chains.ensures ∙ w.if-chains.false))
      | in_default-via-in_default w ↦ refuses c.refusal_of_tag.result c.refusal_of_tag.ensures (ap (λ fs. divided chains fs found) (nothing_open statements (last_of statements c.deref.ensures.value w.in_default.ensures.value)))
    ]
