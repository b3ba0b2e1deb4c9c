-- What a name and arguments make of a value.
use Rattle.tera_errors.specs.Site.{Name}
use Rattle.tera_errors.specs.declared.span.Span.{Span}
use Rattle.tera_syntax_tree.specs.Tree.{Expr, Arguments, Filter, Test}
use Rattle.tera_syntax_expressions.specs.declared.operator_forms.Application.{Application}
use Rattle.tera_syntax_expressions.specs.declared.operator_forms.Application.TheVariants as application

abbrev pub application_of : Application → Expr → Name → Arguments → Span → Expr
application_of application.Filter = Filter
application_of application.Test = Test
