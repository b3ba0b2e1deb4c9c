use Rattle.std.proofs.Common.{ap, sym, ◌∙◌, refl}
use Rattle.tera_syntax_tree.specs.View.{items_of, expr_of}
use Rattle.tera_syntax_expressions.specs.Expressions.{expr, join_items, one_item}
use Rattle.tera_syntax_expressions.specs.Parts.{deep_of}
use Rattle.tera_syntax_expressions.proofs.Rounds.{items_of-push}
use Rattle.tera_syntax_expressions.proofs.reader.Reader.item.Goals as goal

pub returns : goal.returns
returns g c = (
  deep_of c.in_ok-x.x,
  ap (expr c.args.self.now.below 0) (sym c.take_dots-is_spread.ensures.rest) ∙ c.in_ok-x.ensures,
  refl,
  ap items_of c.in_ok-push.ensures.items ∙ items_of-push c.args.found.now.items _ ∙ ap (λ s. join_items (items_of c.args.found.now.items) (one_item s (expr_of c.in_ok-x.x.expression))) c.take_dots-is_spread.ensures.value,
)
