use Rattle.std.proofs.Common.{ap, sym, ◌∙◌, Some}
use Rattle.tera_operators.specs.Literals.{items_of}
use Rattle.tera_operators.proofs.Views.{list_vals}
use Rattle.tera_operators.proofs.array_literals.items_in.Goals as goal

pub returns-in-Array : goal.returns-in-Array
returns-in-Array c = ap Some (sym (list_vals c.in-Array.items.now)) ∙ ap items_of c.in-Array.ensures
