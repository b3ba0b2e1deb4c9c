use Rattle.std.proofs.Common.{◌∙◌, ap, sym}
use Rattle.tera_syntax_tree.specs.Free.{◌∪◌}
use Rattle.tera_syntax_tree.specs.Sets.{names_in}
use Rattle.tera_registry.proofs.Bodies.{on_ok_by}
use Rattle.tera_registry.proofs.Wanted.{is-given, is-own}
use Rattle.tera_registry.proofs.variables.add_given.Goals as goal

pub returns-then-is_given : goal.returns-then-is_given
returns-then-is_given c =
    on_ok_by _ _ _ _ (ap (λ p. p ∪ names_in c.args.found.now) (is-given c.args.name.now (sym c.is_given.ensures ∙ c.if-is_given.true))) c.add.ensures

pub returns : goal.returns
returns c = is-own c.args.name.now (names_in c.args.found.now) (sym c.is_given.ensures ∙ c.if-is_given.false)
