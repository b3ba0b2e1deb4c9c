use Rattle.std.proofs.Common.{sym, ap, ◌∙◌}
use Rattle.tera_meaning.specs.Variables.{if_given}
use Rattle.tera_syntax_tree.specs.Free.{only, ◌∪◌}
use Rattle.tera_syntax_tree.specs.Sets.{names_in}
use Rattle.tera_syntax_tree.proofs.Unions.{those}
use Rattle.tera_registry.proofs.Wanted.{given-none, one-given}
use Rattle.tera_registry.proofs.variables.add_all.Goals as goal

pub loop-name-preserved : goal.loop-name-preserved
loop-name-preserved c =
    one-given c.in-Some.name.now _ _ _ _ (c.in_ok-add_given.ensures ∙ ap (λ m. if_given (only m) ∪ names_in c.loop-name.found) c.as_str.ensures.value) c.in-Some.ensures.steps ∙ c.loop-name.invariant

pub returns : goal.returns
returns c =
    given-none (names_in c.loop-name.found) ∙ sym (ap (λ ks. if_given (those ks) ∪ names_in c.loop-name.found) c.in-None.ensures.steps.0) ∙ c.loop-name.invariant ∙ ap (λ ks. if_given (those ks) ∪ names_in c.args.found.now) c.into_iter-name-iterator.ensures.into_iter_gives.0 ∙ ap (λ p. if_given p ∪ names_in c.args.found.now) c.args.of.now.freed
