use Rattle.std.proofs.Common.{sym, ap, ◌∙◌, string_bytes}
use Rattle.tera_syntax_tree.specs.Free.{◌∪◌}
use Rattle.tera_syntax_tree.specs.Sets.{names_in}
use Rattle.tera_syntax_tree.proofs.Unions.{those, added, one-more}
use Rattle.tera_syntax_tree.proofs.variables.sets.join.Goals as goal

pub loop-name-preserved : goal.loop-name-preserved
loop-name-preserved c =
    one-more c.in-Some.name _ _ _ _ (added (string_bytes c.in-Some.name) c.loop-name.found c.insert.new.self c.in_ok-insert.ensures.updates) c.in-Some.ensures.steps ∙ c.loop-name.invariant

pub returns : goal.returns
returns c =
    sym (ap (λ ks. those ks ∪ names_in c.loop-name.found) c.in-None.ensures.steps.0) ∙ c.loop-name.invariant ∙ ap (λ ks. those ks ∪ names_in c.args.found.now) c.into_iter-name-iterator.ensures.into_iter_gives.0
