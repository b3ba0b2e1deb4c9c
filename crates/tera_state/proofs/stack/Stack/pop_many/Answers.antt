use Rattle.std.proofs.Common.{◌∙◌}
use Rattle.tera_state.proofs.Stacks.{taken_off, left_below}
use Rattle.tera_state.proofs.stack.Stack.pop_many.Goals as goal

pub returns-clause-taken : goal.returns-clause-taken
returns-clause-taken g c =
    taken_off _ _ _ _ _ (c.len.ensures ∙ c.self.inside.items.ok.0) c.self.view_is c.requires c.in_ok-taken.ensures.tail

pub returns-clause-rest : goal.returns-clause-rest
returns-clause-rest g c =
    left_below _ _ _ _ _ (c.len.ensures ∙ c.self.inside.items.ok.0) c.self.view_is c.requires c.in_ok-taken.ensures.items
