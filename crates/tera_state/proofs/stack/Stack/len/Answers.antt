use Rattle.std.proofs.Common.{rules}
use Rattle.tera_state.proofs.stack.Stack.len.Goals as goal

pub returns-clause-small : goal.returns-clause-small
returns-clause-small g c = search (rules, c.self.inside.items.ok, c.self.inside.items.small)
