use Rattle.std.proofs.Common.{rules}
use Rattle.tera_state.proofs.Steps.{takes_turn, stops, cleared_stays}
use Rattle.tera_state.proofs.scopes.Scopes.next_turn.Goals as goal

pub returns-then-next-clause-turn : goal.returns-then-next-clause-turn
returns-then-next-clause-turn c = takes_turn c.args.self.now c.clear.new.self c.len-frame.result c.len-layer.result c.len-frame.ensures.count c.clear.ensures c.next.new.self c.next.result (search rules) c.len-layer.ensures c.next.ensures

pub returns-then-next-clause-stays : goal.returns-then-next-clause-stays
returns-then-next-clause-stays c = cleared_stays c.args.self.now c.next.new.self c.clear.new.self c.len-frame.result c.len-layer.result c.len-frame.ensures.count c.clear.ensures

pub returns-else-next-clause-turn : goal.returns-else-next-clause-turn
returns-else-next-clause-turn c = stops c.args.self.now c.next.new.self c.next.result (search rules) c.next.ensures
