use Rattle.tera_state.proofs.Steps.{closes, cleared_stays}
use Rattle.tera_state.proofs.scopes.Scopes.close_loop.Goals as goal

pub returns-clause-variables : goal.returns-clause-variables
returns-clause-variables c = closes c.args.self.now c.clear.new.self c.len-frame.result c.len-layer.result c.len-frame.ensures.count c.clear.ensures c.pop.new.self c.requires c.len-layer.ensures c.pop.ensures

pub returns-clause-stays : goal.returns-clause-stays
returns-clause-stays c = cleared_stays c.args.self.now c.pop.new.self c.clear.new.self c.len-frame.result c.len-layer.result c.len-frame.ensures.count c.clear.ensures
