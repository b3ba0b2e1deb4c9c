use Rattle.tera_state.proofs.Steps.{opens, cleared_stays}
use Rattle.tera_state.proofs.scopes.Scopes.open_loop.Goals as goal

pub returns-clause-ok : goal.returns-clause-ok
returns-clause-ok c = opens c.args.self.now c.clear.new.self c.len-frame.result c.len-layer.result c.len-frame.ensures.count c.clear.ensures c.push.new.self c.args.opened c.len-layer.ensures c.in_ok-push.ensures.ok

pub returns-clause-stays : goal.returns-clause-stays
returns-clause-stays c = cleared_stays c.args.self.now c.push.new.self c.clear.new.self c.len-frame.result c.len-layer.result c.len-frame.ensures.count c.clear.ensures
