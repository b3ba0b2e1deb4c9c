use Rattle.tera_state.proofs.Steps.{sets, sets_stays}
use Rattle.tera_state.proofs.scopes.Scopes.set.Goals as goal

pub returns-clause-ok : goal.returns-clause-ok
returns-clause-ok c = sets c.args.self.now c.put.new.self c.len-frame.result c.len-layer.result c.args.name c.args.value c.put.result c.len-frame.ensures.count c.len-layer.ensures c.put.ensures.ok

pub returns-clause-stays : goal.returns-clause-stays
returns-clause-stays c = sets_stays c.args.self.now c.put.new.self c.len-frame.result c.len-layer.result c.args.name c.args.value c.put.result c.len-frame.ensures.count c.put.ensures.ok c.put.ensures.err
