use Rattle.tera_state.proofs.Steps.{sets_global, sets_stays}
use Rattle.tera_state.proofs.scopes.Scopes.set_global.Goals as goal

pub returns-clause-ok : goal.returns-clause-ok
returns-clause-ok c = sets_global c.args.self.now c.put.new.self c.len-frame.result c.args.name c.args.value c.put.result c.len-frame.ensures.count c.put.ensures.ok

pub returns-clause-stays : goal.returns-clause-stays
returns-clause-stays c = sets_stays c.args.self.now c.put.new.self c.len-frame.result 0 c.args.name c.args.value c.put.result c.len-frame.ensures.count c.put.ensures.ok c.put.ensures.err
