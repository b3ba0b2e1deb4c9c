use Rattle.std.proofs.Common.{rules, arith, ◌+◌}
use Rattle.tera_state.proofs.Walked.{goes_on}
use Rattle.tera_state.proofs.loops.ForLoop.next.Goals as goal

pub returns : goal.returns
returns c = goes_on c.args.self.now (c.args.self.now.index + 1) (omega arith) (search (rules, c.size-size.ensures))
