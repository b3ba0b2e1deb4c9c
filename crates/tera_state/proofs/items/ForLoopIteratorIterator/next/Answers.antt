use Rattle.std.proofs.Common.{rules, arith, ◌+◌}
use Rattle.tera_state.specs.FoundValue.{found_value}
use Rattle.tera_state.specs.Opened.{walked}
use Rattle.tera_state.proofs.Walked.{drop-lent}
use Rattle.tera_state.proofs.items.ForLoopIteratorIterator.next.Goals as goal

pub returns-clause-steps : goal.returns-clause-steps
returns-clause-steps c =
    let i = c.args.self.now in
    drop-lent (walked i.items.now) i.index (i.index + 1) (found_value c.key_at.result) (found_value c.value_at.result) (omega arith) (search rules) c.key_at.ensures c.value_at.ensures
