use Rattle.tera_machine.proofs.Took.{not_found}
use Rattle.tera_machine.proofs.machine.VirtualMachine.enter.Goals as goal

pub returns-in-Err-clause-enters : goal.returns-in-Err-clause-enters
returns-in-Err-clause-enters g c =
    not_found g.M.Limit.world c.args.self.now c.args.chunk.now.file c.args.asked c.args.blocks.now c.args.configuration.now c.in-Err.error c.args.blocks.now c.args.configuration.now (c.in-Err.ensures.finds c.args.configuration.now)
