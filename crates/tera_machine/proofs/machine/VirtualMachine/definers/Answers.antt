use Rattle.tera_machine.proofs.Ways.{of_template, number_of_template, those_among}
use Rattle.tera_machine.proofs.machine.VirtualMachine.definers.Goals as goal

pub returns-in-Some-clause-those : goal.returns-in-Some-clause-those
returns-in-Some-clause-those g c =
    of_template c.args.self.now g.M.Limit.world c.in-Some.found c.args.name.now c.definers.result c.as_str.result.now c.requires c.in-Some.is c.as_str.ensures c.definers.ensures.those

pub returns-in-Some-clause-number : goal.returns-in-Some-clause-number
returns-in-Some-clause-number g c =
    number_of_template c.args.self.now g.M.Limit.world c.in-Some.found c.args.name.now c.definers.result c.as_str.result.now c.requires c.in-Some.is c.as_str.ensures c.definers.ensures.number

pub returns-in-Some-clause-among : goal.returns-in-Some-clause-among
returns-in-Some-clause-among g c =
    those_among c.args.self.now g.M.Limit.world c.in-Some.found c.definers.result c.requires c.in-Some.is c.definers.ensures.among

pub returns-in-None-clause-among : goal.returns-in-None-clause-among
returns-in-None-clause-among g c = c.of_none.ensures.among g.M.Limit.world.registry
