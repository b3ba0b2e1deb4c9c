use Rattle.std.proofs.Common.{Some, None}
use Rattle.tera_meaning.specs.Components.{component, component_named, one_off_name}
use Rattle.tera_machine.proofs.Calling.{defined_beside, defined_first, defined_else}
use Rattle.tera_machine.proofs.Ways.{defined_in, found_there, taken_before}
use Rattle.tera_machine.proofs.machine.VirtualMachine.component_by_name.Goals as goal

pub returns-in-Some-clause-defined : goal.returns-in-Some-clause-defined
returns-in-Some-clause-defined g c =
    let w = g.M.Limit.world in
    let name = c.args.name.now in
    let is = defined_in w c.args.here name (Some c.in-Some.component) c.requires.here (c.in-Some.ensures.defined w.registry name (taken_before c.requires.takes)) in
    defined_first (component w.registry name) (component_named one_off_name name w.beside) c.in-Some.component is

pub returns-in-Some-clause-linked : goal.returns-in-Some-clause-linked
returns-in-Some-clause-linked g c =
    found_there g.M.Limit.world c.args.here c.in-Some.component.body c.requires.here c.in-Some.ensures.templates

pub returns-in-None-clause-defined : goal.returns-in-None-clause-defined
returns-in-None-clause-defined g c =
    let w = g.M.Limit.world in
    let name = c.args.name.now in
    let none = defined_in w c.args.here name None c.requires.here (c.in-None.ensures.defined w.registry name (taken_before c.requires.takes)) in
    defined_else (component w.registry name) (component_named one_off_name name w.beside) c.one_off_component.result none (defined_beside c.args.self.now w name c.one_off_component.result c.requires.linked c.one_off_component.ensures.first)
