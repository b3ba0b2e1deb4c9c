use Rattle.std.proofs.Common.{◌≡◌, None, Some, sym, ap, ◌∙◌, subst}
use Rattle.tera_errors.specs.Answer.{Tells}
use Rattle.tera_errors.specs.Fault.{rendering_error}
use Rattle.tera_errors.specs.Site.{Name}
use Rattle.tera_code.specs.Listing.{Listing}
use Rattle.tera_registry.specs.HandedOut.{code_of}
use Rattle.tera_machine.specs.Config.{config_of}
use Rattle.tera_machine.specs.Subject.{place_at}
use Rattle.tera_machine.proofs.Including.{among_by_position, is_nowhere, is_open, is_template}
use Rattle.tera_machine.proofs.Ways.{found_in, taken_before}
use Rattle.tera_machine.proofs.machine.VirtualMachine.resolve_include.Goals as goal

pub returns-in_default : goal.returns-in_default
returns-in_default g c = λ conf.
    let w = g.M.Limit.world in
    let name = c.args.asked.name.now in
    let place = place_at c.args.self.now (code_of c.args.here).file c.args.blocks.now conf in
    let none = found_in w c.args.here name None c.requires.linked (c.in_default.ensures w.registry name (taken_before c.requires.takes)) in
    let file : c.file.result.now ≡ (code_of c.args.here).file = c.file.ensures ∙ ap (λ (l : Listing). l.file) c.chunk.ensures in
    let told = subst (λ (f : Name). Tells c.no_template.result (rendering_error (record { file = f; span = c.args.asked.span }))) file c.no_template.ensures in
    is_nowhere w place name c.args.asked.span (config_of conf).run.vars c.no_template.result none told

pub returns-then-has : goal.returns-then-has
returns-then-has g c = λ conf.
    let w = g.M.Limit.world in
    let name = c.args.asked.name.now in
    let place = place_at c.args.self.now (code_of c.args.here).file c.args.blocks.now conf in
    let leads = found_in w c.args.here name (Some c.in-Some.found) c.requires.linked (c.in-Some.ensures w.registry name (taken_before c.requires.takes)) in
    let is = c.has.ensures ∙ among_by_position c.in-Some.found leads.among c.args.blocks.now.included.inner c.requires.included in
    let file : c.file-then-has.result.now ≡ (code_of c.args.here).file = c.file-then-has.ensures ∙ ap (λ (l : Listing). l.file) c.chunk-then-has.ensures in
    let told = subst (λ (f : Name). Tells c.open_template.result (rendering_error (record { file = f; span = c.args.asked.span }))) file c.open_template.ensures in
    is_open w place name c.args.asked.span (config_of conf).run.vars c.in-Some.found leads c.open_template.result (sym is ∙ c.if-has.true) told

pub returns : goal.returns
returns g c = λ conf.
    let w = g.M.Limit.world in
    let name = c.args.asked.name.now in
    let place = place_at c.args.self.now (code_of c.args.here).file c.args.blocks.now conf in
    let leads = found_in w c.args.here name (Some c.in-Some.found) c.requires.linked (c.in-Some.ensures w.registry name (taken_before c.requires.takes)) in
    let is = c.has.ensures ∙ among_by_position c.in-Some.found leads.among c.args.blocks.now.included.inner c.requires.included in
    is_template w place name c.args.asked.span (config_of conf).run.vars c.in-Some.found leads (sym is ∙ c.if-has.false)
