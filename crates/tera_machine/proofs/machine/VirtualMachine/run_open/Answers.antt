use Rattle.std.proofs.Common.{arith, rules, refl, ap, sym, length, ◌∙◌}
use Rattle.tera_registry.specs.HandedOut.{code_of}
use Rattle.tera_machine.specs.Config.{config_of}
use Rattle.tera_machine.specs.Flow.{flow_of}
use Rattle.tera_machine.proofs.Open.{begins, ready, is_small, few, broke, on, skip_fits, skips, to_fits, to, out, takes_requested, take_broke, goes_in, all_over, all_stays, texts_open, outer_open, belong_again, goes_out, lacked_all, led_of}
use Rattle.tera_machine.proofs.machine.VirtualMachine.run_open.Goals as goal

pub bodies-init : goal.bodies-init
bodies-init g c = (c.chunk.ensures, (c.requires.belong, (rw c.chunk.ensures (rw c.requires.none (begins g.M.Limit.most g.M.Limit.world c.args.self.now (code_of c.args.first) c.args.blocks.now c.args.configuration.now c.args.steps.now c.requires.linked c.requires.within)), refl)))

pub run_instruction-requires : goal.run_instruction-requires
run_instruction-requires g c = record {
  there = c.in-Some.ensures.found;
  few = c.in-Some.ensures.small;
  ready = ready g.O.Objects.engine c.requires.engine c.bodies.invariant.1.1.0 c.in-Some.ensures.found;
  small = is_small g.O.Objects.engine c.requires.engine c.bodies.invariant.1.1.0 c.in-Some.ensures.found c.in-Some.ensures.small;
}

pub returns-in-Err-run_instruction-clause-bounded : goal.returns-in-Err-run_instruction-clause-bounded
returns-in-Err-run_instruction-clause-bounded g c = λ h. search (rules, (few g.O.Objects.engine c.requires.engine c.bodies.invariant.1.1.0 c.in-Some.ensures.count (led_of c.run_instruction.ensures.stands)).1)

pub returns-in-Err-run_instruction-clause-ends : goal.returns-in-Err-run_instruction-clause-ends
returns-in-Err-run_instruction-clause-ends g c =
    let same = c.run_instruction.ensures.stands.continues.steps ∙ c.bodies.invariant.1.1.1 in
    rw (c.in-Err-run_instruction.steps-in-Err-run_instruction-1-own.given.1 (sym same)) (broke g.O.Objects.engine c.requires.engine c.bodies.invariant.1.1.0 c.in-Some.ensures.count (led_of c.run_instruction.ensures.stands) c.in-Err-run_instruction.error (config_of c.run_instruction.new.self) c.in-Err-run_instruction.ensures.does.0)

pub bodies-smaller-in-On : goal.bodies-smaller-in-On
bodies-smaller-in-On g c = let l = few g.O.Objects.engine c.requires.engine c.bodies.invariant.1.1.0 c.in-Some.ensures.count (led_of c.run_instruction.ensures.stands) in omega (arith, l.0, l.1)

pub bodies-preserved-in-On : goal.bodies-preserved-in-On
bodies-preserved-in-On g c = (c.run_instruction.ensures.stands.continues.chunk ∙ c.bodies.invariant.0, (c.bodies.invariant.1.0, (rw c.run_instruction.ensures.stands.continues.chunk (on g.O.Objects.engine c.requires.engine c.bodies.invariant.1.1.0 c.in-Some.ensures.count (led_of c.run_instruction.ensures.stands) c.run_instruction.new.self c.in-Ok-run_instruction.flow c.in-Ok-run_instruction.ensures.does c.in-On.is), c.run_instruction.ensures.stands.continues.steps ∙ c.bodies.invariant.1.1.1)))

pub bodies-smaller-in-Skip : goal.bodies-smaller-in-Skip
bodies-smaller-in-Skip g c = let l = few g.O.Objects.engine c.requires.engine c.bodies.invariant.1.1.0 c.in-Some.ensures.count (led_of c.run_instruction.ensures.stands) in omega (arith, l.0, l.1)

pub bodies-preserved-in-Skip : goal.bodies-preserved-in-Skip
bodies-preserved-in-Skip g c = (c.run_instruction.ensures.stands.continues.chunk ∙ c.bodies.invariant.0, (c.bodies.invariant.1.0, (rw c.run_instruction.ensures.stands.continues.chunk (skips g.O.Objects.engine c.requires.engine c.bodies.invariant.1.1.0 c.in-Some.ensures.count (led_of c.run_instruction.ensures.stands) c.run_instruction.new.self c.in-Ok-run_instruction.flow c.in-Ok-run_instruction.ensures.does c.in-Skip.is), c.run_instruction.ensures.stands.continues.steps ∙ c.bodies.invariant.1.1.1)))

pub bodies-smaller-in-To : goal.bodies-smaller-in-To
bodies-smaller-in-To g c = let l = few g.O.Objects.engine c.requires.engine c.bodies.invariant.1.1.0 c.in-Some.ensures.count (led_of c.run_instruction.ensures.stands) in omega (arith, l.0, l.1)

pub bodies-preserved-in-To : goal.bodies-preserved-in-To
bodies-preserved-in-To g c = (c.run_instruction.ensures.stands.continues.chunk ∙ c.bodies.invariant.0, (c.bodies.invariant.1.0, (rw c.run_instruction.ensures.stands.continues.chunk (to g.O.Objects.engine c.requires.engine c.bodies.invariant.1.1.0 c.in-Some.ensures.count (led_of c.run_instruction.ensures.stands) c.run_instruction.new.self c.in-Ok-run_instruction.flow c.in-Ok-run_instruction.ensures.does c.in-To.is), c.run_instruction.ensures.stands.continues.steps ∙ c.bodies.invariant.1.1.1)))

pub bodies-smaller-in-Out : goal.bodies-smaller-in-Out
bodies-smaller-in-Out g c = let l = few g.O.Objects.engine c.requires.engine c.bodies.invariant.1.1.0 c.in-Some.ensures.count (led_of c.run_instruction.ensures.stands) in omega (arith, l.0, l.1)

pub bodies-preserved-in-Out : goal.bodies-preserved-in-Out
bodies-preserved-in-Out g c = (c.run_instruction.ensures.stands.continues.chunk ∙ c.bodies.invariant.0, (c.bodies.invariant.1.0, (rw c.run_instruction.ensures.stands.continues.chunk (rw c.len-in-Out.ensures (out g.O.Objects.engine c.requires.engine c.bodies.invariant.1.1.0 c.in-Some.ensures.count (led_of c.run_instruction.ensures.stands) c.run_instruction.new.self c.in-Ok-run_instruction.flow c.in-Ok-run_instruction.ensures.does c.in-Out.is)), c.run_instruction.ensures.stands.continues.steps ∙ c.bodies.invariant.1.1.1)))

pub overflow_add-cursor : goal.overflow_add-cursor
overflow_add-cursor g c = omega (arith, skip_fits g.O.Objects.engine c.requires.engine c.bodies.invariant.1.1.0 c.in-Some.ensures.count (led_of c.run_instruction.ensures.stands) c.run_instruction.new.self c.in-Ok-run_instruction.flow c.in-Ok-run_instruction.ensures.does c.in-Skip.is, c.in-Some.ensures.small)

pub overflow_add-cursor-in-To : goal.overflow_add-cursor-in-To
overflow_add-cursor-in-To g c = omega (arith, to_fits g.O.Objects.engine c.requires.engine c.bodies.invariant.1.1.0 c.in-Some.ensures.count (led_of c.run_instruction.ensures.stands) c.run_instruction.new.self c.in-Ok-run_instruction.flow c.in-Ok-run_instruction.ensures.does c.in-To.is, c.in-Some.ensures.small)

pub returns-in-Err-start_body-clause-bounded : goal.returns-in-Err-start_body-clause-bounded
returns-in-Err-start_body-clause-bounded g c = λ h. search (rules, (few g.O.Objects.engine c.requires.engine c.bodies.invariant.1.1.0 c.in-Some.ensures.count (led_of c.run_instruction.ensures.stands)).1)

pub returns-in-Err-start_body-clause-ends : goal.returns-in-Err-start_body-clause-ends
returns-in-Err-start_body-clause-ends g c = search (rules, take_broke g.O.Objects.engine c.requires.engine c.bodies.invariant.1.1.0 c.in-Some.ensures.count (led_of c.run_instruction.ensures.stands) c.run_instruction.new.self c.in-Ok-run_instruction.flow c.in-Ok-run_instruction.ensures.does (ap flow_of c.in-Call.is) c.bodies.body c.bodies.invariant.0 c.start_body.new.self _ _ c.in-Err-start_body.error c.start_body.new.configuration c.in-Err-start_body.ensures)

pub bodies-smaller : goal.bodies-smaller
bodies-smaller g c = let l = few g.O.Objects.engine c.requires.engine c.bodies.invariant.1.1.0 c.in-Some.ensures.count (led_of c.run_instruction.ensures.stands) in omega (arith, l.0, l.1, ap length c.in-Ok-start_body.ensures.is)

pub bodies-preserved : goal.bodies-preserved
bodies-preserved g c =
    let inv = c.bodies.invariant in
    let t = c.in-Ok-start_body.ensures in
    (c.chunk-cursor-in-Call.ensures, (t.belong, (rw c.chunk-cursor-in-Call.ensures (goes_in g.O.Objects.engine c.requires.engine inv.1.1.0 c.in-Some.ensures.count (led_of c.run_instruction.ensures.stands) c.run_instruction.new.self c.in-Ok-run_instruction.flow c.in-Ok-run_instruction.ensures.does (ap flow_of c.in-Call.is) c.bodies.body inv.0 t refl inv.1.0), c.run_instruction.ensures.stands.continues.steps ∙ inv.1.1.1)))

pub returns-then-len-eq0-clause-ends : goal.returns-then-len-eq0-clause-ends
returns-then-len-eq0-clause-ends g c = search (rules, all_over c.bodies.invariant.1.1.0 c.in_default.ensures.found c.in_default.ensures.count (sym c.len.ensures.count ∙ c.if-len-eq0.true))

pub returns-then-len-eq0-clause-stays : goal.returns-then-len-eq0-clause-stays
returns-then-len-eq0-clause-stays g c = all_stays c.bodies.invariant.1.1.0 c.in_default.ensures.found c.in_default.ensures.count (sym c.len.ensures.count ∙ c.if-len-eq0.true)

pub leave-requires-clause-text : goal.leave-requires-clause-text
leave-requires-clause-text g c = texts_open c.bodies.invariant.1.1.0 c.in_default.ensures.found c.in_default.ensures.count (λ e. c.if-len-eq0.false (c.len.ensures.count ∙ e))

pub leave-requires-clause-state : goal.leave-requires-clause-state
leave-requires-clause-state g c = outer_open c.bodies.invariant.1.1.0 c.in_default.ensures.found c.in_default.ensures.count

pub returns-in-Err-clause-ends : goal.returns-in-Err-clause-ends
returns-in-Err-clause-ends g c = search (rules, lacked_all g.M.Limit.world (record { machine = c.args.self.now; code = code_of c.args.first; blocks = c.args.blocks.now; configuration = c.args.configuration.now; count = c.args.steps.now }) c.in-Err.error (config_of c.leave.new.configuration) c.get.new.steps c.in-Err.ensures.lacks)

pub bodies-smaller-in_default : goal.bodies-smaller-in_default
bodies-smaller-in_default g c = omega (arith, c.in_default.ensures.count, ap length c.in-Ok.ensures.ok.is)

pub bodies-preserved-in_default : goal.bodies-preserved-in_default
bodies-preserved-in_default g c =
    let g' = c.bodies.invariant.1.1.0 in
    (c.chunk-cursor.ensures, (belong_again g' c.in_default.ensures.found c.in_default.ensures.count c.in-Ok.ensures.ok, (rw c.chunk-cursor.ensures (goes_out g' c.in_default.ensures.found c.in_default.ensures.count c.in-Ok.ensures.ok), c.bodies.invariant.1.1.1)))

pub start_body-requires-clause-takes : goal.start_body-requires-clause-takes
start_body-requires-clause-takes g c =
    let inv = c.bodies.invariant in
    takes_requested g.O.Objects.engine c.requires.engine inv.1.1.0 c.in-Some.ensures.count (led_of c.run_instruction.ensures.stands) c.run_instruction.new.self c.in-Ok-run_instruction.flow c.in-Ok-run_instruction.ensures.does (ap flow_of c.in-Call.is) c.bodies.body inv.0 c.in-Call.request refl
