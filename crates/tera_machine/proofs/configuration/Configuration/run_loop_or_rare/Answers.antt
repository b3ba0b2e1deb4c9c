use Rattle.std.proofs.Common.{arith, refl, sym, ◌≡◌, ◌∙◌, ap, subst}
use Rattle.std.proofs.lemmas.Option.{slice_get_within}
use Rattle.tera_values.specs.Val.{array, vals}
use Rattle.tera_machine.specs.Config.{config_of}
use Rattle.tera_machine.specs.Did.{holding}
use Rattle.tera_machine.specs.Effect.{Effected}
use Rattle.tera_machine.specs.Subject.{here_of}
use Rattle.tera_machine.specs.Paths.{Stands, done_since, start_at}
use Rattle.tera_machine.specs.Printing.{saying}
use Rattle.tera_machine.proofs.Reaching.{ran_alone}
use Rattle.tera_machine.proofs.Parts.{as_topped, effected_same, on_ok, on_ok_by, topmost_is}
use Rattle.tera_machine.proofs.configuration.Configuration.run_loop_or_rare.Given.{Over}
use Rattle.tera_machine.proofs.configuration.Configuration.run_loop_or_rare.Goals as goal
use Rattle.tera_machine.proofs.configuration.Configuration.run_loop_or_rare.Goals.{After-pop_top}

-- the operand that is taken is the target
target : (g : Over) (c : After-pop_top g) → c.pop_top.result.value ≡ array (vals c.in-Some-items_of.items.now)
target g c =
    ap (λ a. a.value) (topmost_is c.args.self.now.operands c.top.result.now c.pop_top.result c.pop_top.new.self c.top.ensures c.pop_top.ensures) ∙ sym c.value.ensures ∙ c.in-Some-items_of.ensures.1

pub returns-in_default : goal.returns-in_default
returns-in_default g c = ran_alone c.requires.can refl c.file.ensures c.run_rare.ensures

pub overflow_add-cursor-in_default-items_of : goal.overflow_add-cursor-in_default-items_of
overflow_add-cursor-in_default-items_of g c = omega (arith, slice_get_within c.args.cursor.now.chunk.now.code _ _ c.requires.can.there, c.requires.can.few)

pub returns-in_default-items_of : goal.returns-in_default-items_of
returns-in_default-items_of g c =
    ran_alone c.requires.can refl c.file-in_default-items_of.ensures c.run_rare-in_default-items_of.ensures

pub returns : goal.returns
returns g c =
    let old = config_of c.args.self.now in
    let here = here_of g.O.Objects.engine c.args.machine.now c.args.cursor.now.chunk.now.file c.args.self.now in
    let new = saying c.write_loop-printed.new.texts.now (holding c.pop_top.new.self old) in
    let is_target = target g (goal.at.returns g c).After-pop_top in
    let did = subst (λ x. Effected (done_since (start_at here c.args.cursor.now x) c.write_loop-printed.new.cursor) c.write_loop-printed.result new) (as_topped old c.pop_top.result c.pop_top.new.self c.pop_top.ensures) (c.write_loop-printed.ensures.does here c.pop_top.result (holding c.pop_top.new.self old) (refl, refl, refl) is_target) in
    record {
      stands = subst (λ x. Stands (start_at here c.args.cursor.now x) c.write_loop-printed.new.cursor) (as_topped old c.pop_top.result c.pop_top.new.self c.pop_top.ensures) (c.write_loop-printed.ensures.stands here c.pop_top.result (holding c.pop_top.new.self old) (refl, refl, refl) is_target);
      does = (effected_same (done_since (start_at here c.args.cursor.now old) c.write_loop-printed.new.cursor) c.write_loop-printed.result new (record new { captures = c.write_loop-printed.new.texts.below }) did (on_ok_by c.write_loop-printed.result (λ e. ap (λ captures. record new { captures = captures }) (sym e)) c.write_loop-printed.ensures.below), (refl, on_ok c.write_loop-printed.result refl));
    }
