use Rattle.std.proofs.Common.{rules, ◌≡◌, ◌-◌, ◌≤◌, ◌<◌, ◌∙◌, refl, sym, arith, length, true, false}
use Rattle.tera_state.specs.FoundValue.{found_value}
use Rattle.tera_state.specs.Stack.{lower}
use Rattle.tera_state.specs.Scopes.{frame_of, above_of, variables_at}
use Rattle.tera_state.proofs.Beyond.{implicit_here, implicit_above, above_caller, from_above}
use Rattle.tera_state.proofs.scopes.Scopes.look_implicit_in_frame.Goals as goal

pub returns-then-not-is_undefined : goal.returns-then-not-is_undefined
returns-then-not-is_undefined c =
    let fs = lower c.args.height c.args.self.now.below in
    let kept : c.is_undefined.result ≡ false = search rules in
    implicit_here c.args.name.now (frame_of c.args.body.now.standing fs) (above_of c.args.self.now.bindings fs) (variables_at c.args.self.now.bindings c.args.height c.args.body.now) (found_value c.look_in_frame-found.result) c.look_in_frame-found.ensures (sym c.is_undefined.ensures ∙ kept)

pub returns-then-not-is_undefined-2 : goal.returns-then-not-is_undefined-2
returns-then-not-is_undefined-2 c =
    let n = c.args.name.now in
    let bs = c.args.self.now.bindings in
    let below = c.args.self.now.below in
    let k = c.up.left in
    let f = c.at_height.result.now in
    let fs = lower (k - 1) below in
    let some : 0 < k = omega (arith, c.up-test.true) in
    let le : k ≤ length below = omega (arith, c.up.invariant.within, c.requires) in
    let kept : c.is_undefined-in-up.result ≡ false = search rules in
    implicit_here n (frame_of f.standing fs) (above_of bs fs) (variables_at bs (k - 1) f) (found_value c.look_in_frame-found-in-up.result) c.look_in_frame-found-in-up.ensures (sym c.is_undefined-in-up.ensures ∙ kept)
    ∙ sym (above_caller n bs below k f some le c.at_height.ensures)
    ∙ sym c.up.invariant.same

pub up-preserved : goal.up-preserved
up-preserved c =
    let n = c.args.name.now in
    let bs = c.args.self.now.bindings in
    let below = c.args.self.now.below in
    let k = c.up.left in
    let f = c.at_height.result.now in
    let fs = lower (k - 1) below in
    let some : 0 < k = omega (arith, c.up-test.true) in
    let le : k ≤ length below = omega (arith, c.up.invariant.within, c.requires) in
    let gone : c.is_undefined-in-up.result ≡ true = search rules in
    record {
      within = omega (arith, c.up.invariant.within);
      same = c.up.invariant.same
          ∙ above_caller n bs below k f some le c.at_height.ensures
          ∙ sym (implicit_above n (frame_of f.standing fs) (above_of bs fs) (variables_at bs (k - 1) f) (found_value c.look_in_frame-found-in-up.result) (from_above n (above_of bs fs)) c.look_in_frame-found-in-up.ensures (sym c.is_undefined-in-up.ensures ∙ gone) refl);
    }
