use Rattle.std.proofs.Common.{◌-◌, ◌<◌, ◌≤◌, ◌∙◌, sym, ap, length, arith}
use Rattle.tera_values.specs.Named.{at_name}
use Rattle.tera_state.specs.FoundValue.{found_value}
use Rattle.tera_state.proofs.Beyond.{handed-is, pass_down, from_context, from_includer}
use Rattle.tera_state.proofs.scopes.Scopes.look_in_includers.Goals as goal

pub returns-then-is_undefined : goal.returns-then-is_undefined
returns-then-is_undefined c =
    let n = c.args.name.now in
    let s = c.args.self.now in
    let k = c.down.left in
    let some : 0 < k = omega (arith, c.down-test.true) in
    let le : k ≤ length s.below = omega (arith, c.down.invariant.within, c.requires) in
    from_context n s.bindings s.below k c.at_height-includer.result.now some le c.at_height-includer.ensures (found_value c.in-Some.found) c.in-Some.ensures _
    (sym c.is_undefined.ensures ∙ c.if-is_undefined.true)
    (c.found_value_of.ensures ∙ c.get.ensures ∙ ap (at_name n) c.context_at.ensures)
    ∙ sym (handed-is s k n) ∙ c.down.invariant.handed

pub returns-in-Some : goal.returns-in-Some
returns-in-Some c =
    let n = c.args.name.now in
    let s = c.args.self.now in
    let k = c.down.left in
    let some : 0 < k = omega (arith, c.down-test.true) in
    let le : k ≤ length s.below = omega (arith, c.down.invariant.within, c.requires) in
    from_includer n s.bindings s.below k c.at_height-includer.result.now some le c.at_height-includer.ensures (found_value c.in-Some.found) c.in-Some.ensures
    (sym c.is_undefined.ensures ∙ c.if-is_undefined.false)
    ∙ sym (handed-is s k n) ∙ c.down.invariant.handed

pub down-preserved : goal.down-preserved
down-preserved c =
    let n = c.args.name.now in
    let s = c.args.self.now in
    let k = c.down.left in
    let some : 0 < k = omega (arith, c.down-test.true) in
    let le : k ≤ length s.below = omega (arith, c.down.invariant.within, c.requires) in
    record {
      within = omega (arith, c.down.invariant.within);
      handed = handed-is s (k - 1) n
          ∙ sym (pass_down n s.bindings s.below k c.at_height-includer.result.now some le c.at_height-includer.ensures c.in_default.ensures.0 c.in_default.ensures.1)
          ∙ sym (handed-is s k n) ∙ c.down.invariant.handed;
    }
