use Rattle.std.proofs.Common.{rules, ◌≡◌, ◌≤◌, ◌∙◌, [], ap, sym, length}
use Rattle.tera_state.specs.Scope.{in_innermost}
use Rattle.tera_state.specs.Opened.{turns_of}
use Rattle.tera_state.specs.Stack.{lower}
use Rattle.tera_state.proofs.Beyond.{from_beyond, whole_beyond, nothing_bound}
use Rattle.tera_state.proofs.scopes.Scopes.look_outside_turn.Goals as goal

pub returns-in-Template : goal.returns-in-Template
returns-in-Template c =
    let n = c.args.name.now in
    let s = c.args.self.now in
    let k = c.args.height in
    let fs = lower k s.below in
    let unset : s.bindings ≡ [] = search rules in
    let few : length s.frame.loops ≤ 1 = search rules in
    let none = sym (ap (λ j. in_innermost n (turns_of s.bindings j s.frame.loops)) c.requires.height ∙ c.requires.beyond) in
    from_beyond n s.bindings k s.frame fs _ (nothing_bound n s.bindings k s.frame unset few none)
    (c.found_value_of.ensures ∙ c.get.ensures ∙ sym (whole_beyond n s.bindings s.frame.standing _ fs c.in-Template.is))
