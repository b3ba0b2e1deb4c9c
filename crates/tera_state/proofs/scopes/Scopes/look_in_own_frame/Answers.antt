use Rattle.std.proofs.Common.{◌∙◌, sym}
use Rattle.tera_state.specs.Stack.{lower}
use Rattle.tera_state.specs.Scopes.{frame_of, above_of, variables_at}
use Rattle.tera_state.proofs.Beyond.{kept_first, bound_split, from_beyond, whole_beyond, called_beyond}
use Rattle.tera_state.proofs.scopes.Scopes.look_in_own_frame.Goals as goal

pub returns-in-Template : goal.returns-in-Template
returns-in-Template c =
    let fs = lower c.args.height c.args.self.now.below in
    let s = c.args.body.now.standing in
    from_beyond c.args.name.now c.args.self.now.bindings c.args.height c.args.body.now fs _ c.in-Unbound.ensures
    (c.found_value_of.ensures ∙ c.get.ensures ∙ sym (whole_beyond c.args.name.now c.args.self.now.bindings s _ fs c.in-Template.is))

pub returns-in-Component : goal.returns-in-Component
returns-in-Component c =
    let fs = lower c.args.height c.args.self.now.below in
    let s = c.args.body.now.standing in
    from_beyond c.args.name.now c.args.self.now.bindings c.args.height c.args.body.now fs _ c.in-Unbound.ensures
    (c.found_value_of-in-Component.ensures ∙ c.look.ensures ∙ sym (called_beyond c.args.name.now c.args.self.now.bindings s _ fs c.in-Component.is))

pub returns-in_default : goal.returns-in_default
returns-in_default c =
    let fs = lower c.args.height c.args.self.now.below in
    let s = c.args.body.now.standing in
    kept_first c.look_in_variables.result _ _ c.in_default.not-Unbound c.look_in_variables.ensures ∙ sym (bound_split c.args.name.now (frame_of s fs) (above_of c.args.self.now.bindings fs) (variables_at c.args.self.now.bindings c.args.height c.args.body.now))
