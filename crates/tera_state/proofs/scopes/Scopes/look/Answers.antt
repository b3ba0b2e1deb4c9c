use Rattle.std.proofs.Common.{◌∙◌, ap}
use Rattle.std.specs.Prelude.{unwrap_or}
use Rattle.tera_values.specs.Val.{undefined}
use Rattle.tera_state.specs.Scope.{in_innermost}
use Rattle.tera_state.specs.Opened.{turns_of}
use Rattle.tera_state.specs.Scopes.{frame_of, above_of, variables_of}
use Rattle.tera_state.proofs.Beyond.{innermost_first}
use Rattle.tera_state.proofs.scopes.Scopes.look.Goals as goal

pub returns-in_default : goal.returns-in_default
returns-in_default c =
    let n = c.args.name.now in
    let s = c.args.self.now in
    ap (λ o. unwrap_or o undefined)
    (innermost_first c.look_innermost.result n (frame_of s.frame.standing s.below) (above_of s.bindings s.below) (variables_of s) c.in_default.not-Unbound
    (c.look_innermost.ensures ∙ ap (λ k. in_innermost n (turns_of s.bindings k s.frame.loops)) c.len-height.ensures.count))
