use Rattle.std.proofs.Common.{◌≡◌, Some, IfSome, subst}
use Rattle.tera_state.specs.Scope.{in_innermost}
use Rattle.tera_state.specs.Opened.{turns_of}
use Rattle.tera_state.specs.Scopes.{frame_of, above_of, variables_of}
use Rattle.tera_state.proofs.Beyond.{innermost_lent}
use Rattle.tera_state.proofs.scopes.Scopes.value_of.Goals as goal

pub returns : goal.returns
returns c =
    let s = c.args.self.now in
    let n = c.args.name.now in
    let bound = subst (λ k. IfSome c.value_of.result (λ v. in_innermost n (turns_of s.bindings k s.frame.loops) ≡ Some v.now)) c.len-height.ensures.count c.value_of.ensures in
    innermost_lent c.value_of.result (λ v. v.now) n (frame_of s.frame.standing s.below) (above_of s.bindings s.below) (variables_of s) bound
