use Rattle.std.proofs.Common.{◌∙◌, sym, ap}
use Rattle.tera_state.specs.FoundValue.{found_value}
use Rattle.tera_state.specs.Stack.{lower}
use Rattle.tera_state.proofs.Beyond.{at, from_beyond, handed-is}
use Rattle.tera_state.proofs.scopes.Scopes.look_in_frame.Goals as goal

pub returns-in-None : goal.returns-in-None
returns-in-None c =
    let n = c.args.name.now in
    let s = c.args.self.now in
    let k = c.args.height in
    from_beyond n s.bindings k c.args.body.now (lower k s.below) (found_value c.look_in_includers.result) (sym c.in-None.ensures.1) (c.look_in_includers.ensures ∙ handed-is s k n ∙ ap (λ t. at n s.bindings t (lower k s.below)) (sym c.in-None.ensures.0))
