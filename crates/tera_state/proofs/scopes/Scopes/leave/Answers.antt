use Rattle.std.proofs.Common.{◌∙◌, sym, ap, ◌∷◌}
use Rattle.tera_state.specs.Bound.{without_frame}
use Rattle.tera_state.proofs.Steps.{frames_stay}
use Rattle.tera_state.proofs.scopes.Scopes.leave.Goals as goal

pub returns-clause-around : goal.returns-clause-around
returns-clause-around c =
    let bs = c.args.self.now.bindings in
    sym (frames_stay bs c.clear_frame.new.self (c.pop_top.result ∷ c.pop_top.new.self) c.args.self.now.below (sym c.pop_top.ensures) (c.clear_frame.ensures ∙ ap (without_frame bs) c.len.ensures.count))
