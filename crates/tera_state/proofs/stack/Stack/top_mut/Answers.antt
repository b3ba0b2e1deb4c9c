use Rattle.std.proofs.Common.{◌≡◌, ◌-◌, IfSome, slice_index_or, refl, subst}
use Rattle.tera_state.proofs.Stacks.{top_changed, top_found}
use Rattle.tera_state.proofs.stack.Stack.top_mut.Goals as goal

pub returns : goal.returns
returns g c =
    let items = c.self.inside.items in
    let is = subst (λ o. IfSome o (λ x. x.now ≡ slice_index_or items.items (items.len - 1) x.now)) c.unwrap.ensures c.last_mut.ensures.value in (
      (refl, top_changed _ _ _ items.ok.0 c.self.view_is c.requires),
      record { writes_back = tt; value = top_found _ _ _ items.ok.0 c.self.view_is c.requires _ is },
    )
