-- What is undefined is the same as nothing else, and stands in no order to anything.
use Rattle.std.proofs.Common.{◌≡◌, Bool, cond, Some, None, refl, ap, ◌∙◌}
use Rattle.std.proofs.lemmas.Cmp.{eq_by_cmp_equiv}
use Rattle.tera_values.specs.Val.{Val, undefined}
use Rattle.tera_values.specs.Access.{is_undefined}
use Rattle.tera_values.specs.Order.{checked_order, order, same}
use Rattle.tera_values.specs.Laws.{order_total}
use Rattle.tera_value_types.proofs.Symmetric.{comparable_sym}

pub undefined_is_same : (v : Val) → same undefined v ≡ is_undefined v
undefined_is_same undefined = refl
undefined_is_same v = refl

pub same_undefined : (v : Val) → same v undefined ≡ is_undefined v
same_undefined v = (eq_by_cmp_equiv order_total).symm v undefined ∙ undefined_is_same v

pub undefined_stands : (v : Val) → checked_order undefined v ≡ None
undefined_stands v = refl

pub stands_undefined : (v : Val) → checked_order v undefined ≡ None
stands_undefined v = ap (λ (b : Bool). cond b (Some (order v undefined)) None) (comparable_sym v undefined)
