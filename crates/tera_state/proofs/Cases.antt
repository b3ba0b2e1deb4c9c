-- Truth values by cases, and a binding that is new.
use Rattle.std.proofs.Common.{◌≡◌, ℕ, Bool, true, false, refl, sym, true≢false}
use Rattle.std.specs.Prelude.{◌&&◌}
use Rattle.tera_errors.specs.Site.{Name}
use Rattle.tera_values.specs.Val.{Val}
use Rattle.tera_state.specs.declared.bindings.Binding.{Binding}

pub either : {P : Type 0} (b : Bool) → (b ≡ true → P) → (b ≡ false → P) → P
either true f g = f refl
either false f g = g refl

pub both : (p q : Bool) → (p && q) ≡ true → (p ≡ true) × (q ≡ true)
both true q e = (refl, e)
both false q e = absurd (true≢false (sym e))

abbrev pub new : ℕ → ℕ → Name → Val → Binding
new f l n v = record { frame = f; layer = l; name = n; value = v }
