-- Names in their order.
use Rattle.std.specs.Prelude.{◌≡◌, [], ◌∷◌}
use Rattle.std.specs.declared.cmp.Ordering.TheVariants.{Less}
use Rattle.std.specs.Ordering.{Ordering-set}
use mathlib.Core.HLevel.{×_prop, Unit-prop}
use Rattle.std.specs.List.{AllByRecursion, AllByRecursion-prop}
use Rattle.tera_values.specs.Named.{Named, name_cmp}

-- each name is before those after it
abbrev pub Rises : {A : Type 0} → Named A → Type 0
Rises [] = Unit {0}
Rises (e ∷ es) = AllByRecursion (λ f. name_cmp e.0 f.0 ≡ Less) es × Rises es

pub Rises-prop : {A : Type 0} (es : Named A) → IsProp (Rises es)
Rises-prop [] = Unit-prop
Rises-prop (e ∷ es) = ×_prop (AllByRecursion-prop _ (λ y. Ordering-set _ _) es) (Rises-prop es)
