-- One list of bindings, by frame and layer.
use Rattle.std.specs.Prelude.{◌≡◌, ℕ, ◌<◌, ◌≤◌, ◌⊎◌, Bool, ◌&&◌, ◌||◌, not, nat_eq, nat_lt, cond, ◌-◌, List, [], ◌∷◌, Option, Some, None, filter, ◌+◌, bytes_eq, if◌then◌else◌}
use Rattle.tera_errors.specs.Site.{Name}
use Rattle.tera_values.specs.Val.{Val}
use Rattle.tera_state.specs.Scope.{Bindings}
use Rattle.tera_state.specs.declared.bindings.Binding.{Binding}
use Rattle.tera_state.specs.declared.bindings.Layer.{Layer}

abbrev pub is_for : ℕ → ℕ → Name → Binding → Bool
is_for f l n b = nat_eq b.frame f && nat_eq b.layer l && bytes_eq n b.name

-- the value of the name in the layer
abbrev pub value_in : List Binding → ℕ → ℕ → Name → Option Val
value_in [] f l n = None
value_in (b ∷ bs) f l n = if is_for f l n b then Some b.value else value_in bs f l n

abbrev pub with_binding : List Binding → ℕ → ℕ → Name → Val → List Binding
with_binding [] f l n v = record { frame = f; layer = l; name = n; value = v } ∷ []
with_binding (b ∷ bs) f l n v =
    if is_for f l n b then record b { value = v } ∷ bs else b ∷ with_binding bs f l n v

-- the position of a binding, where the first stands at k
abbrev pub position_from : ℕ → List Binding → ℕ → ℕ → Name → Option ℕ
position_from k [] f l n = None
position_from k (b ∷ bs) f l n = if is_for f l n b then Some k else position_from (k + 1) bs f l n

-- what a layer, and what a frame binds is out
abbrev pub without : List Binding → ℕ → ℕ → List Binding
without bs f l = filter (λ b. not (nat_eq b.frame f) || not (nat_eq b.layer l)) bs

abbrev pub without_frame : List Binding → ℕ → List Binding
without_frame bs f = filter (λ b. not (nat_eq b.frame f)) bs

-- what the layer binds
abbrev pub layer_of : List Binding → ℕ → ℕ → Bindings
layer_of [] f l = []
layer_of (b ∷ bs) f l =
    if nat_eq b.frame f && nat_eq b.layer l then (b.name, b.value) ∷ layer_of bs f l
    else layer_of bs f l

-- each layer binds the same, in whatever order the layers stand
abbrev pub AreAlike : List Binding → List Binding → Type 0
AreAlike bs cs = (f l : ℕ) → layer_of bs f l ≡ layer_of cs f l

-- layer l of frame f comes after layer j of frame g
abbrev pub is_beyond : ℕ → ℕ → ℕ → ℕ → Bool
is_beyond f l g j = nat_lt g f || (nat_eq f g && nat_lt j l)

-- layer l of frame f comes before layer j of frame g, or is that layer
abbrev pub IsUpTo : ℕ → ℕ → ℕ → ℕ → Type 0
IsUpTo f l g j = (f < g) ⊎ ((f ≡ g) × (l ≤ j))

-- no binding comes after layer j of frame g
abbrev pub EndsBy : List Binding → ℕ → ℕ → Type 0
EndsBy [] g j = Unit {0}
EndsBy (b ∷ bs) g j = IsUpTo b.frame b.layer g j × EndsBy bs g j

-- an end for the bindings and one more in layer l of frame f
abbrev pub end_with : ℕ → ℕ → Layer → Layer
end_with f l end = cond (is_beyond f l end.frame end.layer) (record { frame = f; layer = l }) end

-- an end for what is left without layer l of frame f
abbrev pub end_without : ℕ → ℕ → Layer → Layer
end_without f l end =
    cond (nat_eq f end.frame && nat_eq l end.layer && nat_lt 0 l)
    (record { frame = f; layer = l - 1 }) end
