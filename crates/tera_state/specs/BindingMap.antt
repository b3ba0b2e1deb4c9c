-- Bindings as a map keeps them, and what is taken out of it at once.
use Rattle.std.specs.Prelude.{◌≡◌, ◌≢◌, ℕ, Bool, true, false, ◌&&◌, ◌||◌, not, nat_eq, nat_lt, List, [], ◌∷◌, filter, Option, Some, None}
use Rattle.std.specs.BTreeMap.{BTreeMap, get}
use Rattle.std.specs.Option.{option_or}
use Rattle.tera_state.specs.Bound.{is_beyond, layer_of, position_from}
use Rattle.tera_state.specs.LayerNames.{layer_name_cmp}
use Rattle.tera_state.specs.declared.bindings.Binding.{Binding}
use Rattle.tera_state.specs.declared.bindings.Layer.{Layer}
use Rattle.tera_state.specs.declared.layer_name.LayerName.{LayerName}
use Rattle.tera_state.specs.declared.part.Part.{Part}
use Rattle.tera_state.specs.declared.part.Part.TheVariants as part

-- no binding comes before the one before it, nor the first before layer l of frame f
abbrev pub rises_from : ℕ → ℕ → List Binding → Bool
rises_from f l [] = true
rises_from f l (b ∷ bs) = not (is_beyond f l b.frame b.layer) && rises_from b.frame b.layer bs

-- no layer binds a name twice
abbrev pub IsOnce : List Binding → Type 0
IsOnce [] = Unit {0}
IsOnce (b ∷ bs) = (position_from 0 bs b.frame b.layer b.name ≡ None) × IsOnce bs

-- the places tell where each binding stands
abbrev pub TellPlaces : List Binding → BTreeMap LayerName ℕ → Type 0
TellPlaces bs places =
    (q : LayerName) → get layer_name_cmp places q ≡ position_from 0 bs q.frame q.layer q.name

-- what holds of the bindings while they are known to be in order
abbrev pub IsOrdered : List Binding → BTreeMap LayerName ℕ → Type 0
IsOrdered bs places = (rises_from 0 0 bs ≡ true) × IsOnce bs × TellPlaces bs places

-- layer l of frame f is none of the part
abbrev pub is_outside : Part → ℕ → ℕ → Bool
is_outside (part.Layer at) f l = not (nat_eq f at.frame) || not (nat_eq l at.layer)
is_outside (part.Frame frame) f l = not (nat_eq f frame)

-- the part comes after layer l of frame f
abbrev pub comes_after : Part → ℕ → ℕ → Bool
comes_after (part.Layer at) f l = is_beyond at.frame at.layer f l
comes_after (part.Frame frame) f l = nat_lt f frame

-- what the part binds is out
abbrev pub outside : Part → List Binding → List Binding
outside p bs = filter (λ b. is_outside p b.frame b.layer) bs

abbrev pub layer_at : Binding → Layer
layer_at b = record { frame = b.frame; layer = b.layer }

-- the layer of the last binding
abbrev pub last_layer : List Binding → Option Layer
last_layer [] = None
last_layer (b ∷ bs) = option_or (last_layer bs) (Some (layer_at b))

-- the bindings are known to be in order with one of layer l of frame f behind them, where the last is of this layer
abbrev pub goes_on : Bool → Option Layer → ℕ → ℕ → Bool
goes_on is_ordered None f l = is_ordered
goes_on is_ordered (Some at) f l = is_ordered && not (is_beyond at.frame at.layer f l)

-- they are known to come before the part
abbrev pub ends_before : Bool → Part → Option Layer → Bool
ends_before is_ordered p None = true
ends_before is_ordered p (Some at) = is_ordered && comes_after p at.frame at.layer

-- the last is one of the part
abbrev pub ends_in : Part → Option Layer → Bool
ends_in p None = false
ends_in p (Some at) = not (is_outside p at.frame at.layer)

-- the first bind outside of all loops alone, the second in turns alone
abbrev pub AreApart : List Binding → List Binding → Type 0
AreApart bodies turns =
    ((f l : ℕ) → l ≢ 0 → layer_of bodies f l ≡ []) × ((f : ℕ) → layer_of turns f 0 ≡ [])
