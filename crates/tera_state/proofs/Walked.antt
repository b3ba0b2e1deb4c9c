-- The items of an open loop, at their positions.
use Rattle.std.proofs.Common.{◌≡◌, ℕ, zero, suc, ◌<◌, ◌≤◌, List, [], ◌∷◌, Option, Some, None, refl, sym, ap, ap₂, ◌∙◌, arith, map, length, drop, option_map}
use Rattle.std.specs.Prelude.{slice_get, pos, unwrap_or}
use Rattle.std.proofs.lemmas.List.{length-map}
use Rattle.tera_values.specs.Val.{Val, KeyVal, undefined, array, bytes, int, vals, list_of, map as map_of, entries}
use Rattle.tera_values.specs.Access.{pairs}
use Rattle.tera_state.specs.FoundValue.{key_as_value}
use Rattle.tera_state.specs.Items.{Item, unkeyed}
use Rattle.tera_state.specs.Scope.{Heading, turn, turns_from}
use Rattle.tera_state.specs.Opened.{walked, value_at, key_at, items_of, turn_of, to_come, heading_of, names_of}
use Rattle.tera_state.specs.declared.loops.ForLoop.{ForLoop}

pub list_of_vals : (vs : List Val) → list_of (vals vs) ≡ vs
list_of_vals [] = refl
list_of_vals (v ∷ vs) = ap (λ (l : List Val). v ∷ l) (list_of_vals vs)

pub pairs_of_entries : (es : List (KeyVal × Val)) → pairs (entries es) ≡ es
pairs_of_entries [] = refl
pairs_of_entries (e ∷ es) = ap (λ (l : List (KeyVal × Val)). e ∷ l) (pairs_of_entries es)

values_at : (vs : List Val) (i : ℕ) → value_at (slice_get (unkeyed vs) i) ≡ slice_get vs i
values_at [] i = refl
values_at (v ∷ vs) zero = refl
values_at (v ∷ vs) (suc i) = values_at vs i

no_keys : (vs : List Val) (i : ℕ) → key_at (slice_get (unkeyed vs) i) ≡ None
no_keys [] i = refl
no_keys (v ∷ vs) zero = refl
no_keys (v ∷ vs) (suc i) = no_keys vs i

entry_value : (es : List (KeyVal × Val)) (i : ℕ) → value_at (slice_get (map (λ e. (Some (key_as_value e.0), e.1)) es) i) ≡ option_map (λ e. e.1) (slice_get es i)
entry_value [] i = refl
entry_value (e ∷ es) zero = refl
entry_value (e ∷ es) (suc i) = entry_value es i

entry_key : (es : List (KeyVal × Val)) (i : ℕ) → key_at (slice_get (map (λ e. (Some (key_as_value e.0), e.1)) es) i) ≡ option_map (λ e. key_as_value e.0) (slice_get es i)
entry_key [] i = refl
entry_key (e ∷ es) zero = refl
entry_key (e ∷ es) (suc i) = entry_key es i

abbrev number : ℕ → Val
number b = int (pos b)

byte_at : (t : List ℕ) (i : ℕ) → slice_get (map number t) i ≡ option_map number (slice_get t i)
byte_at [] i = refl
byte_at (b ∷ t) zero = refl
byte_at (b ∷ t) (suc i) = byte_at t i

module _ (v : Val) (i : ℕ) where
  pub array_value : (vs : List Val) → array (vals vs) ≡ v → value_at (slice_get (walked v) i) ≡ slice_get vs i
  array_value vs e = ap (λ w. value_at (slice_get (walked w) i)) (sym e) ∙ ap (λ l. value_at (slice_get (unkeyed l) i)) (list_of_vals vs) ∙ values_at vs i

  pub map_value : (es : List (KeyVal × Val)) → map_of (entries es) ≡ v → value_at (slice_get (walked v) i) ≡ option_map (λ e. e.1) (slice_get es i)
  map_value es e = ap (λ w. value_at (slice_get (walked w) i)) (sym e) ∙ ap (λ l. value_at (slice_get (map (λ e. (Some (key_as_value e.0), e.1)) l) i)) (pairs_of_entries es) ∙ entry_value es i

  pub map_key : (es : List (KeyVal × Val)) → map_of (entries es) ≡ v → key_at (slice_get (walked v) i) ≡ option_map (λ e. key_as_value e.0) (slice_get es i)
  map_key es e = ap (λ w. key_at (slice_get (walked w) i)) (sym e) ∙ ap (λ l. key_at (slice_get (map (λ e. (Some (key_as_value e.0), e.1)) l) i)) (pairs_of_entries es) ∙ entry_key es i

  pub array_key : (vs : List Val) → array (vals vs) ≡ v → key_at (slice_get (walked v) i) ≡ None
  array_key vs e = ap (λ w. key_at (slice_get (walked w) i)) (sym e) ∙ no_keys (list_of (vals vs)) i

  pub bytes_key : (t : List ℕ) → bytes t ≡ v → key_at (slice_get (walked v) i) ≡ None
  bytes_key t e = ap (λ w. key_at (slice_get (walked w) i)) (sym e) ∙ no_keys (map number t) i

  pub bytes_value : (t : List ℕ) → bytes t ≡ v → value_at (slice_get (walked v) i) ≡ option_map (λ b. int (pos b)) (slice_get t i)
  bytes_value t e = ap (λ w. value_at (slice_get (walked w) i)) (sym e) ∙ values_at (map number t) i ∙ byte_at t i

pub array_size : (v : Val) (vs : List Val) → array (vals vs) ≡ v → length (walked v) ≡ length vs
array_size v vs e = ap (λ w. length (walked w)) (sym e) ∙ ap (λ l. length (unkeyed l)) (list_of_vals vs) ∙ length-map vs _

abbrev keyed : KeyVal × Val → Item
keyed e = (Some (key_as_value e.0), e.1)

pub map_size : (v : Val) (es : List (KeyVal × Val)) → map_of (entries es) ≡ v → length (walked v) ≡ length es
map_size v es e = ap (λ w. length (walked w)) (sym e) ∙ ap (λ (l : List (KeyVal × Val)). length (map keyed l)) (pairs_of_entries es) ∙ length-map es keyed

-- the turns from a position on
from_position : (h : Heading) (size k i : ℕ) (is : List Item) → i < length is → turns_from h size k (drop i is) ≡ record { counters = (turn h size k (None, int (pos 0))).counters; sets = []; names = names_of h (slice_get is i) } ∷ turns_from h size (suc k) (drop (suc i) is)
from_position h size k i [] lt = absurd (omega (arith, lt))
from_position h size k zero (x ∷ is) lt = refl
from_position h size k (suc i) (x ∷ is) lt = from_position h size k i is (omega (arith, lt))

pub goes_on : (l : ForLoop) (k : ℕ) → k ≡ suc l.index → k < length (items_of l) → to_come l ≡ turn_of [] (record l { index = k }) ∷ to_come (record l { index = k })
goes_on l k e lt =
    ap (λ (j : ℕ). turns_from (heading_of l) (length (items_of l)) j (drop j (items_of l))) (sym e) ∙ from_position (heading_of l) (length (items_of l)) k k (items_of l) lt

nothing_past : (i : ℕ) (is : List Item) → length is ≤ i → drop i is ≡ []
nothing_past zero [] le = refl
nothing_past (suc i) [] le = refl
nothing_past zero (x ∷ is) le = absurd (omega (arith, le))
nothing_past (suc i) (x ∷ is) le = nothing_past i is (omega (arith, le))

pub ends : (l : ForLoop) → length (items_of l) ≤ suc l.index → to_come l ≡ []
ends l le = ap (turns_from (heading_of l) (length (items_of l)) (suc l.index)) (nothing_past (suc l.index) (items_of l) le)

-- an item that is lent at its position
lent_at : (is : List Item) (i : ℕ) (key value : Option Val) → i < length is → key ≡ key_at (slice_get is i) → value ≡ value_at (slice_get is i) → drop i is ≡ (key, unwrap_or value undefined) ∷ drop (suc i) is
lent_at [] i key value lt ek ev = absurd (omega (arith, lt))
lent_at (x ∷ is) zero key value lt ek ev = ap₂ (λ (k o : Option Val). (k, unwrap_or o undefined) ∷ is) (sym ek) (sym ev)
lent_at (x ∷ is) (suc i) key value lt ek ev = lent_at is i key value (omega (arith, lt)) ek ev

pub drop-lent : (is : List Item) (i j : ℕ) (key value : Option Val) → j ≡ suc i → i < length is → key ≡ key_at (slice_get is i) → value ≡ value_at (slice_get is i) → drop i is ≡ (key, unwrap_or value undefined) ∷ drop j is
drop-lent is i j key value e lt ek ev = lent_at is i key value lt ek ev ∙ ap (λ (k : ℕ). (key, unwrap_or value undefined) ∷ drop k is) (sym e)
