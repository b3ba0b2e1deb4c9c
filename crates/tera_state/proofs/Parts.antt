-- The list of bindings in two parts, one behind the other.
use Rattle.std.proofs.Common.{◌≡◌, ℕ, ◌+◌, List, [], ◌∷◌, ◌++◌, Bool, true, false, ◌&&◌, ◌||◌, not, Option, Some, None, Result, Ok, Err, OnOk, refl, sym, ap, ap₂, ◌∙◌, append-nil, if◌then◌else◌}
use Rattle.std.specs.Prelude.{nat_eq}
use Rattle.std.specs.Option.{option_or}
use Rattle.std.proofs.lemmas.List.Elements.{filter-append}
use Rattle.tera_errors.specs.Site.{Name}
use Rattle.tera_values.specs.Val.{Val}
use Rattle.tera_values.specs.Named.{Named, put, put_all}
use Rattle.tera_state.specs.declared.bindings.Binding.{Binding}
use Rattle.tera_state.specs.Scope.{Bindings}
use Rattle.tera_state.specs.Bound.{is_for, value_in, with_binding, without, position_from, layer_of}
use Rattle.tera_state.proofs.Puts.{bind-new}

-- what the first part lacks is looked for in the second
found_by : (t : Bool) (v : Val) (o p q : Option Val) → o ≡ option_or p q → (if t then Some v else o) ≡ option_or (if t then Some v else p) q
found_by true v o p q h = refl
found_by false v o p q h = h

pub value-append : (xs ys : List Binding) (f l : ℕ) (n : Name) → value_in (xs ++ ys) f l n ≡ option_or (value_in xs f l n) (value_in ys f l n)
value-append [] ys f l n = refl
value-append (x ∷ xs) ys f l n = found_by (is_for f l n x) x.value (value_in (xs ++ ys) f l n) (value_in xs f l n) (value_in ys f l n) (value-append xs ys f l n)

-- what it has is bound there
first_by : (t : Bool) (k i : ℕ) (b : Binding) (v : Val) (xs ys more all : List Binding) (o : Option ℕ) → (if t then Some k else o) ≡ Some i → (o ≡ Some i → more ++ ys ≡ all) → (if t then record b { value = v } ∷ xs else b ∷ more) ++ ys ≡ (if t then record b { value = v } ∷ (xs ++ ys) else b ∷ all)
first_by true k i b v xs ys more all o h r = refl
first_by false k i b v xs ys more all o h r = ap (λ (zs : List Binding). b ∷ zs) (r h)

pub with-first : (k i : ℕ) (xs ys : List Binding) (f l : ℕ) (n : Name) (v : Val) → position_from k xs f l n ≡ Some i → with_binding xs f l n v ++ ys ≡ with_binding (xs ++ ys) f l n v
with-first k i [] ys f l n v h = cc
with-first k i (x ∷ xs) ys f l n v h =
    first_by (is_for f l n x) k i x v xs ys (with_binding xs f l n v) (with_binding (xs ++ ys) f l n v) (position_from (k + 1) xs f l n) h (with-first (k + 1) i xs ys f l n v)

-- and what it lacks in the second
second_by : (t : Bool) (k : ℕ) (b : Binding) (v : Val) (xs more all : List Binding) (o : Option ℕ) → (if t then Some k else o) ≡ None → (o ≡ None → more ≡ all) → b ∷ more ≡ (if t then record b { value = v } ∷ xs else b ∷ all)
second_by true k b v xs more all o h r = cc
second_by false k b v xs more all o h r = ap (λ (zs : List Binding). b ∷ zs) (r h)

pub with-second : (k : ℕ) (xs ys : List Binding) (f l : ℕ) (n : Name) (v : Val) → position_from k xs f l n ≡ None → xs ++ with_binding ys f l n v ≡ with_binding (xs ++ ys) f l n v
with-second k [] ys f l n v h = refl
with-second k (x ∷ xs) ys f l n v h =
    second_by (is_for f l n x) k x v (xs ++ ys) (xs ++ with_binding ys f l n v) (with_binding (xs ++ ys) f l n v) (position_from (k + 1) xs f l n) h (with-second (k + 1) xs ys f l n v)

-- a layer of both
layer_by : (t : Bool) (b : Name × Val) (xs ys all : Bindings) → all ≡ xs ++ ys → (if t then b ∷ all else all) ≡ (if t then b ∷ xs else xs) ++ ys
layer_by true b xs ys all h = ap (λ (zs : Bindings). b ∷ zs) h
layer_by false b xs ys all h = h

pub layer-append : (xs ys : List Binding) (f l : ℕ) → layer_of (xs ++ ys) f l ≡ layer_of xs f l ++ layer_of ys f l
layer-append [] ys f l = refl
layer-append (x ∷ xs) ys f l = layer_by (nat_eq x.frame f && nat_eq x.layer l) (x.name, x.value) (layer_of xs f l) (layer_of ys f l) (layer_of (xs ++ ys) f l) (layer-append xs ys f l)

pub put_all-append : (xs ys : Named Val) (m : Named Val) → put_all (xs ++ ys) m ≡ put_all ys (put_all xs m)
put_all-append [] ys m = refl
put_all-append (x ∷ xs) ys m = put_all-append xs ys (put x.0 x.1 m)

-- nothing in both is nothing in each
pub none-append : (xs ys : List Binding) → xs ++ ys ≡ [] → (xs ≡ []) × (ys ≡ [])
none-append [] ys h = (refl, h)
none-append (x ∷ xs) ys h = cc

pub append-none : (xs ys : List Binding) → xs ≡ [] → ys ≡ [] → xs ++ ys ≡ []
append-none [] ys p q = q
append-none (x ∷ xs) ys p q = cc

-- what each part has become
pub both_parts : (xs xs' ys ys' : List Binding) → xs ≡ xs' → ys ≡ ys' → xs ++ ys ≡ xs' ++ ys'
both_parts xs xs' ys ys' p q = ap₂ (λ (us vs : List Binding). us ++ vs) p q

-- one more in the first part, where the second has none
pub pushed : (xs ys : List Binding) (b : Binding) (more : List Binding) → more ≡ xs ++ b ∷ [] → ys ≡ [] → position_from 0 xs b.frame b.layer b.name ≡ None → more ++ ys ≡ with_binding (xs ++ ys) b.frame b.layer b.name b.value
pushed xs ys b more e none h =
    both_parts more (xs ++ b ∷ []) ys [] e none
    ∙ append-nil (xs ++ b ∷ [])
    ∙ bind-new 0 xs b.frame b.layer b.name b.value h
    ∙ ap (λ (bs : List Binding). with_binding bs b.frame b.layer b.name b.value) (sym (both_parts xs xs ys [] refl none ∙ append-nil xs))

pub without-parts : (few fewer others left : List Binding) (f l : ℕ) → fewer ≡ without few f l → left ≡ without others f l → fewer ++ left ≡ without (few ++ others) f l
without-parts few fewer others left f l p q =
    both_parts fewer (without few f l) left (without others f l) p q
    ∙ sym (filter-append (λ (b : Binding). not (nat_eq b.frame f) || not (nat_eq b.layer l)) few others)

pub ok_then : {T E X Y : Type 0} (r : Result T E) → (X → Y) → OnOk r X → OnOk r Y
ok_then (Ok a) f h = f h
ok_then (Err e) f h = tt
