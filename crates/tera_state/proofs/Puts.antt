-- A binding that is put in takes the place of an older one, or goes last.
use Rattle.std.proofs.Common.{◌≡◌, ℕ, zero, suc, ◌+◌, ◌<◌, ◌≤◌, List, [], ◌∷◌, ◌++◌, Bool, true, false, Option, Some, None, refl, ap, ◌∙◌, if◌then◌else◌, length, slice_set, slice_index_or, arith}
use Rattle.tera_values.specs.Val.{Val}
use Rattle.tera_state.specs.declared.bindings.Binding.{Binding}
use Rattle.tera_state.specs.Bound.{is_for, with_binding, position_from}

new-by : (t : Bool) (k : ℕ) (b c y : Binding) (bs rest ys : List Binding) (o : Option ℕ) → (if t then Some k else o) ≡ None → (o ≡ None → ys ≡ rest) → b ∷ ys ≡ (if t then y ∷ bs else b ∷ rest)
new-by true k b c y bs rest ys o h r = cc
new-by false k b c y bs rest ys o h r = ap (λ z. b ∷ z) (r h)

pub bind-new : (k : ℕ) (bs : List Binding) (f l : ℕ) (n : List ℕ) (v : Val) → position_from k bs f l n ≡ None → bs ++ (record { frame = f; layer = l; name = n; value = v }) ∷ [] ≡ with_binding bs f l n v
bind-new k [] f l n v h = refl
bind-new k (b ∷ bs) f l n v h = new-by (is_for f l n b) k b b (record b { value = v }) bs (with_binding bs f l n v) (bs ++ (record { frame = f; layer = l; name = n; value = v }) ∷ []) (position_from (k + 1) bs f l n) h (bind-new (k + 1) bs f l n v)

at-by : (t : Bool) (k i m : ℕ) (o : Option ℕ) → (if t then Some k else o) ≡ Some i → (o ≡ Some i → (k + 1 ≤ i) × (i < k + 1 + m)) → (k ≤ i) × (i < k + suc m)
at-by true k i m o h r = let e : k ≡ i = cc in (omega (arith, e), omega (arith, e))
at-by false k i m o h r = let x = r h in (omega (arith, x.0), omega (arith, x.1))

pub at_position : (k : ℕ) (bs : List Binding) (f l : ℕ) (n : List ℕ) (i : ℕ) → position_from k bs f l n ≡ Some i → (k ≤ i) × (i < k + length bs)
at_position k [] f l n i h = cc
at_position k (b ∷ bs) f l n i h = at-by (is_for f l n b) k i (length bs) (position_from (k + 1) bs f l n) h (at_position (k + 1) bs f l n i)

zero-by : (t : Bool) (k : ℕ) (b b0 : Binding) (v : Val) (bs rest : List Binding) (o : Option ℕ) → (if t then Some k else o) ≡ Some (k + 0) → (o ≡ Some (k + 0) → ⊥) → b ≡ b0 → (record b { value = v }) ∷ bs ≡ (if t then (record b0 { value = v }) ∷ bs else b0 ∷ rest)
zero-by true k b b0 v bs rest o h gone e = ap (λ (x : Binding). (record x { value = v }) ∷ bs) e
zero-by false k b b0 v bs rest o h gone e = absurd (gone h)

suc-by : (t : Bool) (k j : ℕ) (b0 y : Binding) (xs bs rest : List Binding) (o : Option ℕ) → (if t then Some k else o) ≡ Some (k + suc j) → (o ≡ Some (k + suc j) → xs ≡ rest) → b0 ∷ xs ≡ (if t then y ∷ bs else b0 ∷ rest)
suc-by true k j b0 y xs bs rest o h r = let e : k ≡ k + suc j = cc in absurd (omega (arith, e))
suc-by false k j b0 y xs bs rest o h r = ap (λ z. b0 ∷ z) (r h)

pub bind-at : (k j : ℕ) (bs : List Binding) (f l : ℕ) (n : List ℕ) (v : Val) (b : Binding) → position_from k bs f l n ≡ Some (k + j) → b ≡ slice_index_or bs j b → slice_set bs j (record b { value = v }) ≡ with_binding bs f l n v
bind-at k j [] f l n v b h e = cc
bind-at k zero (b0 ∷ bs) f l n v b h e = zero-by (is_for f l n b0) k b b0 v bs (with_binding bs f l n v) (position_from (k + 1) bs f l n) h (λ g. let x = at_position (k + 1) bs f l n (k + 0) g in omega (arith, x.0)) e
bind-at k (suc j) (b0 ∷ bs) f l n v b h e =
    suc-by (is_for f l n b0) k j b0 (record b0 { value = v }) (slice_set bs j (record b { value = v })) bs (with_binding bs f l n v) (position_from (k + 1) bs f l n) h
    (λ g. let m : k + suc j ≡ k + 1 + j = omega arith in bind-at (k + 1) j bs f l n v b (g ∙ ap Some m) e)
