-- Where the list of bindings ends.
use Rattle.std.proofs.Common.{◌≡◌, ◌≢◌, ◌⊎◌, inl, inr, ℕ, ◌-◌, ◌<◌, ◌≤◌, List, [], ◌∷◌, Bool, true, false, cond, None, refl, sym, ap, ◌∙◌, subst, true≢false, arith, if◌then◌else◌}
use Rattle.std.proofs.lemmas.Bool.{eqb-true, eqb-false, ltb-true, ltb-false}
use Rattle.std.specs.Prelude.{nat_eq, nat_lt, ◌&&◌, ◌||◌, not, filter}
use Rattle.tera_errors.specs.Site.{Name}
use Rattle.tera_values.specs.Val.{Val}
use Rattle.tera_values.specs.Named.{at_name}
use Rattle.tera_state.specs.declared.bindings.Binding.{Binding}
use Rattle.tera_state.specs.declared.bindings.Layer.{Layer}
use Rattle.tera_state.specs.Bound.{is_for, value_in, with_binding, without, without_frame, is_beyond, IsUpTo, layer_of, EndsBy, end_with, end_without}
use Rattle.tera_state.proofs.Cases.{either, both}
use Rattle.tera_state.proofs.Layers.{in_layer, skipped, value-is}

-- layer l of frame f comes after layer j of frame g
abbrev IsAfter : ℕ → ℕ → ℕ → ℕ → Type 0
IsAfter f l g j = (g < f) ⊎ ((f ≡ g) × (j < l))

after_by : (f l g j : ℕ) (p q r : Bool) → (p ≡ true → g < f) → (q ≡ true → f ≡ g) → (r ≡ true → j < l) → (p || (q && r)) ≡ true → IsAfter f l g j
after_by f l g j true q r a b c e = inl (a refl)
after_by f l g j false true true a b c e = inr (b refl, c refl)
after_by f l g j false true false a b c e = absurd (true≢false (sym e))
after_by f l g j false false r a b c e = absurd (true≢false (sym e))

after : (f l g j : ℕ) → is_beyond f l g j ≡ true → IsAfter f l g j
after f l g j = after_by f l g j (nat_lt g f) (nat_eq f g) (nat_lt j l) (ltb-true g f) (eqb-true f g) (ltb-true j l)

up_to_by : (f l g j : ℕ) (p q r : Bool) → (p ≡ false → f ≤ g) → (q ≡ false → f ≢ g) → (q ≡ true → f ≡ g) → (r ≡ false → l ≤ j) → (p || (q && r)) ≡ false → IsUpTo f l g j
up_to_by f l g j true q r a b c d e = absurd (true≢false e)
up_to_by f l g j false true true a b c d e = absurd (true≢false e)
up_to_by f l g j false true false a b c d e = inr (c refl, d refl)
up_to_by f l g j false false r a b c d e = let le = a refl in let ne = b refl in inl (omega (arith, le, ne))

pub up_to : (f l g j : ℕ) → is_beyond f l g j ≡ false → IsUpTo f l g j
up_to f l g j = up_to_by f l g j (nat_lt g f) (nat_eq f g) (nat_lt j l) (ltb-false g f) (eqb-false f g) (eqb-true f g) (ltb-false j l)

-- what comes before the end stands in no layer after it
apart : (h k f l g j : ℕ) → IsUpTo h k g j → IsAfter f l g j → h ≡ f → k ≡ l → ⊥
apart h k f l g j (inl lt) (inl x) a b = omega (arith, lt, x, a)
apart h k f l g j (inl lt) (inr x) a b = let e = x.0 in omega (arith, lt, e, a)
apart h k f l g j (inr t) (inl x) a b = let e = t.0 in omega (arith, e, x, a)
apart h k f l g j (inr t) (inr x) a b = let le = t.1 in let lt = x.1 in omega (arith, le, lt, b)

not_there : (b : Binding) (f l g j : ℕ) → IsUpTo b.frame b.layer g j → IsAfter f l g j → in_layer f l b ≡ false
not_there b f l g j u a = either (in_layer f l b)
    (λ t. let p = both (nat_eq b.frame f) (nat_eq b.layer l) t in absurd (apart b.frame b.layer f l g j u a (eqb-true b.frame f p.0) (eqb-true b.layer l p.1)))
    (λ t. t)

pub none_beyond : (bs : List Binding) (f l g j : ℕ) → EndsBy bs g j → is_beyond f l g j ≡ true → layer_of bs f l ≡ []
none_beyond [] f l g j h e = refl
none_beyond (b ∷ bs) f l g j h e = skipped b bs f l (not_there b f l g j h.0 (after f l g j e)) ∙ none_beyond bs f l g j h.1 e

pub nothing_after : (bs : List Binding) (f l g j : ℕ) (n : Name) → EndsBy bs g j → is_beyond f l g j ≡ true → value_in bs f l n ≡ None
nothing_after bs f l g j n h e = value-is bs f l n ∙ ap (at_name n) (none_beyond bs f l g j h e)

kept_by : (p q : Bool) (b : Binding) (bs rest : List Binding) → (p ≡ true → q ≡ true → ⊥) → rest ≡ bs → cond (not p || not q) (b ∷ rest) rest ≡ b ∷ bs
kept_by true true b bs rest ne e = absurd (ne refl refl)
kept_by true false b bs rest ne e = ap (λ x. b ∷ x) e
kept_by false q b bs rest ne e = ap (λ x. b ∷ x) e

pub without_after : (bs : List Binding) (f l g j : ℕ) → EndsBy bs g j → is_beyond f l g j ≡ true → without bs f l ≡ bs
without_after [] f l g j h e = refl
without_after (b ∷ bs) f l g j h e =
    kept_by (nat_eq b.frame f) (nat_eq b.layer l) b bs (without bs f l)
    (λ p q. apart b.frame b.layer f l g j h.0 (after f l g j e) (eqb-true b.frame f p) (eqb-true b.layer l q))
    (without_after bs f l g j h.1 e)

frame_kept_by : (p : Bool) (b : Binding) (bs rest : List Binding) → (p ≡ true → ⊥) → rest ≡ bs → cond (not p) (b ∷ rest) rest ≡ b ∷ bs
frame_kept_by true b bs rest ne e = absurd (ne refl)
frame_kept_by false b bs rest ne e = ap (λ x. b ∷ x) e

not_in : (h k f g j : ℕ) → IsUpTo h k g j → g < f → h ≡ f → ⊥
not_in h k f g j (inl lt) x e = omega (arith, lt, x, e)
not_in h k f g j (inr t) x e = let s = t.0 in omega (arith, s, x, e)

pub without_frame_after : (bs : List Binding) (f g j : ℕ) → EndsBy bs g j → g < f → without_frame bs f ≡ bs
without_frame_after [] f g j h lt = refl
without_frame_after (b ∷ bs) f g j h lt =
    frame_kept_by (nat_eq b.frame f) b bs (without_frame bs f) (λ p. not_in b.frame b.layer f g j h.0 lt (eqb-true b.frame f p)) (without_frame_after bs f g j h.1 lt)

-- what is left ends there too
ends_kept : (t : Bool) (b : Binding) (rest : List Binding) (g j : ℕ) → IsUpTo b.frame b.layer g j → EndsBy rest g j → EndsBy (cond t (b ∷ rest) rest) g j
ends_kept true b rest g j u h = (u, h)
ends_kept false b rest g j u h = h

pub ends-filter : (p : Binding → Bool) (bs : List Binding) (g j : ℕ) → EndsBy bs g j → EndsBy (filter p bs) g j
ends-filter p [] g j h = tt
ends-filter p (b ∷ bs) g j h = ends_kept (p b) b (filter p bs) g j h.0 (ends-filter p bs g j h.1)

-- without its last layer it ends a layer before
before : (h k f l : ℕ) → 0 < l → (h ≡ f → k ≡ l → ⊥) → IsUpTo h k f l → IsUpTo h k f (l - 1)
before h k f l some ne (inl lt) = inl lt
before h k f l some ne (inr t) = let le = t.1 in let other : k ≢ l = ne t.0 in let less : k ≤ l - 1 = omega (arith, le, other, some) in inr (t.0, less)

before_by : (p q : Bool) (b : Binding) (f l : ℕ) (rest : List Binding) → 0 < l → (p ≡ false → b.frame ≢ f) → (q ≡ false → b.layer ≢ l) → IsUpTo b.frame b.layer f l → EndsBy rest f (l - 1) → EndsBy (cond (not p || not q) (b ∷ rest) rest) f (l - 1)
before_by true true b f l rest some x y u h = h
before_by true false b f l rest some x y u h = (before b.frame b.layer f l some (λ d e. y refl e) u, h)
before_by false q b f l rest some x y u h = (before b.frame b.layer f l some (λ d e. x refl d) u, h)

ends_before : (bs : List Binding) (f l : ℕ) → 0 < l → EndsBy bs f l → EndsBy (without bs f l) f (l - 1)
ends_before [] f l some h = tt
ends_before (b ∷ bs) f l some h =
    before_by (nat_eq b.frame f) (nat_eq b.layer l) b f l (without bs f l) some (eqb-false b.frame f) (eqb-false b.layer l) h.0 (ends_before bs f l some h.1)

abbrev EndsAt : List Binding → Layer → Type 0
EndsAt bs end = EndsBy bs end.frame end.layer

ends_by : (bs : List Binding) (f l : ℕ) (end : Layer) (p q r : Bool) → (p ≡ true → f ≡ end.frame) → (q ≡ true → l ≡ end.layer) → (r ≡ true → 0 < l) → EndsBy bs end.frame end.layer → EndsAt (without bs f l) (cond (p && q && r) (record { frame = f; layer = l - 1 }) end)
ends_by bs f l end true true true a b c h = ends_before bs f l (c refl) (subst (λ (g : ℕ). EndsBy bs g l) (sym (a refl)) (subst (λ (j : ℕ). EndsBy bs end.frame j) (sym (b refl)) h))
ends_by bs f l end true true false a b c h = ends-filter _ bs end.frame end.layer h
ends_by bs f l end true false r a b c h = ends-filter _ bs end.frame end.layer h
ends_by bs f l end false q r a b c h = ends-filter _ bs end.frame end.layer h

pub ends-without : (bs : List Binding) (f l : ℕ) (end : Layer) → EndsBy bs end.frame end.layer → EndsBy (without bs f l) (end_without f l end).frame (end_without f l end).layer
ends-without bs f l end h =
    ends_by bs f l end (nat_eq f end.frame) (nat_eq l end.layer) (nat_lt 0 l) (eqb-true f end.frame) (eqb-true l end.layer) (ltb-true 0 l) h

-- a later end
later : (h k f l g j : ℕ) → IsAfter f l g j → IsUpTo h k g j → IsUpTo h k f l
later h k f l g j (inl x) (inl lt) = inl (omega (arith, x, lt))
later h k f l g j (inl x) (inr t) = let e = t.0 in inl (omega (arith, x, e))
later h k f l g j (inr x) (inl lt) = let e = x.0 in inl (omega (arith, e, lt))
later h k f l g j (inr x) (inr t) = let lt = x.1 in let le = t.1 in let less : k ≤ l = omega (arith, lt, le) in inr (t.0 ∙ sym x.0, less)

ends_later : (bs : List Binding) (f l g j : ℕ) → is_beyond f l g j ≡ true → EndsBy bs g j → EndsBy bs f l
ends_later [] f l g j e h = tt
ends_later (b ∷ bs) f l g j e h = (later b.frame b.layer f l g j (after f l g j e) h.0, ends_later bs f l g j e h.1)

ends_bound : (t : Bool) (b : Binding) (v : Val) (bs rest : List Binding) (g j : ℕ) → EndsBy (b ∷ bs) g j → EndsBy rest g j → EndsBy (if t then record b { value = v } ∷ bs else b ∷ rest) g j
ends_bound true b v bs rest g j h r = h
ends_bound false b v bs rest g j h r = (h.0, r)

ends-with : (bs : List Binding) (f l g j : ℕ) (n : Name) (v : Val) → IsUpTo f l g j → EndsBy bs g j → EndsBy (with_binding bs f l n v) g j
ends-with [] f l g j n v u h = (u, tt)
ends-with (b ∷ bs) f l g j n v u h = ends_bound (is_for f l n b) b v bs (with_binding bs f l n v) g j h (ends-with bs f l g j n v u h.1)

pub same_up_to : (f l : ℕ) → IsUpTo f l f l
same_up_to f l = let le : l ≤ l = omega arith in inr (refl, le)

raised_by : (bs : List Binding) (f l : ℕ) (end : Layer) (t : Bool) → is_beyond f l end.frame end.layer ≡ t → EndsAt bs end → EndsAt bs (cond t (record { frame = f; layer = l }) end)
raised_by bs f l end true e h = ends_later bs f l end.frame end.layer e h
raised_by bs f l end false e h = h

within_by : (f l : ℕ) (end : Layer) (t : Bool) → is_beyond f l end.frame end.layer ≡ t → let x : Layer = cond t (record { frame = f; layer = l }) end in IsUpTo f l x.frame x.layer
within_by f l end true e = same_up_to f l
within_by f l end false e = up_to f l end.frame end.layer e

pub ends-end_with : (bs : List Binding) (f l : ℕ) (end : Layer) → EndsBy bs end.frame end.layer → EndsBy bs (end_with f l end).frame (end_with f l end).layer
ends-end_with bs f l end h = raised_by bs f l end (is_beyond f l end.frame end.layer) refl h

pub ends_put : (bs : List Binding) (f l : ℕ) (end : Layer) (n : Name) (v : Val) → EndsBy bs end.frame end.layer → EndsBy (with_binding bs f l n v) (end_with f l end).frame (end_with f l end).layer
ends_put bs f l end n v h =
    ends-with bs f l (end_with f l end).frame (end_with f l end).layer n v (within_by f l end (is_beyond f l end.frame end.layer) refl) (ends-end_with bs f l end h)

-- what was made of the bindings and of their end
pub ends_of : (bs cs : List Binding) (end last : Layer) → bs ≡ cs → end ≡ last → EndsBy cs last.frame last.layer → EndsBy bs end.frame end.layer
ends_of bs cs end last p q ends =
    subst (λ (x : List Binding). EndsBy x end.frame end.layer) (sym p) (subst (λ (y : Layer). EndsBy cs y.frame y.layer) (sym q) ends)
