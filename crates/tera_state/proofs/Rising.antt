-- Bindings that rise, and what stands at their end.
use Rattle.std.proofs.Common.{◌≡◌, inl, inr, ℕ, ◌≤◌, List, [], ◌∷◌, ◌++◌, Bool, true, false, ◌&&◌, not, cond, Option, Some, None, refl, sym, ap, ap₂, ◌∙◌, subst, true≢false, arith, append-nil}
use Rattle.std.proofs.lemmas.Bool.{ltb-true, le-ltb}
use Rattle.std.proofs.lemmas.List.Elements.{filter-append}
use Rattle.std.specs.Prelude.{nat_eq, ◌||◌}
use Rattle.std.specs.Option.{option_or}
use Rattle.tera_state.specs.declared.bindings.Binding.{Binding}
use Rattle.tera_state.specs.declared.bindings.Layer.{Layer}
use Rattle.tera_state.specs.declared.part.Part.{Part}
use Rattle.tera_state.specs.declared.part.Part.TheVariants as part
use Rattle.tera_state.specs.Bound.{is_beyond, IsUpTo, EndsBy}
use Rattle.tera_state.specs.BindingMap.{layer_at, rises_from, is_outside, comes_after, outside, last_layer, goes_on, ends_before, ends_in}
use Rattle.tera_state.proofs.Cases.{both}
use Rattle.tera_state.proofs.Ends.{up_to, same_up_to, without_after, without_frame_after}

turned : (p : Bool) → not p ≡ true → p ≡ false
turned true e = absurd (true≢false (sym e))
turned false e = refl

pub some_or : {A : Type 0} (o : Option A) (x : A) (y : Option A) → option_or (option_or o (Some x)) y ≡ option_or o (Some x)
some_or None x y = refl
some_or (Some z) x y = refl

-- the last binding
pub last-append : (cs : List Binding) (b : Binding) → last_layer (cs ++ b ∷ []) ≡ Some (layer_at b)
last-append [] b = refl
last-append (c ∷ cs) b = ap (λ (o : Option Layer). option_or o (Some (layer_at c))) (last-append cs b)

abbrev goes_beyond : Option Layer → Binding → Bool
goes_beyond None b = false
goes_beyond (Some l) b = is_beyond l.frame l.layer b.frame b.layer

-- one more at the end
longer : (bs : List Binding) (f l : ℕ) (b : Binding) → rises_from f l bs ≡ true → goes_beyond (option_or (last_layer bs) (Some (record { frame = f; layer = l }))) b ≡ false → rises_from f l (bs ++ b ∷ []) ≡ true
longer [] f l b h e = ap (λ (t : Bool). not t && true) e
longer (c ∷ cs) f l b h e =
    let parts = both (not (is_beyond f l c.frame c.layer)) (rises_from c.frame c.layer cs) h in
    ap₂ (λ (s t : Bool). s && t) parts.0
    (longer cs c.frame c.layer b parts.1 (ap (λ (o : Option Layer). goes_beyond o b) (sym (some_or (last_layer cs) (layer_at c) (Some (record { frame = f; layer = l })))) ∙ e))

none_lower : (f l : ℕ) → is_beyond 0 0 f l ≡ false
none_lower f l =
    let zero_le : 0 ≤ f = omega arith in
    let also : 0 ≤ l = omega arith in
    ap₂ (λ (s t : Bool). s || (nat_eq 0 f && t)) (le-ltb f 0 zero_le) (le-ltb l 0 also) ∙ neither (nat_eq 0 f)
  where
    neither : (t : Bool) → (false || (t && false)) ≡ false
    neither true = refl
    neither false = refl

on_by : (o : Option Layer) (rises : Bool) (bs : List Binding) (b : Binding) → last_layer bs ≡ o → goes_on rises o b.frame b.layer ≡ true → (rises ≡ true → rises_from 0 0 bs ≡ true) → rises_from 0 0 (bs ++ b ∷ []) ≡ true
on_by None rises [] b e g h = ap (λ (t : Bool). not t && true) (none_lower b.frame b.layer)
on_by None rises (c ∷ cs) b e g h = absurd (some_last (last_layer cs) (layer_at c) e)
  where
    some_last : (o : Option Layer) (x : Layer) → option_or o (Some x) ≡ None → ⊥
    some_last None x e = cc
    some_last (Some y) x e = cc
on_by (Some l) rises bs b e g h =
    let parts = both rises (not (is_beyond l.frame l.layer b.frame b.layer)) g in
    longer bs 0 0 b (h parts.0) (ap (λ (o : Option Layer). goes_beyond (option_or o (Some (record { frame = 0; layer = 0 }))) b) e ∙ turned (is_beyond l.frame l.layer b.frame b.layer) parts.1)

pub rises-longer : (rises : Bool) (bs : List Binding) (b : Binding) → goes_on rises (last_layer bs) b.frame b.layer ≡ true → (rises ≡ true → rises_from 0 0 bs ≡ true) → rises_from 0 0 (bs ++ b ∷ []) ≡ true
rises-longer rises bs b = on_by (last_layer bs) rises bs b refl

-- fewer at the end
pub rises-shorter : (cs ds : List Binding) (f l : ℕ) → rises_from f l (cs ++ ds) ≡ true → rises_from f l cs ≡ true
rises-shorter [] ds f l h = refl
rises-shorter (c ∷ cs) ds f l h =
    let parts = both (not (is_beyond f l c.frame c.layer)) (rises_from c.frame c.layer (cs ++ ds)) h in
    ap₂ (λ (s t : Bool). s && t) parts.0 (rises-shorter cs ds c.frame c.layer parts.1)

-- where they rise they end by the last
through : (f l g j h k : ℕ) → IsUpTo f l g j → IsUpTo g j h k → IsUpTo f l h k
through f l g j h k (inl x) (inl y) = inl (omega (arith, x, y))
through f l g j h k (inl x) (inr y) = let e = y.0 in inl (omega (arith, x, e))
through f l g j h k (inr x) (inl y) = let e = x.0 in inl (omega (arith, e, y))
through f l g j h k (inr x) (inr y) = let a = x.1 in let b = y.1 in let le : l ≤ k = omega (arith, a, b) in inr (x.0 ∙ y.0, le)

ends_last : (bs : List Binding) (f l : ℕ) (z : Layer) → rises_from f l bs ≡ true → last_layer bs ≡ Some z → EndsBy bs z.frame z.layer
ends_last [] f l z h e = tt
ends_last (b ∷ []) f l z h e =
    let same : layer_at b ≡ z = cc in
    (subst (λ (y : Layer). IsUpTo b.frame b.layer y.frame y.layer) same (same_up_to b.frame b.layer), tt)
ends_last (b ∷ c ∷ cs) f l z h e =
    let parts = both (not (is_beyond f l b.frame b.layer)) (rises_from b.frame b.layer (c ∷ cs)) h in
    let next = both (not (is_beyond b.frame b.layer c.frame c.layer)) (rises_from c.frame c.layer cs) parts.1 in
    let rest = ends_last (c ∷ cs) b.frame b.layer z parts.1 (sym (some_or (last_layer cs) (layer_at c) (Some (layer_at b))) ∙ e) in
    (through b.frame b.layer c.frame c.layer z.frame z.layer (up_to b.frame b.layer c.frame c.layer (turned (is_beyond b.frame b.layer c.frame c.layer) next.0)) rest.0, rest)

after_all : (p : Part) (bs : List Binding) (z : Layer) → EndsBy bs z.frame z.layer → comes_after p z.frame z.layer ≡ true → outside p bs ≡ bs
after_all (part.Layer at) bs z h e = without_after bs at.frame at.layer z.frame z.layer h e
after_all (part.Frame frame) bs z h e = without_frame_after bs frame z.frame z.layer h (ltb-true z.frame frame e)

before_by : (o : Option Layer) (rises : Bool) (p : Part) (bs : List Binding) → last_layer bs ≡ o → ends_before rises p o ≡ true → (rises ≡ true → rises_from 0 0 bs ≡ true) → outside p bs ≡ bs
before_by None rises p [] e g h = refl
before_by None rises p (c ∷ cs) e g h = absurd (some_last (last_layer cs) (layer_at c) e)
  where
    some_last : (o : Option Layer) (x : Layer) → option_or o (Some x) ≡ None → ⊥
    some_last None x e = cc
    some_last (Some y) x e = cc
before_by (Some l) rises p bs e g h =
    let parts = both rises (comes_after p l.frame l.layer) g in
    after_all p bs l (ends_last bs 0 0 l (h parts.0) e) parts.1

pub outside-before : (rises : Bool) (p : Part) (bs : List Binding) → ends_before rises p (last_layer bs) ≡ true → (rises ≡ true → rises_from 0 0 bs ≡ true) → outside p bs ≡ bs
outside-before rises p bs = before_by (last_layer bs) rises p bs refl

-- the last one is out
out_by : (t : Bool) (b : Binding) (xs : List Binding) → not t ≡ true → xs ++ cond t (b ∷ []) [] ≡ xs
out_by true b xs e = absurd (true≢false (sym e))
out_by false b xs e = append-nil xs

pub outside-last : (p : Part) (cs : List Binding) (b : Binding) → ends_in p (last_layer (cs ++ b ∷ [])) ≡ true → outside p cs ≡ outside p (cs ++ b ∷ [])
outside-last p cs b e =
    let out : not (is_outside p b.frame b.layer) ≡ true = ap (ends_in p) (sym (last-append cs b)) ∙ e in
    sym (filter-append (λ (x : Binding). is_outside p x.frame x.layer) cs (b ∷ []) ∙ out_by (is_outside p b.frame b.layer) b (outside p cs) out)
