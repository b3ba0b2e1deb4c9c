-- Bindings whose layers are alike.
use Rattle.std.proofs.Common.{◌≡◌, ◌≢◌, ◌⊎◌, inl, inr, ℕ, List, [], ◌∷◌, ◌++◌, Bool, true, false, cond, Option, Some, None, refl, sym, ap, ap₂, ◌∙◌, subst, true≢false, append-nil, filter, Result, Ok, Err, OnOk, OnErr, if◌then◌else◌}
use Rattle.std.proofs.lemmas.Bool.{eqb-true, eqb-false}
use Rattle.std.specs.Prelude.{nat_eq}
use Rattle.std.specs.Option.{option_or}
use Rattle.tera_errors.specs.Site.{Name}
use Rattle.tera_values.specs.Val.{Val}
use Rattle.tera_values.specs.Named.{at_name}
use Rattle.tera_state.specs.Scope.{Bindings, bind}
use Rattle.tera_state.specs.Bound.{value_in, with_binding, layer_of, is_beyond, EndsBy, AreAlike}
use Rattle.tera_state.specs.BindingMap.{AreApart}
use Rattle.tera_state.specs.declared.bindings.Binding.{Binding}
use Rattle.tera_state.proofs.Cases.{either}
use Rattle.tera_state.proofs.Ends.{up_to, none_beyond}
use Rattle.tera_state.proofs.Layers.{in_layer, in_own, skipped, value-is, bind_there, bind_other}
use Rattle.tera_state.proofs.Parts.{layer-append, value-append}

pub alike_same : (bs cs : List Binding) → bs ≡ cs → AreAlike bs cs
alike_same bs cs e f l = ap (λ (xs : List Binding). layer_of xs f l) e

pub alike_behind : (xs ys zs : List Binding) → AreAlike ys zs → AreAlike (xs ++ ys) (xs ++ zs)
alike_behind xs ys zs h f l =
    layer-append xs ys f l
    ∙ ap (λ (us : Bindings). layer_of xs f l ++ us) (h f l)
    ∙ sym (layer-append xs zs f l)

-- they end where the others do
some_bound : (t : Bool) (b : Name × Val) (us : Bindings) → t ≡ true → (if t then b ∷ us else us) ≡ [] → ⊥
some_bound true b us e h = cc
some_bound false b us e h = true≢false (sym e)

rest_none : (t : Bool) (b : Name × Val) (us : Bindings) → (if t then b ∷ us else us) ≡ [] → us ≡ []
rest_none true b us h = cc
rest_none false b us h = h

ends_where_none : (bs : List Binding) (g j : ℕ) → ((f l : ℕ) → is_beyond f l g j ≡ true → layer_of bs f l ≡ []) → EndsBy bs g j
ends_where_none [] g j h = tt
ends_where_none (b ∷ bs) g j h = (
  either (is_beyond b.frame b.layer g j)
      (λ t. absurd (some_bound (in_layer b.frame b.layer b) (b.name, b.value) (layer_of bs b.frame b.layer) (in_own b) (h b.frame b.layer t)))
      (up_to b.frame b.layer g j),
  ends_where_none bs g j (λ f l t. rest_none (in_layer f l b) (b.name, b.value) (layer_of bs f l) (h f l t)),
)

pub ends-alike : (bs cs : List Binding) (g j : ℕ) → AreAlike bs cs → EndsBy cs g j → EndsBy bs g j
ends-alike bs cs g j same h = ends_where_none bs g j (λ f l t. same f l ∙ none_beyond cs f l g j h t)

-- a binding in one of two parts, where the other binds nothing of its layer
by_layer : {P : Type 0} (f l g j : ℕ) → (g ≡ f → j ≡ l → P) → ((g ≢ f) ⊎ (j ≢ l) → P) → P
by_layer f l g j there other =
    either (nat_eq g f)
    (λ p. either (nat_eq j l) (λ q. there (eqb-true g f p) (eqb-true j l q)) (λ q. other (inr (eqb-false j l q))))
    (λ p. other (inl (eqb-false g f p)))

module _ (xs ys : List Binding) (f l : ℕ) (n : Name) (v : Val) where
  abbrev whole : List Binding
  whole = with_binding (xs ++ ys) f l n v

  in_both : (g j : ℕ) → (g ≢ f) ⊎ (j ≢ l) → layer_of xs g j ++ layer_of ys g j ≡ layer_of whole g j
  in_both g j ne = sym (layer-append xs ys g j) ∙ sym (bind_other (xs ++ ys) f l g j n v ne)

  of_both : bind n v (layer_of xs f l ++ layer_of ys f l) ≡ layer_of whole f l
  of_both = ap (bind n v) (sym (layer-append xs ys f l)) ∙ sym (bind_there (xs ++ ys) f l n v)

  first_there : layer_of ys f l ≡ [] → layer_of (with_binding xs f l n v) f l ++ layer_of ys f l ≡ layer_of whole f l
  first_there none =
      ap₂ (λ (us ws : Bindings). us ++ ws) (bind_there xs f l n v) none
      ∙ append-nil (bind n v (layer_of xs f l))
      ∙ ap (bind n v) (sym (ap (λ (ws : Bindings). layer_of xs f l ++ ws) none ∙ append-nil (layer_of xs f l)))
      ∙ of_both

  second_there : layer_of xs f l ≡ [] → layer_of xs f l ++ layer_of (with_binding ys f l n v) f l ≡ layer_of whole f l
  second_there none =
      ap₂ (λ (us ws : Bindings). us ++ ws) none (bind_there ys f l n v)
      ∙ ap (λ (us : Bindings). bind n v (us ++ layer_of ys f l)) (sym none)
      ∙ of_both

  pub with_in_first : layer_of ys f l ≡ [] → AreAlike (with_binding xs f l n v ++ ys) (with_binding (xs ++ ys) f l n v)
  with_in_first none g j =
      layer-append (with_binding xs f l n v) ys g j
      ∙ by_layer f l g j
      (λ p q. subst (λ (h : ℕ). layer_of (with_binding xs f l n v) h j ++ layer_of ys h j ≡ layer_of whole h j) (sym p) (subst (λ (k : ℕ). layer_of (with_binding xs f l n v) f k ++ layer_of ys f k ≡ layer_of whole f k) (sym q) (first_there none)))
      (λ ne. ap (λ (us : Bindings). us ++ layer_of ys g j) (bind_other xs f l g j n v ne) ∙ in_both g j ne)

  pub with_in_second : layer_of xs f l ≡ [] → AreAlike (xs ++ with_binding ys f l n v) (with_binding (xs ++ ys) f l n v)
  with_in_second none g j =
      layer-append xs (with_binding ys f l n v) g j
      ∙ by_layer f l g j
      (λ p q. subst (λ (h : ℕ). layer_of xs h j ++ layer_of (with_binding ys f l n v) h j ≡ layer_of whole h j) (sym p) (subst (λ (k : ℕ). layer_of xs f k ++ layer_of (with_binding ys f l n v) f k ≡ layer_of whole f k) (sym q) (second_there none)))
      (λ ne. ap (λ (us : Bindings). layer_of xs g j ++ us) (bind_other ys f l g j n v ne) ∙ in_both g j ne)

-- a value in one of two parts
no_value : (bs : List Binding) (f l : ℕ) (n : Name) → layer_of bs f l ≡ [] → value_in bs f l n ≡ None
no_value bs f l n none = value-is bs f l n ∙ ap (at_name n) none

or_none : (o : Option Val) → option_or o None ≡ o
or_none None = refl
or_none (Some v) = refl

module _ (xs ys : List Binding) (f l : ℕ) where
  pub first_value : (n : Name) → layer_of ys f l ≡ [] → value_in xs f l n ≡ value_in (xs ++ ys) f l n
  first_value n none =
      sym (value-append xs ys f l n ∙ ap (λ (o : Option Val). option_or (value_in xs f l n) o) (no_value ys f l n none) ∙ or_none (value_in xs f l n))

  pub second_value : (n : Name) → layer_of xs f l ≡ [] → value_in ys f l n ≡ value_in (xs ++ ys) f l n
  second_value n none =
      sym (value-append xs ys f l n ∙ ap (λ (o : Option Val). option_or o (value_in ys f l n)) (no_value xs f l n none))

  pub first_layer : layer_of ys f l ≡ [] → layer_of xs f l ≡ layer_of (xs ++ ys) f l
  first_layer none = sym (layer-append xs ys f l ∙ ap (λ (us : Bindings). layer_of xs f l ++ us) none ∙ append-nil (layer_of xs f l))

  pub second_layer : layer_of xs f l ≡ [] → layer_of ys f l ≡ layer_of (xs ++ ys) f l
  second_layer none = sym (layer-append xs ys f l ∙ ap (λ (us : Bindings). us ++ layer_of ys f l) none)

-- bodies and turns stay apart
pub apart_with_first : (xs ys : List Binding) (f l : ℕ) (n : Name) (v : Val) → l ≡ 0 → AreApart xs ys → AreApart (with_binding xs f l n v) ys
apart_with_first xs ys f l n v p h = (λ g j ne. bind_other xs f l g j n v (inr (λ e. ne (e ∙ p))) ∙ h.0 g j ne, h.1)

pub apart_with_second : (xs ys : List Binding) (f l : ℕ) (n : Name) (v : Val) → l ≢ 0 → AreApart xs ys → AreApart xs (with_binding ys f l n v)
apart_with_second xs ys f l n v ne h = (h.0, λ g. bind_other ys f l g 0 n v (inr (λ e. ne (sym e))) ∙ h.1 g)

pub apart_same : (xs xs' ys ys' : List Binding) → xs ≡ xs' → ys ≡ ys' → AreApart xs' ys' → AreApart xs ys
apart_same xs xs' ys ys' p q h = (λ f l ne. ap (λ (bs : List Binding). layer_of bs f l) p ∙ h.0 f l ne, λ f. ap (λ (bs : List Binding). layer_of bs f 0) q ∙ h.1 f)

module _ {E : Type 0} where
  pub apart_put_first : (xs new ys : List Binding) (f l : ℕ) (n : Name) (v : Val) (r : Result (Unit {0}) E) → l ≡ 0 → AreApart xs ys → OnOk r (new ≡ with_binding xs f l n v) → OnErr r (new ≡ xs) → AreApart new ys
  apart_put_first xs new ys f l n v (Ok x) p h e g = apart_same new (with_binding xs f l n v) ys ys e refl (apart_with_first xs ys f l n v p h)
  apart_put_first xs new ys f l n v (Err x) p h e g = apart_same new xs ys ys g refl h

  pub apart_put_second : (xs ys new : List Binding) (f l : ℕ) (n : Name) (v : Val) (r : Result (Unit {0}) E) → l ≢ 0 → AreApart xs ys → OnOk r (new ≡ with_binding ys f l n v) → OnErr r (new ≡ ys) → AreApart xs new
  apart_put_second xs ys new f l n v (Ok x) ne h e g = apart_same xs xs new (with_binding ys f l n v) refl e (apart_with_second xs ys f l n v ne h)
  apart_put_second xs ys new f l n v (Err x) ne h e g = apart_same xs xs new ys refl g h

none_kept : (t s : Bool) (b : Binding) (bs rest : List Binding) (f l : ℕ) → layer_of (b ∷ bs) f l ≡ [] → layer_of rest f l ≡ [] → in_layer f l b ≡ s → layer_of (cond t (b ∷ rest) rest) f l ≡ []
none_kept false s b bs rest f l h r e = r
none_kept true true b bs rest f l h r e = absurd (some_bound (in_layer f l b) (b.name, b.value) (layer_of bs f l) e h)
none_kept true false b bs rest f l h r e = skipped b rest f l e ∙ r

none_filtered : (p : Binding → Bool) (bs : List Binding) (f l : ℕ) → layer_of bs f l ≡ [] → layer_of (filter p bs) f l ≡ []
none_filtered p [] f l h = refl
none_filtered p (b ∷ bs) f l h =
    none_kept (p b) (in_layer f l b) b bs (filter p bs) f l h (none_filtered p bs f l (rest_none (in_layer f l b) (b.name, b.value) (layer_of bs f l) h)) refl

pub apart_filtered : (p : Binding → Bool) (xs ys : List Binding) → AreApart xs ys → AreApart (filter p xs) (filter p ys)
apart_filtered p xs ys h = (λ f l ne. none_filtered p xs f l (h.0 f l ne), λ f. none_filtered p ys f 0 (h.1 f))
