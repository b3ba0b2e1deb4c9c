-- Where the bindings of a map stand.
use Rattle.std.proofs.Common.{Result, Ok, Err, OnOk, OnErr, ◌≡◌, ℕ, zero, suc, ◌+◌, ◌-◌, ◌<◌, arith, slice_get, slice_index_or, List, [], ◌∷◌, ◌++◌, Bool, true, false, ◌&&◌, not, cond, if◌then◌else◌, Option, Some, None, refl, sym, ap, ap₂, ◌∙◌, subst, true≢false, append-nil, length}
use Rattle.std.specs.Map.{lookup}
use Rattle.std.proofs.lemmas.Bool.{eqb-true}
use Rattle.std.proofs.lemmas.Map.Text.{is_eq-slice_cmp}
use Rattle.std.proofs.lemmas.Slice.Eq.{bytes_eq-Decides}
use Rattle.std.specs.Prelude.{nat_eq}
use Rattle.std.specs.BTreeMap.{BTreeMap, get, is_at, IsUnchanged, Updates, UpdatesBy}
use Rattle.std.specs.Cmp.{nat_eq_equiv, tied_then, unsigned_tied}
use Rattle.std.specs.Cmp.Lexicographic.{nat_list_eq_equiv}
use Rattle.std.specs.Option.{option_map, option_or, option_to_list}
use Rattle.std.specs.Ordering.{nat_cmp, ordering_then}
use Rattle.std.specs.Str.{bytes_eq}
use Rattle.tera_errors.specs.Site.{Name}
use Rattle.tera_values.specs.Named.{name_cmp}
use Rattle.tera_values.specs.Val.{Val}
use Rattle.tera_state.specs.declared.bindings.Binding.{Binding}
use Rattle.tera_state.specs.declared.bindings.Layer.{Layer}
use Rattle.tera_state.specs.declared.layer_name.LayerName.{LayerName}
use Rattle.tera_state.specs.declared.part.Part.{Part}
use Rattle.tera_state.specs.Bound.{is_for, is_beyond, value_in, with_binding, position_from}
use Rattle.tera_state.specs.BindingMap.{layer_at, rises_from, IsOnce, TellPlaces, IsOrdered, outside, last_layer, goes_on, ends_in}
use Rattle.tera_state.specs.LayerNames.{key, layer_name_cmp}
use Rattle.tera_state.proofs.Cases.{both}
use Rattle.tera_state.proofs.Puts.{at_position}
use Rattle.tera_state.proofs.Rising.{some_or, outside-last, rises-longer, rises-shorter}

abbrev Places : Type 0
Places = BTreeMap LayerName ℕ

abbrev pub key_of : Binding → LayerName
key_of b = key b.frame b.layer b.name

abbrev pub place_of : ℕ → List Binding → Binding → Option ℕ
place_of k bs b = position_from k bs b.frame b.layer b.name

-- a name is tested among the places as among the bindings
grouped : (s t u : Bool) → (s && (t && u)) ≡ ((s && t) && u)
grouped true t u = refl
grouped false t u = refl

pub tested : (q : LayerName) (b : Binding) → is_at (layer_name_cmp (key_of b)) q ≡ is_for q.frame q.layer q.name b
tested q b =
    sym (tied_then (nat_cmp b.frame q.frame) (ordering_then (nat_cmp b.layer q.layer) (name_cmp b.name q.name)))
    ∙ ap₂ (λ (s t : Bool). s && t) (unsigned_tied b.frame q.frame)
    (sym (tied_then (nat_cmp b.layer q.layer) (name_cmp b.name q.name))
    ∙ ap₂ (λ (s t : Bool). s && t) (unsigned_tied b.layer q.layer) (is_eq-slice_cmp b.name q.name ∙ nat_list_eq_equiv.symm b.name q.name))
    ∙ grouped (nat_eq b.frame q.frame) (nat_eq b.layer q.layer) (bytes_eq q.name b.name)

turned : (b c : Binding) → is_for c.frame c.layer c.name b ≡ is_for b.frame b.layer b.name c
turned b c =
    ap₂ (λ (s t : Bool). s && t) (ap₂ (λ (s t : Bool). s && t) (nat_eq_equiv.symm b.frame c.frame) (nat_eq_equiv.symm b.layer c.layer)) (nat_list_eq_equiv.symm c.name b.name)

same-place : (k : ℕ) (bs : List Binding) (f l : ℕ) (n : Name) (b : Binding) → is_for f l n b ≡ true → position_from k bs f l n ≡ place_of k bs b
same-place k bs f l n b t =
    let parts = both (nat_eq b.frame f && nat_eq b.layer l) (bytes_eq n b.name) t in
    let layers = both (nat_eq b.frame f) (nat_eq b.layer l) parts.0 in
    ap₂ (λ (g j : ℕ). position_from k bs g j n) (sym (eqb-true b.frame f layers.0)) (sym (eqb-true b.layer l layers.1))
    ∙ ap (λ (m : Name). position_from k bs b.frame b.layer m) ((bytes_eq-Decides n b.name).0 parts.1)

-- what is found nowhere is found nowhere, from wherever the places are told
anywhere_by : (t : Bool) (k m : ℕ) (o p : Option ℕ) → (if t then Some k else o) ≡ None → (o ≡ None → p ≡ None) → (if t then Some m else p) ≡ None
anywhere_by true k m o p h r = cc
anywhere_by false k m o p h r = r h

anywhere : (k m : ℕ) (bs : List Binding) (f l : ℕ) (n : Name) → position_from k bs f l n ≡ None → position_from m bs f l n ≡ None
anywhere k m [] f l n h = refl
anywhere k m (b ∷ bs) f l n h = anywhere_by (is_for f l n b) k m (position_from (k + 1) bs f l n) (position_from (m + 1) bs f l n) h (anywhere (k + 1) (m + 1) bs f l n)

unfound : (t : Bool) (k : ℕ) (o : Option ℕ) → (if t then Some k else o) ≡ None → (t ≡ false) × (o ≡ None)
unfound true k o h = cc
unfound false k o h = (refl, h)

-- one more at the end
or_none : (o : Option ℕ) → option_or o None ≡ o
or_none None = refl
or_none (Some i) = refl

behind_by : (t : Bool) (k : ℕ) (o p r : Option ℕ) → p ≡ option_or o r → (if t then Some k else p) ≡ option_or (if t then Some k else o) r
behind_by true k o p r h = refl
behind_by false k o p r h = h

behind : (k : ℕ) (bs : List Binding) (b : Binding) (f l : ℕ) (n : Name) → position_from k (bs ++ b ∷ []) f l n ≡ option_or (position_from k bs f l n) (if is_for f l n b then Some (k + length bs) else None)
behind k [] b f l n = let e : k ≡ k + 0 = omega arith in ap (λ (i : ℕ). if is_for f l n b then Some i else None) e
behind k (c ∷ cs) b f l n =
    let e : k + 1 + length cs ≡ k + length (c ∷ cs) = omega arith in
    behind_by (is_for f l n c) k (position_from (k + 1) cs f l n) (position_from (k + 1) (cs ++ b ∷ []) f l n) (if is_for f l n b then Some (k + length (c ∷ cs)) else None)
    (behind (k + 1) cs b f l n ∙ ap (λ (i : ℕ). option_or (position_from (k + 1) cs f l n) (if is_for f l n b then Some i else None)) e)

told_by : (t : Bool) (i : ℕ) (o g : Option ℕ) → g ≡ o → (t ≡ true → o ≡ None) → cond t (Some i) g ≡ option_or o (if t then Some i else None)
told_by true i o g h none = ap (λ (p : Option ℕ). option_or p (Some i)) (sym (none refl))
told_by false i o g h none = h ∙ sym (or_none o)

told : (bs : List Binding) (b : Binding) (old new : Places) → TellPlaces bs old → Updates layer_name_cmp old new (key_of b) (Some (length bs)) → place_of 0 bs b ≡ None → TellPlaces (bs ++ b ∷ []) new
told bs b old new h u none q =
    let t = is_for q.frame q.layer q.name b in
    let z : length bs ≡ 0 + length bs = omega arith in
    u.0 q
    ∙ ap₂ (λ (s : Bool) (i : ℕ). cond s (Some i) (get layer_name_cmp old q)) (tested q b) z
    ∙ told_by t (0 + length bs) (position_from 0 bs q.frame q.layer q.name) (get layer_name_cmp old q) (h q) (λ e. same-place 0 bs q.frame q.layer q.name b e ∙ none)
    ∙ sym (behind 0 bs b q.frame q.layer q.name)

once-longer : (bs : List Binding) (b : Binding) → IsOnce bs → place_of 0 bs b ≡ None → IsOnce (bs ++ b ∷ [])
once-longer [] b h none = (refl, tt)
once-longer (c ∷ cs) b h none =
    let parts = unfound (is_for b.frame b.layer b.name c) 0 (place_of (0 + 1) cs b) none in (
      behind 0 cs b c.frame c.layer c.name
          ∙ ap₂ (λ (o : Option ℕ) (t : Bool). option_or o (if t then Some (0 + length cs) else None)) h.0 (turned b c ∙ parts.0),
      once-longer cs b h.1 (anywhere (0 + 1) 0 cs b.frame b.layer b.name parts.1),
    )

pub ordered-longer : (is_ordered : Bool) (bs : List Binding) (b : Binding) (old new : Places) → (is_ordered ≡ true → IsOrdered bs old) → goes_on is_ordered (last_layer bs) b.frame b.layer ≡ true → place_of 0 bs b ≡ None → Updates layer_name_cmp old new (key_of b) (Some (length bs)) → IsOrdered (bs ++ b ∷ []) new
ordered-longer is_ordered bs b old new h g none u =
    let was = h (ordered_first is_ordered (last_layer bs) b g) in
    (rises-longer is_ordered bs b g (λ t. (h t).0), once-longer bs b was.1 none, told bs b old new was.2 u none)
  where
    ordered_first : (is_ordered : Bool) (o : Option Layer) (b : Binding) → goes_on is_ordered o b.frame b.layer ≡ true → is_ordered ≡ true
    ordered_first is_ordered None b g = g
    ordered_first is_ordered (Some at) b g = (both is_ordered (not (is_beyond at.frame at.layer b.frame b.layer)) g).0

-- the same places, where nothing was put
pub ordered-same : (is_ordered : Bool) (bs cs : List Binding) (old new : Places) → (is_ordered ≡ true → IsOrdered bs old) → cs ≡ bs → IsUnchanged old new → is_ordered ≡ true → IsOrdered cs new
ordered-same is_ordered bs cs old new h e u t =
    let was = h t in
    subst (λ (ds : List Binding). IsOrdered ds new) (sym e)
    (was.0, was.1, λ q. ap (lookup (is_at (layer_name_cmp q))) u ∙ was.2 q)

module _ {E : Type 0} where
  pub ordered-placed : (r : Result (Unit {0}) E) (is_ordered : Bool) (bs cs : List Binding) (b : Binding) (old new : Places) → OnOk r (cs ≡ bs ++ b ∷ []) → OnOk r (Updates layer_name_cmp old new (key_of b) (Some (length bs))) → OnErr r (cs ≡ bs) → OnErr r (IsUnchanged old new) → (is_ordered ≡ true → IsOrdered bs old) → goes_on is_ordered (last_layer bs) b.frame b.layer ≡ true → place_of 0 bs b ≡ None → is_ordered ≡ true → IsOrdered cs new
  ordered-placed (Ok x) is_ordered bs cs b old new e u f v h g none t = subst (λ (ds : List Binding). IsOrdered ds new) (sym e) (ordered-longer is_ordered bs b old new h g none u)
  ordered-placed (Err x) is_ordered bs cs b old new e u f v h g none t = ordered-same is_ordered bs cs old new h f v t

-- one less at the end
untold_by : (t : Bool) (i : ℕ) (o g : Option ℕ) → g ≡ option_or o (if t then Some i else None) → (t ≡ true → o ≡ None) → cond t None g ≡ o
untold_by true i o g h none = sym (none refl)
untold_by false i o g h none = h ∙ or_none o

untold : (bs : List Binding) (b : Binding) (old new : Places) → TellPlaces (bs ++ b ∷ []) old → UpdatesBy layer_name_cmp (layer_name_cmp (key_of b)) old new None → place_of 0 bs b ≡ None → TellPlaces bs new
untold bs b old new h u none q =
    u.0 q
    ∙ ap (λ (s : Bool). cond s None (get layer_name_cmp old q)) (tested q b)
    ∙ untold_by (is_for q.frame q.layer q.name b) (0 + length bs) (position_from 0 bs q.frame q.layer q.name) (get layer_name_cmp old q)
    (h q ∙ behind 0 bs b q.frame q.layer q.name)
    (λ e. same-place 0 bs q.frame q.layer q.name b e ∙ none)

neither : (o : Option ℕ) (t : Bool) (i : ℕ) → option_or o (if t then Some i else None) ≡ None → (o ≡ None) × (t ≡ false)
neither None true i h = cc
neither None false i h = (refl, refl)
neither (Some j) t i h = cc

once-shorter : (bs : List Binding) (b : Binding) → IsOnce (bs ++ b ∷ []) → IsOnce bs × (place_of 0 bs b ≡ None)
once-shorter [] b h = (tt, refl)
once-shorter (c ∷ cs) b h =
    let rest = once-shorter cs b h.1 in
    let apart = neither (place_of 0 cs c) (is_for c.frame c.layer c.name b) (0 + length cs) (sym (behind 0 cs b c.frame c.layer c.name) ∙ h.0) in
    ((apart.0, rest.0), ap₂ (λ (t : Bool) (o : Option ℕ). if t then Some 0 else o) (sym (turned b c) ∙ apart.1) (anywhere 0 (0 + 1) cs b.frame b.layer b.name rest.1))

pub ordered-shorter : (bs cs : List Binding) (b : Binding) (old new : Places) → cs ≡ bs ++ b ∷ [] → IsOrdered cs old → UpdatesBy layer_name_cmp (layer_name_cmp (key_of b)) old new None → IsOrdered bs new
ordered-shorter bs cs b old new e h u =
    let was = subst (λ (ds : List Binding). IsOrdered ds old) e h in
    let once = once-shorter bs b was.1 in
    (rises-shorter bs (b ∷ []) 0 0 was.0, once.0, untold bs b old new was.2 u once.1)

-- another value at a name that is bound
in_place_by : (t : Bool) (k m : ℕ) (b : Binding) (v : Val) (bs more : List Binding) (o : Option ℕ) (i g j : ℕ) (p : Name) → (if t then Some k else o) ≡ Some i → (o ≡ Some i → position_from (m + 1) more g j p ≡ position_from (m + 1) bs g j p) → position_from m (if t then record b { value = v } ∷ bs else b ∷ more) g j p ≡ position_from m (b ∷ bs) g j p
in_place_by true k m b v bs more o i g j p h r = refl
in_place_by false k m b v bs more o i g j p h r = ap (λ (x : Option ℕ). if is_for g j p b then Some m else x) (r h)

in_place : (k m : ℕ) (bs : List Binding) (f l : ℕ) (n : Name) (v : Val) (i g j : ℕ) (p : Name) → position_from k bs f l n ≡ Some i → position_from m (with_binding bs f l n v) g j p ≡ position_from m bs g j p
in_place k m [] f l n v i g j p h = cc
in_place k m (b ∷ bs) f l n v i g j p h =
    in_place_by (is_for f l n b) k m b v bs (with_binding bs f l n v) (position_from (k + 1) bs f l n) i g j p h (in_place (k + 1) (m + 1) bs f l n v i g j p)

once_by : (t : Bool) (k : ℕ) (b : Binding) (v : Val) (bs more : List Binding) (o : Option ℕ) (i : ℕ) → (if t then Some k else o) ≡ Some i → IsOnce (b ∷ bs) → (o ≡ Some i → (place_of 0 more b ≡ place_of 0 bs b) × IsOnce more) → IsOnce (if t then record b { value = v } ∷ bs else b ∷ more)
once_by true k b v bs more o i h once r = once
once_by false k b v bs more o i h once r = let x = r h in (x.0 ∙ once.0, x.1)

once-in_place : (k : ℕ) (bs : List Binding) (f l : ℕ) (n : Name) (v : Val) (i : ℕ) → position_from k bs f l n ≡ Some i → IsOnce bs → IsOnce (with_binding bs f l n v)
once-in_place k [] f l n v i h once = cc
once-in_place k (b ∷ bs) f l n v i h once =
    once_by (is_for f l n b) k b v bs (with_binding bs f l n v) (position_from (k + 1) bs f l n) i h once
    (λ e. (in_place (k + 1) 0 bs f l n v i b.frame b.layer b.name e, once-in_place (k + 1) bs f l n v i e once.1))

rises_by : (t : Bool) (k : ℕ) (b : Binding) (v : Val) (bs more : List Binding) (o : Option ℕ) (i f l : ℕ) → (if t then Some k else o) ≡ Some i → (o ≡ Some i → rises_from b.frame b.layer more ≡ rises_from b.frame b.layer bs) → rises_from f l (if t then record b { value = v } ∷ bs else b ∷ more) ≡ rises_from f l (b ∷ bs)
rises_by true k b v bs more o i f l h r = refl
rises_by false k b v bs more o i f l h r = ap (λ (t : Bool). not (is_beyond f l b.frame b.layer) && t) (r h)

rises-in_place : (k : ℕ) (bs : List Binding) (g j f l : ℕ) (n : Name) (v : Val) (i : ℕ) → position_from k bs f l n ≡ Some i → rises_from g j (with_binding bs f l n v) ≡ rises_from g j bs
rises-in_place k [] g j f l n v i h = cc
rises-in_place k (b ∷ bs) g j f l n v i h =
    rises_by (is_for f l n b) k b v bs (with_binding bs f l n v) (position_from (k + 1) bs f l n) i g j h (rises-in_place (k + 1) bs b.frame b.layer f l n v i)

pub ordered-in_place : (bs cs : List Binding) (f l : ℕ) (n : Name) (v : Val) (i : ℕ) (places : Places) → position_from 0 bs f l n ≡ Some i → cs ≡ with_binding bs f l n v → IsOrdered bs places → IsOrdered cs places
ordered-in_place bs cs f l n v i places h e was =
    subst (λ (ds : List Binding). IsOrdered ds places) (sym e) (
      rises-in_place 0 bs 0 0 f l n v i h ∙ was.0,
      once-in_place 0 bs f l n v i h was.1,
      λ q. was.2 q ∙ sym (in_place 0 0 bs f l n v i q.frame q.layer q.name h),
    )

-- the value at a place
value_zero : (t : Bool) (k : ℕ) (b c : Binding) (o : Option ℕ) (w : Option Val) → (if t then Some k else o) ≡ Some (k + 0) → (o ≡ Some (k + 0) → ⊥) → b ≡ c → Some b.value ≡ (if t then Some c.value else w)
value_zero true k b c o w h gone e = ap (λ (x : Binding). Some x.value) e
value_zero false k b c o w h gone e = absurd (gone h)

value_suc : (t : Bool) (k j : ℕ) (b c : Binding) (o : Option ℕ) (w : Option Val) → (if t then Some k else o) ≡ Some (k + suc j) → (o ≡ Some (k + suc j) → Some b.value ≡ w) → Some b.value ≡ (if t then Some c.value else w)
value_suc true k j b c o w h r = let e : k ≡ k + suc j = cc in absurd (omega (arith, e))
value_suc false k j b c o w h r = r h

pub value-at : (k j : ℕ) (bs : List Binding) (f l : ℕ) (n : Name) (b : Binding) → position_from k bs f l n ≡ Some (k + j) → b ≡ slice_index_or bs j b → Some b.value ≡ value_in bs f l n
value-at k j [] f l n b h e = cc
value-at k zero (c ∷ cs) f l n b h e =
    value_zero (is_for f l n c) k b c (position_from (k + 1) cs f l n) (value_in cs f l n) h (λ g. let x = at_position (k + 1) cs f l n (k + 0) g in omega (arith, x.0)) e
value-at k (suc j) (c ∷ cs) f l n b h e =
    value_suc (is_for f l n c) k j b c (position_from (k + 1) cs f l n) (value_in cs f l n) h
    (λ g. let m : k + suc j ≡ k + 1 + j = omega arith in value-at (k + 1) j cs f l n b (g ∙ ap Some m) e)

no_value_by : (t : Bool) (k : ℕ) (v : Val) (o : Option ℕ) (w : Option Val) → (if t then Some k else o) ≡ None → (o ≡ None → None ≡ w) → None ≡ (if t then Some v else w)
no_value_by true k v o w h r = cc
no_value_by false k v o w h r = r h

pub no-value : (k : ℕ) (bs : List Binding) (f l : ℕ) (n : Name) → position_from k bs f l n ≡ None → None ≡ value_in bs f l n
no-value k [] f l n h = refl
no-value k (b ∷ bs) f l n h = no_value_by (is_for f l n b) k b.value (position_from (k + 1) bs f l n) (value_in bs f l n) h (no-value (k + 1) bs f l n)

-- the last one is taken out
pub popped : (p : Part) (r : Option Binding) (old new : List Binding) → old ≡ new ++ option_to_list r → ends_in p (last_layer old) ≡ true → outside p new ≡ outside p old
popped p None old new e h = ap (outside p) (sym (e ∙ append-nil new))
popped p (Some b) old new e h =
    outside-last p new b (ap (λ (bs : List Binding). ends_in p (last_layer bs)) (sym e) ∙ h) ∙ ap (outside p) (sym e)

-- something ends in a part
pub some_left : (p : Part) (bs : List Binding) → ends_in p (last_layer bs) ≡ true → 0 < length bs
some_left p [] h = absurd (true≢false (sym h))
some_left p (b ∷ bs) h = omega arith

-- the layer of the last binding
last_got : (b : Binding) (bs : List Binding) → option_map layer_at (slice_get (b ∷ bs) (length (b ∷ bs) - 1)) ≡ last_layer (b ∷ bs)
last_got b [] = refl
last_got b (c ∷ cs) =
    let m : length (b ∷ c ∷ cs) - 1 ≡ suc (length (c ∷ cs) - 1) = omega arith in
    ap (λ (k : ℕ). option_map layer_at (slice_get (b ∷ c ∷ cs) k)) m
    ∙ last_got c cs
    ∙ sym (some_or (last_layer cs) (layer_at c) (Some (layer_at b)))

pub last-is : (bs : List Binding) → option_map layer_at (slice_get bs (length bs - 1)) ≡ last_layer bs
last-is [] = refl
last-is (b ∷ bs) = last_got b bs
