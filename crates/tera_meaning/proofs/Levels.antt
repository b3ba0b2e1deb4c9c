-- Each body that is taken stands lower, so the count of levels does not matter.
use Rattle.std.proofs.Common.{◌≡◌, ℕ, zero, suc, ◌+◌, ◌-◌, ◌*◌, ◌<◌, ◌≤◌, Bool, true, false, cond, ◌||◌, List, [], ◌∷◌, ◌++◌, length, nat_lt, Option, Some, None, refl, sym, ap, ◌∙◌, arith, true≢false, ◌⊎◌, inl, inr, ⊎_elim, mul-le-mul_right, suc-mul}
use Rattle.std.specs.Prelude.{filter_map, flat_map, map, bytes_eq, Result, Ok, Err}
use Rattle.std.specs.Option.{option_or}
use Rattle.std.specs.List.{cons_option}
use Rattle.std.proofs.lemmas.Slice.Eq.{bytes_eq-Decides}
use Rattle.std.proofs.lemmas.Option.{none-some}
use Rattle.std.proofs.lemmas.Bool.{ltb-true}
use Rattle.std.proofs.lemmas.List.{length-map}
use mathlib.Core.Path.{fun_ext}
use Rattle.tera_errors.specs.Site.{Name}
use Rattle.tera_errors.specs.Fault.{Fault, message}
use Rattle.tera_syntax_tree.specs.Tree.{Nodes}
use Rattle.tera_syntax_tree.specs.Blocks.{blocks, block_names, is_among}
use Rattle.tera_values.specs.Alphabet.{Alphabet, plain}
use Rattle.tera_values.specs.Named.{Named}
use Rattle.tera_values.specs.Val.{ValOf}
use Rattle.tera_state.specs.Scope.{VariablesOf, in_component, look_implicit, nothing_set}
use Rattle.tera_components.specs.Context.{component_context_in}
use Rattle.tera_meaning.specs.Components.{Component}
use Rattle.tera_meaning.specs.Run.{RequestOf, ABlock, Above, AnInclude, AComponent, OracleOf}
use Rattle.tera_meaning.specs.Registry.{Template, Entry, Registry}
use Rattle.tera_meaning.specs.Resolve.{entry_at, first_there, resolve, onto, or_missing, up, or_none}
use Rattle.tera_meaning.specs.Lineage.{Definer, definer_in, ancestors, definers_in, definers_from, definers}
use Rattle.tera_meaning.specs.Whole.{World, PlaceOf, WayOf, Refuses, Takes, takes_definer, place_of_include, takes_template, max_depth, place_of_component, takes_context, takes_component, component_at, fault_in, way_in, ends, not_among, names, all_blocks, rank, FamilyOf, body_meaning_in, along, level, levels, whole_in, MeaningUnrolls}

-- lower in the first number, or in the second
lower_first : (a a' b b' m : ℕ) → a' < a → b' < m → a' * m + b' < a * m + b
lower_first a a' b b' m l h =
    let e : suc a' * m ≤ a * m = mul-le-mul_right m l in
    let f : suc a' * m ≡ a' * m + m = suc-mul a' m in
    omega arith

or_of : (b c : Bool) → (b || c) ≡ true → (b ≡ true) ⊎ (c ≡ true)
or_of true c e = inl refl
or_of false c e = inr e

or_left : (b c : Bool) → b ≡ true → (b || c) ≡ true
or_left b c e = ap (λ x. x || c) e

or_right : (b c : Bool) → c ≡ true → (b || c) ≡ true
or_right true c e = refl
or_right false c e = e

-- Names that are not among others.

abbrev one_if_not : Bool → ℕ
one_if_not b = cond b 0 1

one_le : (b c : Bool) → one_if_not (b || c) ≤ one_if_not c
one_le true true = omega arith
one_le true false = omega arith
one_le false true = omega arith
one_le false false = omega arith

one_bound : (b : Bool) → one_if_not b ≤ 1
one_bound true = omega arith
one_bound false = omega arith

left_le : (n : Name) (ns taken : List Name) → not_among ns (n ∷ taken) ≤ not_among ns taken
left_le n [] taken = omega arith
left_le n (m ∷ ns) taken = omega (arith, one_le (bytes_eq m n) (is_among m taken), left_le n ns taken)

-- no more are left than there are
left_bound : (ns taken : List Name) → not_among ns taken ≤ length ns
left_bound [] taken = omega arith
left_bound (n ∷ ns) taken = omega (arith, one_bound (is_among n taken), left_bound ns taken)

-- one more name is taken, and one fewer is left
left_less : (n : Name) (ns taken : List Name) → is_among n ns ≡ true → is_among n taken ≡ false → not_among ns (n ∷ taken) < not_among ns taken
left_less n [] taken e f = absurd (true≢false (sym e))
left_less n (m ∷ ns) taken e f =
    ⊎_elim
    (λ same.
    let is : n ≡ m = (bytes_eq-Decides n m).0 same in
    let self : bytes_eq m n ≡ true = (bytes_eq-Decides m n).1 (sym is) in
    let now : one_if_not (bytes_eq m n || is_among m taken) ≡ 0 = ap (λ b. one_if_not (b || is_among m taken)) self in
    let was : one_if_not (is_among m taken) ≡ 1 = ap one_if_not (ap (λ k. is_among k taken) (sym is) ∙ f) in
    omega (arith, now, was, left_le n ns taken))
    (λ rest. omega (arith, one_le (bytes_eq m n) (is_among m taken), left_less n ns taken rest f))
    (or_of (bytes_eq n m) (is_among n ns) e)

-- Which templates are there.

abbrev IsThere : Entry → Named Template → Type 0
IsThere t [] = ⊥
IsThere t (u ∷ us) = (t ≡ u) ⊎ IsThere t us

abbrev or_entry : Entry → Option Entry → Entry
or_entry u None = u
or_entry u (Some t) = t

found_there : (n : Name) (ts : Named Template) (t : Entry) → entry_at n ts ≡ Some t → IsThere t ts
found_there n [] t e = absurd (none-some _ e)
found_there n (u ∷ ts) t e = by (λ is. found_there n ts t is) (bytes_eq n u.0) refl
  where
    by : (entry_at n ts ≡ Some t → IsThere t ts) → (b : Bool) → bytes_eq n u.0 ≡ b → (t ≡ u) ⊎ IsThere t ts
    by ih true h = let is : Some u ≡ Some t = rw h at e in inl (sym (ap (or_entry u) is))
    by ih false h = let is : entry_at n ts ≡ Some t = rw h at e in inr (ih is)

or_there : (ts : Named Template) (o q : Option Entry) (t : Entry) → ((t : Entry) → o ≡ Some t → IsThere t ts) → ((t : Entry) → q ≡ Some t → IsThere t ts) → option_or o q ≡ Some t → IsThere t ts
or_there ts None q t h k e = k t e
or_there ts (Some u) q t h k e = h t e

first_is_there : (ts : Named Template) (ns : List Name) (t : Entry) → first_there ts ns ≡ Some t → IsThere t ts
first_is_there ts [] t e = absurd (none-some _ e)
first_is_there ts (n ∷ ns) t e =
    or_there ts (entry_at n ts) (first_there ts ns) t (λ u f. found_there n ts u f) (λ u f. first_is_there ts ns u f) e

-- what a name resolves to is there
resolved_there : (r : Registry) (n : Name) (t : Entry) → resolve r n ≡ Some t → IsThere t r.templates
resolved_there r n t e = first_is_there r.templates (n ∷ map (λ p. p ++ n) r.prefixes) t e

-- and so is its name among those of the templates
among_names : (t : Entry) (ts : Named Template) → IsThere t ts → is_among t.0 (names ts) ≡ true
among_names t [] h = absurd h
among_names t (u ∷ ts) (inl is) =
    let same : t.0 ≡ u.0 = ap (λ x. x.0) is in
    or_left (bytes_eq t.0 u.0) _ ((bytes_eq-Decides t.0 u.0).1 same)
among_names t (u ∷ ts) (inr h) = or_right (bytes_eq t.0 u.0) _ (among_names t ts h)

abbrev AllThere : List Entry → Named Template → Type 0
AllThere [] us = Unit {0}
AllThere (t ∷ ts) us = IsThere t us × AllThere ts us

onto_there : (us : Named Template) (t : Entry) (x : Result (List Entry) Fault) → IsThere t us → AllThere (or_none x) us → AllThere (or_none (onto t x)) us
onto_there us t (Ok ts) h k = (h, k)
onto_there us t (Err f) h k = tt

up_there : (r : Registry) (n : ℕ) (o : Option Name) → AllThere (or_none (up (resolve r) n o)) r.templates
up_there r zero None = tt
up_there r (suc n) None = tt
up_there r zero (Some name) = tt
up_there r (suc n) (Some name) = by (λ t. up_there r n t.1.tree.parent) (resolve r name) refl
  where
    by : ((t : Entry) → AllThere (or_none (up (resolve r) n t.1.tree.parent)) r.templates) → (o : Option Entry) → resolve r name ≡ o → AllThere (or_none (or_missing o (λ t. onto t (up (resolve r) n t.1.tree.parent)))) r.templates
    by ih None e = tt
    by ih (Some t) e = onto_there r.templates t (up (resolve r) n t.1.tree.parent) (resolved_there r name t e) (ih t)

onto_bound : (n : ℕ) (t : Entry) (x : Result (List Entry) Fault) → length (or_none x) ≤ n → length (or_none (onto t x)) ≤ suc n
onto_bound n t (Ok ts) h = omega (arith, h)
onto_bound n t (Err f) h = omega arith

up_bound : (find : Name → Option Entry) (n : ℕ) (o : Option Name) → length (or_none (up find n o)) ≤ n
up_bound find zero None = omega arith
up_bound find (suc n) None = omega arith
up_bound find zero (Some name) = omega arith
up_bound find (suc n) (Some name) = by (λ t. up_bound find n t.1.tree.parent) (find name)
  where
    by : ((t : Entry) → length (or_none (up find n t.1.tree.parent)) ≤ n) → (o : Option Entry) → length (or_none (or_missing o (λ t. onto t (up find n t.1.tree.parent)))) ≤ suc n
    by ih None = omega arith
    by ih (Some t) = onto_bound n t (up find n t.1.tree.parent) (ih t)

-- Who defines a block.

cons_bound : {A : Type 0} (o : Option A) (xs : List A) → length (cons_option o xs) ≤ suc (length xs)
cons_bound None xs = omega arith
cons_bound (Some x) xs = omega arith

filter_bound : {A B : Type 0} (f : A → Option B) (xs : List A) → length (filter_map f xs) ≤ length xs
filter_bound f [] = omega arith
filter_bound f (x ∷ xs) = omega (arith, cons_bound (f x) (filter_map f xs), filter_bound f xs)

definers_from_bound : (r : Registry) (block : Name) (o : Option Entry) → length (definers_from r block o) ≤ suc (length r.templates)
definers_from_bound r block None = omega arith
definers_from_bound r block (Some t) =
    omega (arith, filter_bound (definer_in block) (t ∷ ancestors r t), up_bound (resolve r) (length r.templates) t.1.tree.parent)

-- no more than one in each template, and one in the template itself
pub definers_bound : (r : Registry) (template : Option Name) (block : Name) → length (definers r template block) ≤ suc (length r.templates)
definers_bound r None block = omega arith
definers_bound r (Some template) block = definers_from_bound r block (entry_at template r.templates)

in_front : (n : Name) (xs ys : List Name) → is_among n xs ≡ true → is_among n (xs ++ ys) ≡ true
in_front n [] ys e = absurd (true≢false (sym e))
in_front n (x ∷ xs) ys e =
    ⊎_elim (λ h. or_left (bytes_eq n x) _ h) (λ h. or_right (bytes_eq n x) _ (in_front n xs ys h)) (or_of (bytes_eq n x) (is_among n xs) e)

in_back : (n : Name) (xs ys : List Name) → is_among n ys ≡ true → is_among n (xs ++ ys) ≡ true
in_back n [] ys e = e
in_back n (x ∷ xs) ys e = or_right (bytes_eq n x) _ (in_back n xs ys e)

abbrev blocks_of : Entry → List Name
blocks_of t = block_names t.1.tree.nodes

among_blocks : (n : Name) (t : Entry) (ts : Named Template) → IsThere t ts → is_among n (blocks_of t) ≡ true → is_among n (flat_map blocks_of ts) ≡ true
among_blocks n t [] h e = absurd h
among_blocks n t (u ∷ ts) (inl is) e =
    in_front n (blocks_of u) (flat_map blocks_of ts) (ap (λ x. is_among n (blocks_of x)) (sym is) ∙ e)
among_blocks n t (u ∷ ts) (inr h) e = in_back n (blocks_of u) (flat_map blocks_of ts) (among_blocks n t ts h e)

block_named : (block : Name) (bs : List (Name × Nodes)) (o : Option (Name × Nodes)) → entry_at block bs ≡ o → (is_among block (map (λ b. b.0) bs) ≡ true) ⊎ (o ≡ None)
block_named block [] o e = inr (sym e)
block_named block (b ∷ bs) o e = by (λ h. block_named block bs o h) (bytes_eq block b.0) refl
  where
    by : (entry_at block bs ≡ o → (is_among block (map (λ b. b.0) bs) ≡ true) ⊎ (o ≡ None)) → (c : Bool) → bytes_eq block b.0 ≡ c → ((bytes_eq block b.0 || is_among block (map (λ b. b.0) bs)) ≡ true) ⊎ (o ≡ None)
    by ih true h = inl (or_left (bytes_eq block b.0) _ h)
    by ih false h =
        let is : entry_at block bs ≡ o = rw h at e in
        ⊎_elim (λ k. inl (or_right (bytes_eq block b.0) _ k)) inr (ih is)

definers_named : (r : Registry) (block : Name) (ts : List Entry) → AllThere ts r.templates → 0 < length (definers_in block ts) → is_among block (all_blocks r) ≡ true
definers_named r block [] h l = absurd (omega arith)
definers_named r block (t ∷ ts) h l =
    ⊎_elim
    (λ k. among_blocks block t r.templates h.0 k)
    (λ k. let rest : 0 < length (definers_in block ts) = rw k at l in definers_named r block ts h.1 rest)
    (block_named block (blocks t.1.tree.nodes) (entry_at block (blocks t.1.tree.nodes)) refl)

definers_from_named : (r : Registry) (block : Name) (o : Option Entry) → ((t : Entry) → o ≡ Some t → IsThere t r.templates) → 0 < length (definers_from r block o) → is_among block (all_blocks r) ≡ true
definers_from_named r block None h l = absurd (omega arith)
definers_from_named r block (Some t) h l =
    definers_named r block (t ∷ ancestors r t) (h t refl, up_there r (length r.templates) t.1.tree.parent) l

-- a block that somebody defines is among all blocks
pub definers_of_named : (r : Registry) (template : Option Name) (block : Name) → 0 < length (definers r template block) → is_among block (all_blocks r) ≡ true
definers_of_named r None block l = absurd (omega arith)
definers_of_named r (Some template) block l =
    definers_from_named r block (entry_at template r.templates) (λ t e. found_there template r.templates t e) l

-- A body that is taken stands lower.

-- where fewer bodies are left, all blocks may be open anew
fresh_falls : (r : Registry) (a a' opened above : ℕ) → a' < a
    → (a' * suc (length (all_blocks r)) + not_among (all_blocks r) []) * suc (suc (length r.templates)) + 0 < (a * suc (length (all_blocks r)) + opened) * suc (suc (length r.templates)) + above
fresh_falls r a a' opened above less =
    let size = suc (length (all_blocks r)) in
    let small : not_among (all_blocks r) [] < size = omega (arith, left_bound (all_blocks r) []) in
    let lower = lower_first a a' opened (not_among (all_blocks r) []) size less small in
    lower_first (a * size + opened) (a' * size + not_among (all_blocks r) []) above 0 (suc (suc (length r.templates))) lower (omega arith)

module _ {C : Type 0} where
  abbrev pub IsLower : World → PlaceOf C → WayOf C → Type 0
  IsLower w p (Refuses fault) = Unit {0}
  IsLower w p (Takes p' v body) = rank w p' < rank w p

  -- templates that are not included in a place, with the components that may still be open, and blocks that are not open
  abbrev left_templates : World → PlaceOf C → ℕ
  left_templates w p = not_among (names w.registry.templates) p.included

  abbrev left_bodies : World → PlaceOf C → ℕ
  left_bodies w p = (max_depth - p.depth) * suc (length w.registry.templates) + left_templates w p

  abbrev left_blocks : World → PlaceOf C → ℕ
  left_blocks w p = not_among (all_blocks w.registry) p.opened

  abbrev way_of_block : World → PlaceOf C → Name → VariablesOf C → Fault → Bool → List Definer → WayOf C
  way_of_block w p name v fault is_open ds = cond is_open (Refuses fault) (takes_definer p (name ∷ p.opened) v fault ds)

  block_falls : (w : World) (p : PlaceOf C) (name : Name) (v : VariablesOf C) (fault : Fault) (b : Bool) → is_among name p.opened ≡ b → (ds : List Definer) → definers w.registry p.template name ≡ ds → IsLower w p (way_of_block w p name v fault b ds)
  block_falls w p name v fault true e ds f = tt
  block_falls w p name v fault false e [] f = tt
  block_falls w p name v fault false e (d ∷ ds) f =
      let r = w.registry in
      let size : length (definers r p.template name) ≡ suc (length ds) = ap length f in
      let there : 0 < length (definers r p.template name) = omega (arith, size) in
      let less = left_less name (all_blocks r) p.opened (definers_of_named r p.template name there) e in
      let small : length ds < suc (suc (length r.templates)) = omega (arith, size, definers_bound r p.template name) in
      let base = left_bodies w p * suc (length (all_blocks r)) in
      let lower : base + not_among (all_blocks r) (name ∷ p.opened) < base + left_blocks w p = omega (arith, less) in
      lower_first (base + left_blocks w p) (base + not_among (all_blocks r) (name ∷ p.opened)) (length p.above) (length ds) (suc (suc (length r.templates))) lower small

  above_falls : (w : World) (p : PlaceOf C) (v : VariablesOf C) (fault : Fault) (ds : List Definer) → p.above ≡ ds → IsLower w p (takes_definer p p.opened v fault ds)
  above_falls w p v fault [] e = tt
  above_falls w p v fault (d ∷ ds) e =
      let size : length p.above ≡ suc (length ds) = ap length e in
      omega (arith, size)

  abbrev way_of_template : PlaceOf C → VariablesOf C → Fault → Bool → Entry → WayOf C
  way_of_template p v fault is_included t =
      cond is_included (Refuses fault) (Takes (place_of_include p v t.0) nothing_set t.1.tree.nodes)

  template_falls : (w : World) (p : PlaceOf C) (v : VariablesOf C) (fault : Fault) (t : Entry) → IsThere t w.registry.templates → (b : Bool) → is_among t.0 p.included ≡ b → IsLower w p (way_of_template p v fault b t)
  template_falls w p v fault t h true e = tt
  template_falls w p v fault t h false e =
      let r = w.registry in
      let ns = names r.templates in
      let less = left_less t.0 ns p.included (among_names t r.templates h) e in
      let base = (max_depth - p.depth) * suc (length r.templates) in
      let lower : base + not_among ns (t.0 ∷ p.included) < left_bodies w p = omega (arith, less) in
      fresh_falls r (left_bodies w p) (base + not_among ns (t.0 ∷ p.included)) (left_blocks w p) (length p.above) lower

  include_falls : (w : World) (p : PlaceOf C) (v : VariablesOf C) (fault : Fault) (o : Option Entry) → ((t : Entry) → o ≡ Some t → IsThere t w.registry.templates) → IsLower w p (takes_template p v fault o)
  include_falls w p v fault None h = tt
  include_falls w p v fault (Some t) h = template_falls w p v fault t (h t refl) (is_among t.0 p.included) refl

  abbrev way_of_context : PlaceOf C → VariablesOf C → Component → Named (ValOf C) → Bool → WayOf C
  way_of_context p v c context is_shallow =
      cond is_shallow (Takes (place_of_component (in_component context p.around v) p.autoescape (suc p.depth) c.file) nothing_set c.body) (Refuses message)

  -- one more component is open, and all templates may be included anew
  context_falls : (w : World) (p : PlaceOf C) (v : VariablesOf C) (c : Component) (context : Named (ValOf C)) (b : Bool) → nat_lt p.depth max_depth ≡ b → IsLower w p (way_of_context p v c context b)
  context_falls w p v c context false e = tt
  context_falls w p v c context true e =
      let r = w.registry in
      let ns = names r.templates in
      let shallow : p.depth < 20 = ltb-true p.depth 20 e in
      let less : max_depth - suc p.depth < max_depth - p.depth = omega (arith, shallow) in
      let many : not_among ns [] < suc (length r.templates) = omega (arith, left_bound ns [], length-map r.templates (λ t. t.0)) in
      let lower = lower_first (max_depth - p.depth) (max_depth - suc p.depth) (left_templates w p) (not_among ns []) (suc (length r.templates)) less many in
      fresh_falls r (left_bodies w p) ((max_depth - suc p.depth) * suc (length r.templates) + not_among ns []) (left_blocks w p) (length p.above) lower

  fitting_falls : (w : World) (p : PlaceOf C) (v : VariablesOf C) (c : Component) (fault : Fault) (o : Option (Named (ValOf C))) → IsLower w p (takes_context p v c fault o)
  fitting_falls w p v c fault None = tt
  fitting_falls w p v c fault (Some context) = context_falls w p v c context (nat_lt p.depth max_depth) refl

module _ {C : Type 0} (alphabet : Alphabet C) (w : World) where
  component_falls : (p : PlaceOf C) (v : VariablesOf C) (given : List (Name × ValOf C)) (body : Option (ValOf C)) (fault : Fault) (o : Option Component) → IsLower w p (takes_component alphabet p v given body fault o)
  component_falls p v given body fault None = tt
  component_falls p v given body fault (Some c) =
      fitting_falls w p v c fault (component_context_in alphabet c.signature given body (λ name. look_implicit name p.around v))

  -- each body that is taken has a lower rank
  pub falls : (p : PlaceOf C) (q : RequestOf C) (v : VariablesOf C) → IsLower w p (way_in alphabet w p q v)
  falls p (ABlock name span) v =
      block_falls w p name v (fault_in p span) (is_among name p.opened) refl (definers w.registry p.template name) refl
  falls p (Above span) v = above_falls w p v (fault_in p span) p.above refl
  falls p (AnInclude name span) v =
      include_falls w p v (fault_in p span) (resolve w.registry name) (λ t e. resolved_there w.registry name t e)
  falls p (AComponent name given body span) v = component_falls p v given body (fault_in p span) (component_at w name)

  -- two families agree on the body that is taken
  abbrev Agree : FamilyOf C → FamilyOf C → WayOf C → Type 0
  Agree f g (Refuses fault) = Unit {0}
  Agree f g (Takes p' v body) = f p' ≡ g p'

  agree : (f g : FamilyOf C) (p : PlaceOf C) (x : WayOf C) → IsLower w p x → ((p' : PlaceOf C) → rank w p' < rank w p → f p' ≡ g p') → Agree f g x
  agree f g p (Refuses fault) l h = tt
  agree f g p (Takes p' v body) l h = h p' l

  along_same : (f g : FamilyOf C) (q : RequestOf C) (v : VariablesOf C) (x : WayOf C) → Agree f g x → along alphabet w f q v x ≡ along alphabet w g q v x
  along_same f g q v (Refuses fault) h = refl
  along_same f g q v (Takes p' v' body) h = ap (λ (o : OracleOf C). ends q v (body_meaning_in alphabet w o p' v' body)) h

  -- a level asks of the places below alone
  pub level_same : (f g : FamilyOf C) (p : PlaceOf C) → ((p' : PlaceOf C) → rank w p' < rank w p → f p' ≡ g p') → level alphabet w f p ≡ level alphabet w g p
  level_same f g p h =
      fun_ext (λ q. fun_ext (λ v. along_same f g q v (way_in alphabet w p q v) (agree f g p (way_in alphabet w p q v) (falls p q v) h)))

  -- any count of levels above the rank gives the same
  pub stable : (n m : ℕ) (p : PlaceOf C) → rank w p < n → rank w p < m → levels alphabet w n p ≡ levels alphabet w m p
  stable zero m p l k = absurd (omega arith)
  stable (suc n) zero p l k = absurd (omega arith)
  stable (suc n) (suc m) p l k =
      level_same (levels alphabet w n) (levels alphabet w m) p (λ p' lower. stable n m p' (omega arith) (omega arith))

  -- the whole meaning is its own level
  pub unrolls : (p : PlaceOf C) (q : RequestOf C) (v : VariablesOf C) → whole_in alphabet w p q v ≡ level alphabet w (whole_in alphabet w) p q v
  unfolding whole_in
  unrolls p q v =
      ap (λ (o : OracleOf C). o q v) (level_same (levels alphabet w (rank w p)) (whole_in alphabet w) p (λ p' lower. stable (rank w p) (suc (rank w p')) p' lower (omega arith)))

pub meaning_unrolls : MeaningUnrolls
meaning_unrolls w p q v = unrolls plain w p q v
