-- A walk with as many steps as there are templates meets one of them a second time, and who walks in a circle never ends.
use Rattle.std.proofs.Common.{◌≡◌, ◌≢◌, ◌⊎◌, ℕ, zero, suc, ◌<◌, Bool, true, false, cond, List, [], ◌∷◌, ◌++◌, length, map, get_or, Option, Some, None, Result, Ok, Err, refl, sym, ap, ◌∙◌, subst, inl, inr, arith}
use Rattle.std.specs.List.{Contains, list_any, filter_map, cons_option, IsDistinct, AllByRecursion}
use Rattle.std.specs.Option.{option_or, IsSome}
use Rattle.std.specs.Map.{lookup}
use Rattle.std.specs.Str.{bytes_eq}
use Rattle.std.specs.Cmp.Lexicographic.{bytes_decides}
use Rattle.std.proofs.lemmas.Cmp.{nat_list_eq_equiv}
use Rattle.std.proofs.lemmas.Bool.{cases_Bool}
use Rattle.std.proofs.lemmas.List.Folds.{list_any_at}
use Rattle.std.proofs.lemmas.Map.Steps.{length-le_from_keys}
use Rattle.tera_errors.specs.Site.{Name}
use Rattle.tera_errors.specs.Fault.{Fault, circular_extend, missing_parent}
use Rattle.tera_values.specs.Named.{Named}
use Rattle.tera_meaning.specs.Registry.{Template, Entry, Registry}
use Rattle.tera_meaning.specs.Resolve.{entry_at, first_there, resolve, onto, or_missing, up, parents, last_of}
use Rattle.tera_meaning.specs.Known.{included_names}
use Rattle.tera_meaning.specs.Accepted.{fault, fault_of_parents, includes_of, can_walk, leads_into_a_circle}
use Rattle.tera_meaning.specs.Circles.{Extends, Includes, IsWalk, IsCircle, LeadsIntoACircle, CountsTellCircles, NoCircles}
use Rattle.tera_meaning.proofs.Faultless.{each-parts}

-- What is there by its name.

abbrev IsThere : Named Template → Entry → Type 0
IsThere ts t = entry_at t.0 ts ≡ Some t

named : (ts : Named Template) (n : Name) (t : Entry) → entry_at n ts ≡ Some t → n ≡ t.0
named [] n t e = absurd (cc)
named (u ∷ ts) n t e = go (named ts n t) (bytes_eq n u.0) refl e
  where
    go : (entry_at n ts ≡ Some t → n ≡ t.0) → (b : Bool) → bytes_eq n u.0 ≡ b → cond b (Some u) (entry_at n ts) ≡ Some t → n ≡ t.0
    go later true same e = (let is : u ≡ t = cc in (bytes_decides n u.0).0 same ∙ ap (λ (x : Entry). x.0) is)
    go later false other e = later e

first-there-is : (ts : Named Template) (ns : List Name) (t : Entry) → first_there ts ns ≡ Some t → IsThere ts t
first-there-is ts [] t e = absurd (cc)
first-there-is ts (n ∷ ns) t e = go (first-there-is ts ns t) (entry_at n ts) refl e
  where
    go : (first_there ts ns ≡ Some t → IsThere ts t) → (o : Option Entry) → entry_at n ts ≡ o → option_or o (first_there ts ns) ≡ Some t → IsThere ts t
    go later None none e = later e
    go later (Some u) at e =
        let is : entry_at n ts ≡ Some t = at ∙ e in
        ap (λ (m : Name). entry_at m ts) (sym (named ts n t is)) ∙ is

resolved-there : (r : Registry) (n : Name) (t : Entry) → resolve r n ≡ Some t → IsThere r.templates t
resolved-there r n t e = first-there-is r.templates (n ∷ map (λ p. p ++ n) r.prefixes) t e

-- and so it has a position
position : (ts : Named Template) (n : Name) (t : Entry) → entry_at n ts ≡ Some t → Contains ts t
position [] n t e = absurd (cc)
position (u ∷ ts) n t e = go (position ts n t) (bytes_eq n u.0) e
  where
    go : (entry_at n ts ≡ Some t → Contains ts t) → (b : Bool) → cond b (Some u) (entry_at n ts) ≡ Some t → Contains (u ∷ ts) t
    go later true e = (zero, omega arith, (let is : u ≡ t = cc in is))
    go later false e = (let at = later e in (suc at.0, omega (arith, at.1), at.2))

found-lookup : (ts : Named Template) (n : Name) (t : Entry) → entry_at n ts ≡ Some t → IsSome (lookup (bytes_eq n) ts)
found-lookup [] n t e = absurd (cc)
found-lookup (u ∷ ts) n t e =
    elim (cases_Bool (bytes_eq n u.0)) [
      | inl here ↦ rw here refl
      | inr other ↦ rw other (found-lookup ts n t (rw other at e))
    ]

-- Elements.

any-contains : {X : Type 0} (p : X → Bool) (xs : List X) → list_any p xs ≡ true → (x : X) × Contains xs x × (p x ≡ true)
any-contains p [] e = absurd (cc)
any-contains p (x ∷ xs) e =
    elim (cases_Bool (p x)) [
      | inl here ↦ (x, (zero, omega arith, refl), here)
      | inr not_here ↦
          (let rest = any-contains p xs (rw not_here at e) in
          (rest.0, (suc rest.1.0, omega (arith, rest.1.1), rest.1.2), rest.2))
    ]

contains-cons : {X : Type 0} (w y : X) (rest : List X) (k : ℕ) → k < length (w ∷ rest) → get_or (w ∷ rest) k y ≡ y → (w ≡ y) ⊎ Contains rest y
contains-cons w y rest zero lt is = inl is
contains-cons w y rest (suc k) lt is = inr (k, omega arith, is)

contains-found : {X Y : Type 0} (h : X → Option Y) (xs : List X) (y : Y) → Contains (filter_map h xs) y → (x : X) × (h x ≡ Some y)
contains-found h [] y c = absurd (omega (arith, c.1))
contains-found {X} {Y} h (x ∷ xs) y c = go (contains-found h xs y) (h x) refl c
  where
    go : (Contains (filter_map h xs) y → (z : X) × (h z ≡ Some y)) → (o : Option Y) → h x ≡ o → Contains (cons_option o (filter_map h xs)) y → (z : X) × (h z ≡ Some y)
    go later None e c = later c
    go later (Some w) e c =
        elim (contains-cons w y (filter_map h xs) c.0 c.1 c.2) [
          | inl here ↦ (x, e ∙ ap Some here)
          | inr more ↦ later more
        ]

-- Walks of any kind, each step of which leads to what is there.

module _ (ts : Named Template) (Leads : Entry → Entry → Type 0) (leads_there : (t u : Entry) → Leads t u → IsThere ts u) where
  abbrev names_of : List Entry → List Name
  names_of = map (λ t. t.0)

  -- a name on the way is that of a template to which a walk comes
  record Met (t : Entry) (q : Name) : Type 0 where
    way : List Entry
    walk : IsWalk Leads t way
    name : q ≡ (last_of t way).0
    there : IsThere ts (last_of t way)

  met : (t : Entry) (us : List Entry) (q : Name) → IsWalk Leads t us → IsThere ts t → list_any (bytes_eq q) (names_of (t ∷ us)) ≡ true → Met t q
  met t [] q walk there e =
      elim (cases_Bool (bytes_eq q t.0)) [
        | inl here ↦ record { way = []; walk = tt; name = (bytes_decides q t.0).0 here; there = there }
        | inr other ↦ absurd (let f : false ≡ true = rw other at e in cc)
      ]
  met t (u ∷ us) q walk there e =
      elim (cases_Bool (bytes_eq q t.0)) [
        | inl here ↦ record { way = []; walk = tt; name = (bytes_decides q t.0).0 here; there = there }
        | inr other ↦
            (let rest = met u us q walk.1 (leads_there t u walk.0) (rw other at e) in
            record { way = u ∷ rest.way; walk = (walk.0, rest.walk); name = rest.name; there = rest.there })
      ]

  none-equal : (q : Name) (ns : List Name) → list_any (bytes_eq q) ns ≡ false → AllByRecursion (λ n. bytes_eq q n ≡ false) ns
  none-equal q [] e = tt
  none-equal q (n ∷ ns) e =
      elim (cases_Bool (bytes_eq q n)) [
        | inl same ↦ absurd (let f : true ≡ false = rw same at e in cc)
        | inr other ↦ (other, none-equal q ns (rw other at e))
      ]

  -- a walk on which a name stands twice leads into a circle
  twice-met : (t : Entry) (us : List Entry) → IsWalk Leads t us → IsThere ts t → (IsDistinct bytes_eq (names_of (t ∷ us)) → ⊥) → LeadsIntoACircle Leads t
  unfolding IsDistinct
  twice-met t [] walk there twice = absurd (twice (tt, tt))
  twice-met t (u ∷ us) walk there twice =
      elim (cases_Bool (list_any (bytes_eq t.0) (names_of (u ∷ us)))) [
        | inl again ↦
            (let x = met u us t.0 walk.1 (leads_there t u walk.0) again in
            let same : last_of u x.way ≡ t = (let q : Some (last_of u x.way) ≡ Some t = sym x.there ∙ ap (λ (m : Name). entry_at m ts) (sym x.name) ∙ there in cc) in
            record {
              way = [];
              walk = tt;
              circle = u ∷ x.way;
              is = record { walk = (walk.0, x.walk); goes = λ e. (cc); back = same };
            })
        | inr once ↦
            (let c = twice-met u us walk.1 (leads_there t u walk.0) (λ d. twice (none-equal t.0 (names_of (u ∷ us)) once, d)) in
            record { way = u ∷ c.way; walk = (walk.0, c.walk); circle = c.circle; is = c.is })
      ]

  length-names : (us : List Entry) → length (names_of us) ≡ length us
  length-names [] = refl
  length-names (u ∷ us) = ap suc (length-names us)

  pub long-walk : (t : Entry) (us : List Entry) → IsWalk Leads t us → IsThere ts t → length us ≡ length ts → LeadsIntoACircle Leads t
  long-walk t us walk there long =
      twice-met t us walk there (λ distinct.
      (let few = length-le_from_keys nat_list_eq_equiv (names_of (t ∷ us)) ts distinct (λ q m.
      (let x = met t us q walk there m in
      found-lookup ts q (last_of t x.way) (ap (λ (k : Name). entry_at k ts) x.name ∙ x.there))) in
      omega (arith, long, length-names (t ∷ us), few)))

  -- where a walk of a step or more ends, a template is there
  last-there : (t : Entry) (us : List Entry) → IsWalk Leads t us → us ≢ [] → IsThere ts (last_of t us)
  last-there t [] walk goes = absurd (goes refl)
  last-there t (u ∷ []) walk goes = leads_there t u walk.0
  last-there t (u ∷ v ∷ us) walk goes = last-there u (v ∷ us) walk.1 (λ e. (cc))

  pub circle-there : (t : Entry) (us : List Entry) → IsCircle Leads t us → IsThere ts t
  circle-there t us c = subst (IsThere ts) c.back (last-there t us c.walk c.goes)

-- What leads into a circle leads to one that does.
module _ (Leads : Entry → Entry → Type 0) where
  round-on : (t : Entry) (us : List Entry) → IsCircle Leads t us → (u : Entry) × Leads t u × LeadsIntoACircle Leads u
  round-on t [] c = absurd (c.goes refl)
  round-on t (u ∷ us) c =
      (u, c.walk.0, record { way = us; walk = c.walk.1; circle = u ∷ us; is = subst (λ (s : Entry). IsCircle Leads s (u ∷ us)) (sym c.back) c })

  way-on : (t : Entry) (way circle : List Entry) → IsWalk Leads t way → IsCircle Leads (last_of t way) circle → (u : Entry) × Leads t u × LeadsIntoACircle Leads u
  way-on t [] circle walk c = round-on t circle c
  way-on t (u ∷ way) circle walk c =
      (u, walk.0, record { way = way; walk = walk.1; circle = circle; is = c })

  pub leads-on : (t : Entry) → LeadsIntoACircle Leads t → (u : Entry) × Leads t u × LeadsIntoACircle Leads u
  leads-on t c = way-on t c.way c.circle c.walk c.is

  at-once : (t : Entry) (us : List Entry) → IsCircle Leads t us → LeadsIntoACircle Leads t
  at-once t us c = record { way = []; walk = tt; circle = us; is = c }

-- Includes.

include-there : (r : Registry) (t u : Entry) → Includes r t u → IsThere r.templates u
include-there r t u c =
    let found = contains-found (resolve r) (included_names t.1.tree) u c in resolved-there r found.0 u found.1

walk-of : (r : Registry) (n : ℕ) (t : Entry) → can_walk r n t ≡ true → (us : List Entry) × (length us ≡ n) × IsWalk (Includes r) t us
unfolding can_walk
walk-of r zero t e = ([], refl, tt)
walk-of r (suc n) t e =
    let u = any-contains (can_walk r n) (includes_of r t) e in
    let rest = walk-of r n u.0 u.2 in
    (u.0 ∷ rest.0, ap suc rest.1, (u.1, rest.2))

walk-on : (r : Registry) (n : ℕ) (t : Entry) → LeadsIntoACircle (Includes r) t → can_walk r n t ≡ true
unfolding can_walk
walk-on r zero t c = refl
walk-on r (suc n) t c =
    let u = leads-on (Includes r) t c in
    list_any_at (can_walk r n) (includes_of r t) u.1.0 u.0 u.1.1 (ap (can_walk r n) u.1.2 ∙ walk-on r n u.0 u.2)

-- What is extended.

extend-there : (r : Registry) (t u : Entry) → Extends r t u → IsThere r.templates u
extend-there r t u e = resolved-there r e.0 u e.2

onto-circular : (t : Entry) (x : Result (List Entry) Fault) → onto t x ≡ Err circular_extend → x ≡ Err circular_extend
onto-circular t (Ok ts) e = absurd (cc)
onto-circular t (Err f) e = e

up-of : (r : Registry) (n : ℕ) (t : Entry) → up (resolve r) n t.1.tree.parent ≡ Err circular_extend → (us : List Entry) × (length us ≡ n) × IsWalk (Extends r) t us
up-of r zero t e = ([], refl, tt)
up-of r (suc n) t e = go t.1.tree.parent refl e (up-of r n)
  where
    found : (name : Name) → t.1.tree.parent ≡ Some name → (o : Option Entry) → resolve r name ≡ o → or_missing o (λ u. onto u (up (resolve r) n u.1.tree.parent)) ≡ Err circular_extend
        → ((u : Entry) → up (resolve r) n u.1.tree.parent ≡ Err circular_extend → (us : List Entry) × (length us ≡ n) × IsWalk (Extends r) u us)
        → (us : List Entry) × (length us ≡ suc n) × IsWalk (Extends r) t us
    found name extends None none e further = absurd (let f : missing_parent ≡ circular_extend = cc in cc)
    found name extends (Some u) at e further =
        let rest = further u (onto-circular u (up (resolve r) n u.1.tree.parent) e) in
        (u ∷ rest.0, ap suc rest.1, ((name, extends, at), rest.2))

    go : (o : Option Name) → t.1.tree.parent ≡ o → up (resolve r) (suc n) o ≡ Err circular_extend
        → ((u : Entry) → up (resolve r) n u.1.tree.parent ≡ Err circular_extend → (us : List Entry) × (length us ≡ n) × IsWalk (Extends r) u us)
        → (us : List Entry) × (length us ≡ suc n) × IsWalk (Extends r) t us
    go None none e further = absurd (cc)
    go (Some name) extends e further = found name extends (resolve r name) refl e further

up-on : (r : Registry) (n : ℕ) (t : Entry) → LeadsIntoACircle (Extends r) t → up (resolve r) n t.1.tree.parent ≡ Err circular_extend
up-on r zero t c =
    let u = leads-on (Extends r) t c in ap (λ (o : Option Name). up (resolve r) zero o) u.1.1
up-on r (suc n) t c =
    let u = leads-on (Extends r) t c in
    ap (λ (o : Option Name). up (resolve r) (suc n) o) u.1.1
    ∙ ap (λ (o : Option Entry). or_missing o (λ s. onto s (up (resolve r) n s.1.tree.parent))) u.1.2
    ∙ ap (onto u.0) (up-on r n u.0 u.2)

pub counts_tell_circles : CountsTellCircles
counts_tell_circles = record {
  extends = λ r t there.
      ((λ e. (let us = up-of r (length r.templates) t e in long-walk r.templates (Extends r) (extend-there r) t us.0 us.2 there us.1)), up-on r (length r.templates) t);
  includes = λ r t there.
      ((λ e. (let us = walk-of r (length r.templates) t e in long-walk r.templates (Includes r) (include-there r) t us.0 us.2 there us.1)), walk-on r (length r.templates) t);
}

-- In a registry without a fault.

no-parents : (p : Result (List Entry) Fault) → fault_of_parents p ≡ None → p ≡ Err circular_extend → ⊥
no-parents (Ok ts) h e = (cc)
no-parents (Err f) h e = (cc)

no-extends : (r : Registry) → fault r ≡ None → (t : Entry) (us : List Entry) → IsCircle (Extends r) t us → ⊥
no-extends r h t us c =
    let at = position r.templates t.0 t (circle-there r.templates (Extends r) (extend-there r) t us c) in
    let parts = (each-parts r h at.0 t at.1).0 in
    let none : fault_of_parents (parents r t) ≡ None = subst (λ (x : Entry). fault_of_parents (parents r x) ≡ None) at.2 parts in
    no-parents (parents r t) none (up-on r (length r.templates) t (at-once (Extends r) t us c))

no-includes : (r : Registry) → fault r ≡ None → (t : Entry) (us : List Entry) → IsCircle (Includes r) t us → ⊥
no-includes r h t us c =
    let at = position r.templates t.0 t (circle-there r.templates (Includes r) (include-there r) t us c) in
    let parts = (each-parts r h at.0 t at.1).1 in
    let none : leads_into_a_circle r t ≡ false = subst (λ (x : Entry). leads_into_a_circle r x ≡ false) at.2 parts in
    let some : leads_into_a_circle r t ≡ true = walk-on r (length r.templates) t (at-once (Includes r) t us c) in
    (cc)

pub no_circles : NoCircles
no_circles = record { extends = no-extends; includes = no-includes }
