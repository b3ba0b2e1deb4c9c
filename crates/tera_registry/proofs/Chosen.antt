-- What is taken by position is what definitions take.
use Rattle.std.proofs.Common.{◌≡◌, ℕ, zero, suc, ◌+◌, Bool, true, false, ◌||◌, if◌then◌else◌, nat_lt, nat_eq, bytes_eq, List, [], ◌∷◌, take, filter, map, Option, Some, None, option_map, refl, sym, ap, ◌∙◌, inl, inr, arith, slice_get}
use Rattle.std.proofs.lemmas.Bool.{cases_Bool, ltb-true}
use Rattle.tera_errors.specs.Site.{Name}
use Rattle.tera_syntax_tree.specs.Tree.{Signature, Nodes}
use Rattle.tera_syntax_tree.specs.Blocks.{is_among}
use Rattle.tera_syntax_tree.specs.Definitions.{component_names}
use Rattle.tera_meaning.specs.Registry.{Entry, Registry}
use Rattle.tera_meaning.specs.Components.{component_named, component_in, priority, defines, better, best_from, is_better, definer_of, is_tie}
use Rattle.tera_registry.specs.declared.component_table.ComponentAt.{ComponentAt}
use Rattle.tera_registry.specs.Choices.{improves, better_choice, is_tied, chosen_in, chosen_from, chosen_of}
use Rattle.tera_registry.proofs.Best.{ties_with, tie-best}

-- there stands the first component of this name in a template
pub record IsComponent (n : Name) (t : Entry) (k : ℕ) : Type 0 where
  pub definition : Signature × Nodes
  pub at : slice_get t.1.tree.definitions k ≡ Some definition
  pub is : component_in n t ≡ Some (record { file = t.0; signature = definition.0; body = definition.1 })

-- what is taken by position is the definition of this template
pub record IsOf (r : Registry) (n : Name) (c : ComponentAt) (o : Option Entry) : Type 0 where
  pub template : Entry
  pub taken : o ≡ Some template
  pub at : slice_get r.templates c.template ≡ Some template
  pub good : c.priority ≡ priority r template.0
  pub there : IsComponent n template c.component

abbrev pub IsChosen : Registry → Name → Option ComponentAt → Option Entry → Type 0
IsChosen r n None o = o ≡ None
IsChosen r n (Some c) o = IsOf r n c o

-- The first definition of a name counts among those of one template.

abbrev first_among : Name → List Name → Option ℕ
first_among n [] = None
first_among n (m ∷ ms) = if bytes_eq n m then Some 0 else option_map suc (first_among n ms)

abbrev with_first : ℕ → ℕ → ℕ → Option ℕ → Option ComponentAt → Option ComponentAt
with_first position p k None old = old
with_first position p k (Some j) old = better_choice old (record { template = position; component = k + j; priority = p })

not_itself : (n : ℕ) → nat_lt n n ≡ false
not_itself n = elim (cases_Bool (nat_lt n n)) [ inl less ↦ absurd (omega (arith, ltb-true n n less)) | inr e ↦ e ]

better-settles : (old : Option ComponentAt) (new : ComponentAt) → improves (better_choice old new) new.priority ≡ false
better-settles None new = not_itself new.priority
better-settles (Some old) new =
    elim (cases_Bool (nat_lt new.priority old.priority)) [
      | inl less ↦ ap (λ b. improves (if b then Some new else Some old) new.priority) less ∙ not_itself new.priority
      | inr more ↦ ap (λ b. improves (if b then Some new else Some old) new.priority) more ∙ more
    ]

settled-stays : (n : Name) (position p k : ℕ) (ms : List Name) (old : Option ComponentAt) → improves old p ≡ false → chosen_in n position p k ms old ≡ old
settled-stays n position p k [] old s = refl
settled-stays n position p k (m ∷ ms) old s =
    let new : ComponentAt = record { template = position; component = k; priority = p } in
    let left : better_choice old new ≡ old = ap (λ b. if b then Some new else old) s in
    let same : (if bytes_eq n m then better_choice old new else old) ≡ old = elim (bytes_eq n m) as (λ b. (if b then better_choice old new else old) ≡ old) [ true ↦ left | false ↦ refl ] in
    ap (chosen_in n position p (suc k) ms) same ∙ settled-stays n position p (suc k) ms old s

chosen-first : (n : Name) (position p k : ℕ) (ms : List Name) (old : Option ComponentAt) → chosen_in n position p k ms old ≡ with_first position p k (first_among n ms) old
chosen-first n position p k [] old = refl
chosen-first n position p k (m ∷ ms) old =
    let new : ComponentAt = record { template = position; component = k; priority = p } in
    let at : ℕ → ComponentAt = λ i. record { template = position; component = i; priority = p } in
    elim (cases_Bool (bytes_eq n m)) [
      | inl same ↦
          (let zeroth : k ≡ k + 0 = omega arith in
          ap (λ b. chosen_in n position p (suc k) ms (if b then better_choice old new else old)) same ∙ settled-stays n position p (suc k) ms _ (better-settles old new) ∙ ap (λ i. better_choice old (at i)) zeroth ∙ sym (ap (λ b. with_first position p k (if b then Some 0 else option_map suc (first_among n ms)) old) same))
      | inr other ↦
          ap (λ b. chosen_in n position p (suc k) ms (if b then better_choice old new else old)) other ∙ chosen-first n position p (suc k) ms old ∙ shifted (first_among n ms) ∙ sym (ap (λ b. with_first position p k (if b then Some 0 else option_map suc (first_among n ms)) old) other)
    ]
  where
    shifted : (o : Option ℕ) → with_first position p (suc k) o old ≡ with_first position p k (option_map suc o) old
    shifted None = refl
    shifted (Some j) =
        let e : suc k + j ≡ k + suc j = omega arith in
        ap (λ i. better_choice old (record { template = position; component = i; priority = p })) e

abbrev names_of : List (Signature × Nodes) → List Name
names_of = map (λ d. d.0.name)

-- what is known of the first definition of a name, where one is found or none
abbrev IsFirstOf : Name → Name → List (Signature × Nodes) → Option ℕ → Type 0
IsFirstOf n file ds None = is_among n (names_of ds) ≡ false
IsFirstOf n file ds (Some j) =
    (d : Signature × Nodes) × (slice_get ds j ≡ Some d) × (component_named file n ds ≡ Some (record { file = file; signature = d.0; body = d.1 })) × (is_among n (names_of ds) ≡ true)

first-of : (n file : Name) (ds : List (Signature × Nodes)) → IsFirstOf n file ds (first_among n (names_of ds))
first-of n file [] = refl
first-of n file (d ∷ ds) = by_name (bytes_eq n d.0.name) refl (first_among n (names_of ds)) (first-of n file ds)
  where
    by_name : (b : Bool) → bytes_eq n d.0.name ≡ b → (o : Option ℕ) → IsFirstOf n file ds o → IsFirstOf n file (d ∷ ds) (if b then Some 0 else option_map suc o)
    by_name true e o f = (d, refl, ap (λ b. if b then Some (record { file = file; signature = d.0; body = d.1 }) else component_named file n ds) e, ap (λ b. b || is_among n (names_of ds)) e)
    by_name false e None f = ap (λ b. b || is_among n (names_of ds)) e ∙ f
    by_name false e (Some j) f =
        (f.0, f.1, ap (λ b. if b then Some (record { file = file; signature = d.0; body = d.1 }) else component_named file n ds) e ∙ f.2, ap (λ b. b || is_among n (names_of ds)) e ∙ f.3)

-- one template more
chosen-step : (r : Registry) (n : Name) (position : ℕ) (t : Entry) (c : Option ComponentAt) (o : Option Entry) → slice_get r.templates position ≡ Some t → IsChosen r n c o → IsChosen r n (chosen_in n position (priority r t.0) 0 (component_names t.1.tree.definitions) c) (if defines n t then better r o t else o)
chosen-step r n position t c o at is =
    rw (chosen-first n position (priority r t.0) 0 (component_names t.1.tree.definitions) c) (by_first (first_among n (component_names t.1.tree.definitions)) (first-of n t.0 t.1.tree.definitions))
  where
    made : (j : ℕ) → ComponentAt
    made j = record { template = position; component = 0 + j; priority = priority r t.0 }

    new : (j : ℕ) → IsComponent n t j → IsOf r n (made j) (Some t)
    new j there = (let e : 0 + j ≡ j = omega arith in record { template = t; taken = refl; at = at; good = refl; there = rw e there })

    taken : (j : ℕ) → IsComponent n t j → (old : Option ComponentAt) → IsChosen r n old o → IsChosen r n (better_choice old (made j)) (better r o t)
    taken j there None was = rw was (new j there)
    taken j there (Some old) was =
        let goods : nat_lt (priority r t.0) old.priority ≡ is_better r t was.template = ap (nat_lt (priority r t.0)) was.good in
        rw was.taken (by_bool (nat_lt (priority r t.0) old.priority) (is_better r t was.template) goods)
      where
        by_bool : (b d : Bool) → b ≡ d → IsChosen r n (if b then Some (made j) else Some old) (if d then Some t else Some was.template)
        by_bool true true e = new j there
        by_bool true false e = (let q : true ≡ false = e in cc)
        by_bool false true e = (let q : false ≡ true = e in cc)
        by_bool false false e = record { template = was.template; taken = refl; at = was.at; good = was.good; there = was.there }

    by_first : (f : Option ℕ) → IsFirstOf n t.0 t.1.tree.definitions f → IsChosen r n (with_first position (priority r t.0) 0 f c) (if defines n t then better r o t else o)
    by_first None none = rw none is
    by_first (Some j) some = rw some.3 (taken j (record { definition = some.0; at = some.1; is = some.2 }) c is)

-- these stand from a position on among all
abbrev pub Stretch : List Entry → ℕ → List Entry → Type 0
Stretch all position ts = (k : ℕ) (t : Entry) → slice_get ts k ≡ Some t → slice_get all (position + k) ≡ Some t

chosen-all : (r : Registry) (n : Name) (position : ℕ) (ts : List Entry) (c : Option ComponentAt) (o : Option Entry) → Stretch r.templates position ts → IsChosen r n c o → IsChosen r n (chosen_from r n position ts c) (best_from r o (filter (defines n) ts))
chosen-all r n position [] c o all is = is
chosen-all r n position (t ∷ ts) c o all is =
    let here : position + 0 ≡ position = omega arith in
    let at : slice_get r.templates position ≡ Some t = ap (slice_get r.templates) (sym here) ∙ all 0 t refl in
    let next = chosen-step r n position t c o at is in
    let rest = chosen-all r n (suc position) ts _ _ (λ k u u_at. (let e : suc position + k ≡ position + suc k = omega arith in ap (slice_get r.templates) e ∙ all (suc k) u u_at)) next in
    rw (folded (defines n t)) rest
  where
    folded : (b : Bool) → best_from r o (if b then t ∷ filter (defines n) ts else filter (defines n) ts) ≡ best_from r (if b then better r o t else o) (filter (defines n) ts)
    folded true = refl
    folded false = refl

pub chosen-before : (r : Registry) (n : Name) (position : ℕ) → IsChosen r n (chosen_from r n 0 (take position r.templates) None) (best_from r None (filter (defines n) (take position r.templates)))
chosen-before r n position = chosen-all r n 0 (take position r.templates) None None (λ k x x_at. (let e : 0 + k ≡ k = omega arith in ap (slice_get r.templates) e ∙ taken-at position r.templates k x x_at)) refl
  where
    taken-at : {X : Type 0} (i : ℕ) (xs : List X) (k : ℕ) (x : X) → slice_get (take i xs) k ≡ Some x → slice_get xs k ≡ Some x
    taken-at zero [] k x at = at
    taken-at zero (y ∷ xs) k x at = (let q : None ≡ Some x = at in cc)
    taken-at (suc i) [] k x at = at
    taken-at (suc i) (y ∷ xs) zero x at = at
    taken-at (suc i) (y ∷ xs) (suc k) x at = taken-at i xs k x at

-- what is taken of all
pub chosen-is : (r : Registry) (n : Name) → IsChosen r n (chosen_of r n) (definer_of r n)
chosen-is r n = chosen-all r n 0 r.templates None None (λ k t at. (let e : 0 + k ≡ k = omega arith in ap (slice_get r.templates) e ∙ at)) refl

-- Ties.

tied-is : (r : Registry) (n : Name) (c : Option ComponentAt) (o : Option Entry) (t : Entry) → IsChosen r n c o → is_tied c (priority r t.0) ≡ ties_with r o t
tied-is r n None o t is = rw is refl
tied-is r n (Some c) o t is = rw is.taken (ap (λ p. nat_eq p (priority r t.0)) is.good)

pub tie-of : (r : Registry) (n : Name) (position : ℕ) (t : Entry) → is_tied (chosen_from r n 0 (take position r.templates) None) (priority r t.0) ≡ is_tie r (take position r.templates) t n
tie-of r n position t =
    tied-is r n _ _ t (chosen-before r n position) ∙ sym (tie-best r (take position r.templates) t n)
