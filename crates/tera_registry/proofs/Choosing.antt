-- Definitions taken one by one.
use Rattle.std.proofs.Common.{◌≡◌, ℕ, suc, ◌+◌, ◌<◌, ◌≤◌, Bool, true, false, ◌||◌, if◌then◌else◌, bytes_eq, List, [], ◌∷◌, ◌++◌, length, take, drop, map, Option, Some, None, refl, sym, ap, ◌∙◌, inl, inr, arith, slice_get, get_or, option_map, String, Global}
use Rattle.std.specs.Cmp.Lexicographic.{bytes_decides}
use Rattle.std.specs.Map.{update}
use Rattle.std.specs.declared.collections.BTreeMap.{BTreeMap}
use Rattle.std.proofs.lemmas.Bool.{cases_Bool}
use Rattle.std.specs.List.{list_any}
use Rattle.std.proofs.lemmas.List.{drop_all, length-take}
use Rattle.std.proofs.lemmas.Option.{slice_get_read, slice_get-map, slice_get_within}
use Rattle.std.proofs.lemmas.Simd.{map-map}
use Rattle.tera_registry.specs.declared.components.Component.{Component}
use Rattle.tera_registry.specs.Components.{kept_of, kept_as, kept_all, kept_names}
use Rattle.tera_errors.specs.Site.{Name}
use Rattle.tera_syntax_tree.specs.Tree.{Definitions}
use Rattle.tera_syntax_tree.specs.Definitions.{component_names}
use Rattle.tera_meaning.specs.Registry.{Entry, Registry}
use Rattle.tera_meaning.specs.Components.{priority, is_tie}
use Rattle.tera_registry.specs.declared.component_table.ComponentAt.{ComponentAt}
use Rattle.tera_registry.specs.Choices.{chosen, improves, better_choice, is_tied, chosen_in, chosen_from, ties_at}
use Rattle.tera_registry.proofs.Rows.{drop-at, take-more}
use Rattle.tera_registry.proofs.Chosen.{tie-of}

pub bytes_eq-flip : (a b : Name) → bytes_eq a b ≡ bytes_eq b a
bytes_eq-flip a b =
    elim (cases_Bool (bytes_eq a b)) [
      | inl same ↦ same ∙ sym ((bytes_decides b a).1 (sym ((bytes_decides a b).0 same)))
      | inr other ↦ (elim (cases_Bool (bytes_eq b a)) [
        | inl same ↦ (let t : bytes_eq a b ≡ true = (bytes_decides a b).1 (sym ((bytes_decides b a).0 same)) in cc)
        | inr none ↦ other ∙ sym none
      ])
    ]

-- a better one is put at its name
pub chose : (old new : BTreeMap (String Global) ComponentAt Global) (key name : Name) (w : ComponentAt) (q : Name) → key ≡ name → improves (chosen old name) w.priority ≡ true → chosen new q ≡ update bytes_eq (chosen old) key (Some w) q → chosen new q ≡ if bytes_eq q name then better_choice (chosen old q) w else chosen old q
chose old new key name w q keyed is there =
    let put : chosen new q ≡ update bytes_eq (chosen old) name (Some w) q = rw (← keyed) there in
    elim (cases_Bool (bytes_eq q name)) [
      | inl same ↦
          (let e : q ≡ name = (bytes_decides q name).0 same in
          let better : improves (chosen old q) w.priority ≡ true = rw e is in
          put ∙ ap (λ b. if b then Some w else chosen old q) (bytes_eq-flip name q ∙ same) ∙ sym (ap (λ b. if b then better_choice (chosen old q) w else chosen old q) same ∙ ap (λ b. if b then Some w else chosen old q) better))
      | inr other ↦
          put ∙ ap (λ b. if b then Some w else chosen old q) (bytes_eq-flip name q ∙ other) ∙ sym (ap (λ b. if b then better_choice (chosen old q) w else chosen old q) other)
    ]

-- one that is not better is left out
pub left-out : (old : BTreeMap (String Global) ComponentAt Global) (name : Name) (w : ComponentAt) (q : Name) → improves (chosen old name) w.priority ≡ false → chosen old q ≡ if bytes_eq q name then better_choice (chosen old q) w else chosen old q
left-out old name w q is =
    elim (cases_Bool (bytes_eq q name)) [
      | inl same ↦
          (let e : q ≡ name = (bytes_decides q name).0 same in
          let worse : improves (chosen old q) w.priority ≡ false = rw e is in
          sym (ap (λ b. if b then better_choice (chosen old q) w else chosen old q) same ∙ ap (λ b. if b then Some w else chosen old q) worse))
      | inr other ↦ sym (ap (λ b. if b then better_choice (chosen old q) w else chosen old q) other)
    ]

-- one name more
pub chosen-more : (q n : Name) (position p k : ℕ) (names : List Name) (old : Option ComponentAt) → slice_get names k ≡ Some n → chosen_in q position p k (drop k names) old ≡ chosen_in q position p (k + 1) (drop (k + 1) names) (if bytes_eq q n then better_choice old (record { template = position; component = k; priority = p }) else old)
chosen-more q n position p k names old at =
    let next : suc k ≡ k + 1 = omega arith in
    let new = if bytes_eq q n then better_choice old (record { template = position; component = k; priority = p }) else old in
    ap (λ ns. chosen_in q position p k ns old) (drop-at names k n at) ∙ ap (λ i. chosen_in q position p i (drop (k + 1) names) new) next

-- all names
pub chosen-all-names : (q : Name) (position p k : ℕ) (names : List Name) (old : Option ComponentAt) → length names ≤ k → chosen_in q position p k (drop k names) old ≡ old
chosen-all-names q position p k names old over = ap (λ ns. chosen_in q position p k ns old) (drop_all k names over)

-- one template more
pub chosen-push : (r : Registry) (q : Name) (position : ℕ) (ts : List Entry) (t : Entry) (old : Option ComponentAt) → chosen_from r q position (ts ++ t ∷ []) old ≡ chosen_in q (position + length ts) (priority r t.0) 0 (component_names t.1.tree.definitions) (chosen_from r q position ts old)
chosen-push r q position [] t old =
    let e : position ≡ position + 0 = omega arith in
    ap (λ i. chosen_in q i (priority r t.0) 0 (component_names t.1.tree.definitions) old) e
chosen-push r q position (u ∷ ts) t old =
    let next = chosen_in q position (priority r u.0) 0 (component_names u.1.tree.definitions) old in
    let e : suc position + length ts ≡ position + length (u ∷ ts) = omega arith in
    chosen-push r q (suc position) ts t next ∙ ap (λ i. chosen_in q i (priority r t.0) 0 (component_names t.1.tree.definitions) (chosen_from r q (suc position) ts next)) e

pub name-at : (cs : List Component) (k : ℕ) (c : Component) → k < length cs → c ≡ get_or cs k c → slice_get (kept_names cs) k ≡ Some c.definition.name
name-at cs k c lt is =
    slice_get-map (λ (c : Component). c.definition.name) cs k ∙ ap (option_map (λ (c : Component). c.definition.name)) (slice_get_read cs (length cs) k c refl lt is)

pub chosen-next : (r : Registry) (q : Name) (position : ℕ) (t : Entry) → slice_get r.templates position ≡ Some t → chosen_in q position (priority r t.0) 0 (component_names t.1.tree.definitions) (chosen_from r q 0 (take position r.templates) None) ≡ chosen_from r q 0 (take (position + 1) r.templates) None
chosen-next r q position t at =
    let before = take position r.templates in
    let here : 0 + length before ≡ position = omega (arith, length-take position r.templates, slice_get_within r.templates position t at) in
    sym (chosen-push r q 0 before t None ∙ ap (λ i. chosen_in q i (priority r t.0) 0 (component_names t.1.tree.definitions) (chosen_from r q 0 before None)) here) ∙ ap (λ l. chosen_from r q 0 l None) (take-more r.templates position t at)

-- The names of the components that are kept.

pub kept-names-are : (file : Name) (definitions : Definitions) (cs : List Component) → map kept_of cs ≡ kept_all file definitions → kept_names cs ≡ component_names definitions
kept-names-are file definitions cs e =
    sym (map-map (λ k. k.0.name) kept_of cs) ∙ ap (map (λ k. k.0.name)) e ∙ map-map (λ k. k.0.name) (kept_as file) definitions

any-over : (f : Name → Bool) (cs : List Component) → list_any (λ c. f c.definition.name) cs ≡ list_any f (kept_names cs)
any-over f [] = refl
any-over f (c ∷ cs) = ap (λ b. f c.definition.name || b) (any-over f cs)

pub any-same : (f g : Name → Bool) (ns : List Name) → ((n : Name) → f n ≡ g n) → list_any f ns ≡ list_any g ns
any-same f g [] same = refl
any-same f g (n ∷ ns) same = ap (λ b. b || list_any f ns) (same n) ∙ ap (λ b. g n || b) (any-same f g ns same)

-- a template that ties with what was taken before it
pub ties-is : (r : Registry) (position : ℕ) (t : Entry) (cs : List Component) (taken : BTreeMap (String Global) ComponentAt Global) (p : ℕ) → kept_names cs ≡ component_names t.1.tree.definitions → p ≡ priority r t.0 → ((q : Name) → chosen taken q ≡ chosen_from r q 0 (take position r.templates) None) → list_any (λ c. is_tied (chosen taken c.definition.name) p) cs ≡ ties_at r position t
ties-is r position t cs taken p names good known =
    any-over (λ n. is_tied (chosen taken n) p) cs ∙ ap (list_any (λ n. is_tied (chosen taken n) p)) names ∙ any-same _ (is_tie r (take position r.templates) t) (component_names t.1.tree.definitions) (λ n. ap (λ o. is_tied o p) (known n) ∙ ap (is_tied (chosen_from r n 0 (take position r.templates) None)) good ∙ tie-of r n position t)
