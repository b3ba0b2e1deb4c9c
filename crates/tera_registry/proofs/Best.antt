-- The best definer so far, template by template, and ties with it.
use Rattle.std.proofs.Common.{◌≡◌, ℕ, ◌<◌, ◌≤◌, Bool, false, not, ◌&&◌, ◌||◌, if◌then◌else◌, List, [], ◌∷◌, filter, nat_eq, nat_lt, Option, Some, None, refl, sym, ap, ◌∙◌, inl, inr, arith}
use Rattle.std.specs.List.{list_any}
use Rattle.std.proofs.lemmas.Bool.{cases_Bool, cases_lt, lt-ltb, ltb-true}
use Rattle.std.proofs.lemmas.Bool.Decides.{nat_tests}
use Rattle.tera_errors.specs.Site.{Name}
use Rattle.tera_meaning.specs.Registry.{Registry, Entry}
use Rattle.tera_meaning.specs.Components.{priority, defines, best_from, is_better, is_as_good, is_tie}

-- whether a template is as good as the best of those before it
abbrev pub ties_with : Registry → Option Entry → Entry → Bool
ties_with r None t = false
ties_with r (Some s) t = nat_eq (priority r s.0) (priority r t.0)

pick-new : (s u t : ℕ) (G B : Bool) → u < s → ((nat_eq u t || G) && not (nat_lt u t || B)) ≡ ((nat_eq s t || (nat_eq u t || G)) && not (nat_lt s t || (nat_lt u t || B)))
pick-new s u t G B lt = grind (arith, nat_tests)

pick-old : (s u t : ℕ) (G B : Bool) → s ≤ u → ((nat_eq s t || G) && not (nat_lt s t || B)) ≡ ((nat_eq s t || (nat_eq u t || G)) && not (nat_lt s t || (nat_lt u t || B)))
pick-old s u t G B le = grind (arith, nat_tests)

pick-last : (s t : ℕ) → nat_eq s t ≡ ((nat_eq s t || false) && not (nat_lt s t || false))
pick-last s t = grind (arith, nat_tests)

not_less : (a b : ℕ) → nat_lt a b ≡ false → b ≤ a
not_less a b e = elim (cases_lt a b) [ inl lt ↦ (let l = lt-ltb a b lt in cc) | inr le ↦ le ]

best-ties-from : (r : Registry) (t s : Entry) (ds : List Entry) → ties_with r (best_from r (Some s) ds) t ≡ ((is_as_good r t s || list_any (is_as_good r t) ds) && not (is_better r s t || list_any (λ u. is_better r u t) ds))
best-ties-from r t s [] = pick-last (priority r s.0) (priority r t.0)
best-ties-from r t s (u ∷ ds) =
    elim (cases_Bool (is_better r u s)) [
      | inl less ↦
          ap (λ b. ties_with r (best_from r (if b then Some u else Some s) ds) t) less ∙ best-ties-from r t u ds ∙ pick-new (priority r s.0) (priority r u.0) (priority r t.0) _ _ (ltb-true _ _ less)
      | inr more ↦
          ap (λ b. ties_with r (best_from r (if b then Some u else Some s) ds) t) more ∙ best-ties-from r t s ds ∙ pick-old (priority r s.0) (priority r u.0) (priority r t.0) _ _ (not_less _ _ more)
    ]

pub tie-best : (r : Registry) (before : List Entry) (t : Entry) (c : Name) → is_tie r before t c ≡ ties_with r (best_from r None (filter (defines c) before)) t
tie-best r before t c = best-ties r t (filter (defines c) before)
  where
    best-ties : (r : Registry) (t : Entry) (ds : List Entry) → (list_any (is_as_good r t) ds && not (list_any (λ u. is_better r u t) ds)) ≡ ties_with r (best_from r None ds) t
    best-ties r t [] = refl
    best-ties r t (s ∷ ds) = sym (best-ties-from r t s ds)
