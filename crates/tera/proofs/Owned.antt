-- Every template that is found by a name stands at its own, and so does its root.
use Rattle.std.proofs.Common.{◌≡◌, ℕ, zero, suc, Bool, true, false, List, [], ◌∷◌, ◌++◌, map, cond, length, Option, Some, None, Result, Ok, Err, refl, sym, ap, ◌∙◌, subst}
use Rattle.std.specs.Option.{option_or}
use Rattle.std.specs.Str.{bytes_eq}
use Rattle.std.specs.Cmp.Lexicographic.{bytes_decides}
use Rattle.tera_errors.specs.Site.{Name}
use Rattle.tera_errors.specs.Fault.{Fault, circular_extend, missing_parent}
use Rattle.tera_values.specs.Named.{Named}
use Rattle.tera_meaning.specs.Registry.{Template, Entry, Registry}
use Rattle.tera_meaning.specs.Resolve.{entry_at, first_there, resolve, onto, or_missing, up, parents, or_none, last_of, root}

named-by : (b : Bool) (n : Name) (e : Entry) (es : Named Template) (t : Entry) → bytes_eq n e.0 ≡ b → cond b (Some e) (entry_at n es) ≡ Some t → (entry_at n es ≡ Some t → n ≡ t.0) → n ≡ t.0
named-by true n e es t same is rest =
    let p : e ≡ t = (let q : Some e ≡ Some t = is in cc) in
    (bytes_decides n e.0).0 same ∙ ap (λ (x : Entry). x.0) p
named-by false n e es t same is rest = rest is

-- what stands at a name has it
named : (n : Name) (es : Named Template) (t : Entry) → entry_at n es ≡ Some t → n ≡ t.0
named n [] t is = (let q : None ≡ Some t = is in cc)
named n (e ∷ es) t is = named-by (bytes_eq n e.0) n e es t refl is (named n es t)

module _ (ts : Named Template) where
  abbrev pub Owns : Entry → Type 0
  Owns t = entry_at t.0 ts ≡ Some t

  owns-at : (n : Name) (t : Entry) → entry_at n ts ≡ Some t → Owns t
  owns-at n t is = ap (λ m. entry_at m ts) (sym (named n ts t is)) ∙ is

  owns-or : (n : Name) (ns : List Name) (t : Entry) (o : Option Entry) → entry_at n ts ≡ o → option_or o (first_there ts ns) ≡ Some t → (first_there ts ns ≡ Some t → Owns t) → Owns t
  owns-or n ns t None at is rest = rest is
  owns-or n ns t (Some e) at is rest = owns-at n t (at ∙ is)

  owns-first : (ns : List Name) (t : Entry) → first_there ts ns ≡ Some t → Owns t
  owns-first [] t is = (let q : None ≡ Some t = is in cc)
  owns-first (n ∷ ns) t is = owns-or n ns t (entry_at n ts) refl is (owns-first ns t)

  module _ (find : Name → Option Entry) (finds : (n : Name) (t : Entry) → find n ≡ Some t → Owns t) where
    -- the rest of a way up, from a template on
    abbrev Rest : ℕ → Type 0
    Rest left = (p : Entry) (qs : List Entry) → Owns p → up find left p.1.tree.parent ≡ Ok qs → Owns (last_of p qs)

    owns-more : (left : ℕ) (ps : List Entry) (t p : Entry) (r : Result (List Entry) Fault) → Rest left → Owns p → up find left p.1.tree.parent ≡ r → onto p r ≡ Ok ps → Owns (last_of t ps)
    owns-more left ps t p (Err fault) rest own at is = (let q : Err fault ≡ Ok ps = is in cc)
    owns-more left ps t p (Ok qs) rest own at is =
        let e : p ∷ qs ≡ ps = (let q : Ok (p ∷ qs) ≡ Ok ps = is in cc) in
        let P : List Entry → Type 0 = λ xs. Owns (last_of t xs) in
        subst P e (rest p qs own at)

    owns-step : (left : ℕ) (n : Name) (ps : List Entry) (t : Entry) (o : Option Entry) → Rest left → find n ≡ o → or_missing o (λ p. onto p (up find left p.1.tree.parent)) ≡ Ok ps → Owns (last_of t ps)
    owns-step left n ps t None rest at is = (let q : Err missing_parent ≡ Ok ps = is in cc)
    owns-step left n ps t (Some p) rest at is =
        owns-more left ps t p (up find left p.1.tree.parent) rest (finds n p at) refl is

    owns-last : (left : ℕ) (parent : Option Name) (ps : List Entry) (t : Entry) → Owns t → up find left parent ≡ Ok ps → Owns (last_of t ps)
    owns-last left None ps t own is =
        let e : [] ≡ ps = (let q : Ok [] ≡ Ok ps = is in cc) in
        let P : List Entry → Type 0 = λ xs. Owns (last_of t xs) in
        subst P e own
    owns-last zero (Some n) ps t own is = (let q : Err circular_extend ≡ Ok ps = is in cc)
    owns-last (suc left) (Some n) ps t own is =
        owns-step left n ps t (find n) (λ p qs o u. owns-last left p.1.tree.parent qs p o u) refl is

module _ (r : Registry) where
  -- what a name leads to stands at its own
  pub owns-resolved : (n : Name) (t : Entry) → resolve r n ≡ Some t → Owns r.templates t
  owns-resolved n t is = owns-first r.templates (n ∷ map (λ p. p ++ n) r.prefixes) t is

  owns-root-by : (t : Entry) (a : Result (List Entry) Fault) → Owns r.templates t → parents r t ≡ a → Owns r.templates (last_of t (or_none a))
  owns-root-by t (Err fault) own is = own
  owns-root-by t (Ok ps) own is =
      owns-last r.templates (resolve r) owns-resolved (length r.templates) t.1.tree.parent ps t own is

  -- so the root's nodes are found by its name alone
  pub owns-root : (name : Name) (t : Entry) → resolve r name ≡ Some t → entry_at (root r t).0 r.templates ≡ Some (root r t)
  owns-root name t found = owns-root-by t (parents r t) (owns-resolved name t found) refl
