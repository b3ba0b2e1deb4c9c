-- The way up to the last parent of a template, step by step.
use Rattle.std.proofs.Common.{◌≡◌, ℕ, zero, suc, ◌+◌, ◌<◌, ◌≤◌, List, [], ◌∷◌, ◌++◌, length, Option, Some, None, Result, Ok, Err, refl, sym, ap, ◌∙◌, append_assoc, arith, slice_get}
use Rattle.std.proofs.lemmas.List.{append-nil, length-append}
use Rattle.tera_errors.specs.Answer.{SeenError}
use Rattle.tera_errors.specs.Fault.{Fault, circular_extend, missing_parent}
use Rattle.tera_errors.specs.Site.{Name}
use Rattle.tera_meaning.specs.Registry.{Registry, Entry}
use Rattle.tera_meaning.specs.Resolve.{onto, or_missing, or_none, up, resolve, parents, last_of, root}
use Rattle.tera_registry.specs.declared.roots.Root.{Root}
use Rattle.tera_registry.specs.Links.{IsChain, Stands, IsTop, IsFurther}

-- What a chain says of the way up.

pub chain-up : (r : Registry) (left : ℕ) (o : Option Name) (ps : List Entry) → IsChain r o ps → length ps ≤ left → up (resolve r) left o ≡ Ok ps
chain-up r left o [] c le = ap (up (resolve r) left) c
chain-up r zero o (p ∷ ps) c le = absurd (omega arith)
chain-up r (suc left) o (p ∷ ps) c le =
    ap (up (resolve r) (suc left)) c.1 ∙ ap (λ f. or_missing f (λ t. onto t (up (resolve r) left t.1.tree.parent))) c.2 ∙ ap (onto p) (chain-up r left p.1.tree.parent ps c.3 (omega arith))

pub chain-long : (r : Registry) (left : ℕ) (o : Option Name) (ps : List Entry) → IsChain r o ps → left < length ps → up (resolve r) left o ≡ Err circular_extend
chain-long r left o [] c lt = absurd (omega arith)
chain-long r zero o (p ∷ ps) c lt = ap (up (resolve r) 0) c.1
chain-long r (suc left) o (p ∷ ps) c lt =
    ap (up (resolve r) (suc left)) c.1 ∙ ap (λ f. or_missing f (λ t. onto t (up (resolve r) left t.1.tree.parent))) c.2 ∙ ap (onto p) (chain-long r left p.1.tree.parent ps c.3 (omega arith))

-- the parents passed so far, before those that are still to be found
abbrev after_these : List Entry → Result (List Entry) Fault → Result (List Entry) Fault
after_these ps (Ok qs) = Ok (ps ++ qs)
after_these ps (Err fault) = Err fault

after-onto : (ps : List Entry) (t : Entry) (q : Result (List Entry) Fault) → after_these ps (onto t q) ≡ after_these (ps ++ t ∷ []) q
after-onto ps t (Ok qs) = ap Ok (sym (append_assoc ps (t ∷ []) qs))
after-onto ps t (Err fault) = refl

nothing-before : (q : Result (List Entry) Fault) → after_these [] q ≡ q
nothing-before (Ok qs) = refl
nothing-before (Err fault) = refl

last-past : (t v : Entry) (ps qs : List Entry) → last_of t (ps ++ v ∷ qs) ≡ last_of v qs
last-past t v [] qs = refl
last-past t v (p ∷ ps) qs = last-past p v ps qs

-- How far the way up from t has come: at u, after so many steps, with so many left.
pub record Climbed (r : Registry) (t u : Entry) (steps left : ℕ) : Type 0 where
  pub passed : List Entry
  pub as_many : length passed ≡ steps
  pub is : parents r t ≡ after_these passed (up (resolve r) left u.1.tree.parent)
  pub chain : (ps : List Entry) → IsChain r u.1.tree.parent ps → IsChain r t.1.tree.parent (passed ++ ps)
  pub last : (ps : List Entry) → last_of t (passed ++ ps) ≡ last_of u ps

pub climb-begins : (r : Registry) (t : Entry) (left : ℕ) → left ≡ length r.templates → Climbed r t t 0 left
climb-begins r t left e = record {
  passed = [];
  as_many = refl;
  is = sym (nothing-before (up (resolve r) left t.1.tree.parent) ∙ ap (λ k. up (resolve r) k t.1.tree.parent) e);
  chain = λ ps c. c;
  last = λ ps. refl;
}

pub climb-misses : (r : Registry) (t u : Entry) (steps left : ℕ) (n : Name) → Climbed r t u steps left → 0 < left → u.1.tree.parent ≡ Some n → resolve r n ≡ None → parents r t ≡ Err missing_parent
climb-misses r t u steps zero n c some e none = absurd (omega arith)
climb-misses r t u steps (suc left) n c some e none =
    c.is ∙ ap (λ o. after_these c.passed (up (resolve r) (suc left) o)) e ∙ ap (λ o. after_these c.passed (or_missing o (λ v. onto v (up (resolve r) left v.1.tree.parent)))) none

pub climb-on : (r : Registry) (t u v : Entry) (steps left rest : ℕ) (n : Name) → Climbed r t u steps left → left ≡ suc rest → u.1.tree.parent ≡ Some n → resolve r n ≡ Some v → Climbed r t v (steps + 1) rest
climb-on r t u v steps left rest n c is e there = record {
  passed = c.passed ++ v ∷ [];
  as_many = length-append c.passed (v ∷ []) ∙ ap (λ k. k + 1) c.as_many;
  is = c.is ∙ ap (λ k. after_these c.passed (up (resolve r) k u.1.tree.parent)) is ∙ ap (λ o. after_these c.passed (up (resolve r) (suc rest) o)) e ∙ ap (λ o. after_these c.passed (or_missing o (λ w. onto w (up (resolve r) rest w.1.tree.parent)))) there ∙ after-onto c.passed v (up (resolve r) rest v.1.tree.parent);
  chain = λ ps d. (let whole : IsChain r t.1.tree.parent (c.passed ++ v ∷ ps) = c.chain (v ∷ ps) (n, e, there, d) in rw (append_assoc c.passed (v ∷ []) ps) whole);
  last = λ ps. ap (last_of t) (append_assoc c.passed (v ∷ []) ps) ∙ last-past t v c.passed ps;
}

pub climb-again : (r : Registry) (t u : Entry) (steps left : ℕ) (n : Name) → Climbed r t u steps left → left ≡ 0 → u.1.tree.parent ≡ Some n → parents r t ≡ Err circular_extend
climb-again r t u steps zero n c none e = c.is ∙ ap (λ o. after_these c.passed (up (resolve r) 0 o)) e
climb-again r t u steps (suc left) n c none e = absurd (omega arith)

-- the top of what is known further up is that of the template
pub climb-meets : (r : Registry) (t u : Entry) (steps left most : ℕ) (top : Root) (result : Result Root SeenError) → Climbed r t u steps left → most ≡ length r.templates → steps + left ≡ most → Stands r u top → IsFurther top steps most result → IsTop r t result
climb-meets r t u steps left most top (Ok far) c all sum s f = (
  omega (arith, f.2, all),
  record {
    above = c.passed ++ s.above;
    chain = c.chain s.above s.chain;
    as_many = length-append c.passed s.above ∙ (omega (arith, c.as_many, s.as_many, f.1));
    root_at = ap (slice_get r.templates) f.0 ∙ s.root_at ∙ ap Some (sym (c.last s.above));
  },
)
climb-meets r t u steps left most top (Err None) c all sum s f = tt
climb-meets r t u steps left most top (Err (Some fault)) c all sum s f =
    (let q : Some fault ≡ Some circular_extend = f.0 in
    let same : fault ≡ circular_extend = cc in
    c.is ∙ ap (after_these c.passed) (chain-long r left u.1.tree.parent s.above s.chain (omega (arith, s.as_many, sum, f.1))) ∙ ap Err (sym same))

-- where nothing is above u, that is the top
pub climb-ends : (r : Registry) (t u : Entry) (steps left i : ℕ) → Climbed r t u steps left → steps ≤ length r.templates → u.1.tree.parent ≡ None → slice_get r.templates i ≡ Some u → IsTop r t (Ok (record { root = i; parents = steps }))
climb-ends r t u steps left i c le none at = (
  le,
  record {
    above = c.passed;
    chain = rw (sym (append-nil c.passed)) (c.chain [] none);
    as_many = c.as_many;
    root_at = at ∙ ap Some (sym (c.last []) ∙ ap (last_of t) (append-nil c.passed));
  },
)

-- what stands at the top of a template are its parents and its root
pub top-parents : (r : Registry) (t : Entry) (top : Root) → IsTop r t (Ok top) → (ps : List Entry) × (parents r t ≡ Ok ps)
top-parents r t top i = (i.1.above, chain-up r (length r.templates) t.1.tree.parent i.1.above i.1.chain (omega (arith, i.0, i.1.as_many)))

pub top-root : (r : Registry) (t : Entry) (top : Root) → IsTop r t (Ok top) → slice_get r.templates top.root ≡ Some (root r t)
top-root r t top i =
    let e = chain-up r (length r.templates) t.1.tree.parent i.1.above i.1.chain (omega (arith, i.0, i.1.as_many)) in
    i.1.root_at ∙ ap Some (sym (ap (λ o. last_of t (or_none o)) e))
