-- What a loop calls its items: what is read is derived, and what is derived is read.
use Rattle.std.proofs.Common.{◌≡◌, ℕ, Bool, true, false, Option, Some, None, if◌then◌else◌, refl, sym, ◌∙◌, ap, subst}
use Rattle.tera_errors.specs.Site.{Name}
use Rattle.tera_syntax_tokens.specs.declared.token.Kind.TheVariants as k
use Rattle.tera_syntax_tokens.specs.Input.{Input, and_then, same, kind, text, next, expect}
use Rattle.tera_syntax_tokens.proofs.Order.{Orderly, Onward, onward_next, onward_then}
use Rattle.tera_syntax_expressions.specs.Headings.{Calls, value, key_and_value, name, calls, calls_behind, called}
use Rattle.tera_syntax_expressions.proofs.Steps.{and_then-some, guard, chosen, same-is, expect-some, some-pair, either, differ, alike}

abbrev at-names : Option Name × Name → Input → Option ((Option Name × Name) × Input)
at-names names i = Some (names, i)

called-got : (key : Option Name) (n : Name) (i j : Input) (z : Option Name × Name) → called key n i ≡ Some (z, j) → (kind i ≡ k.In) × (key ≡ z.0) × (n ≡ z.1) × (next i ≡ j)
unfolding called
called-got key n i j z h =
    let q = and_then-some (expect k.In i) (λ _. λ j. at-names (key, n) j) (z, j) h in
    let u = expect-some k.In i q.1 q.0 q.2 in
    let e = some-pair ((key, n), q.1) (z, j) q.3 in
    (u.0, ap (λ p. p.0) e.0, ap (λ p. p.1) e.0, sym u.1 ∙ e.1)

pub calls-got : (i j : Input) (z : Option Name × Name) → calls i ≡ Some (z, j) → Calls z.0 z.1 i j
unfolding calls name calls_behind
calls-got i j z h =
    let g = guard (same k.Name (kind i)) (calls_behind (text i) (next i)) (z, j) (go (same k.Name (kind i)) h) in
    let ni = same-is k.Name (kind i) g.0 in
    either (chosen (same k.Comma (kind (next i))) (and_then (name (next (next i))) (called (Some (text i)))) (called None (text i) (next i)) (Some (z, j)) g.1)
    (λ q. let w = guard (same k.Name (kind (next (next i)))) (called (Some (text i)) (text (next (next i))) (next (next (next i)))) (z, j)
    (two (same k.Name (kind (next (next i)))) q.1) in
    let c = called-got (Some (text i)) (text (next (next i))) (next (next (next i))) j z w.1 in
    put c.1 c.2 c.3 (key_and_value (ni, same-is k.Comma (kind (next i)) q.0) (same-is k.Name (kind (next (next i))) w.0, c.0)))
    (λ q. let c = called-got None (text i) (next i) j z q.1 in put c.1 c.2 c.3 (value (ni, c.0)))
  where
    go : (t : Bool) → and_then (if t then Some (text i, next i) else None) calls_behind ≡ Some (z, j) → (if t then calls_behind (text i) (next i) else None) ≡ Some (z, j)
    go true h = h
    go false h = cc

    two : (t : Bool) → and_then (if t then Some (text (next (next i)), next (next (next i))) else None) (called (Some (text i))) ≡ Some (z, j)
        → (if t then called (Some (text i)) (text (next (next i))) (next (next (next i))) else None) ≡ Some (z, j)
    two true h = h
    two false h = cc

    put : {key : Option Name} {n : Name} {a : Input} → key ≡ z.0 → n ≡ z.1 → a ≡ j → Calls key n i a → Calls z.0 z.1 i j
    put {key} {n} {a} e f g w = subst (λ j. Calls z.0 z.1 i j) g (subst (λ n. Calls z.0 n i a) f (subst (λ key. Calls key n i a) e w))

pub calls-is : {key : Option Name} {word : Name} {i j : Input} → Calls key word i j → calls i ≡ Some ((key, word), j)
unfolding calls name calls_behind called expect
calls-is (value {i = i} h) = rw (alike k.Name (kind i) h.0, differ k.Comma k.In (kind (next i)) h.1 (λ e. cc), alike k.In (kind (next i)) h.1) refl
calls-is (key_and_value {i = i} h g) =
    rw (alike k.Name (kind i) h.0, alike k.Comma (kind (next i)) h.1, alike k.Name (kind (next (next i))) g.0, alike k.In (kind (next (next (next i)))) g.1) refl

pub calls_lie : (size : ℕ) {key : Option Name} {word : Name} {i j : Input} → Calls key word i j → Orderly size i → Onward size i j
calls_lie size (value {i = i} h) o = let n = onward_next size i o in onward_then n (onward_next size (next i) n.orderly)
calls_lie size (key_and_value {i = i} h g) o =
    let n = onward_next size i o in
    let m = onward_next size (next i) n.orderly in
    let p = onward_next size (next (next i)) m.orderly in
    onward_then n (onward_then m (onward_then p (onward_next size (next (next (next i))) p.orderly)))
