-- Signatures of components: what is read is derived, and what is derived is read.
use Rattle.std.proofs.Common.{◌≡◌, ℕ, zero, suc, ◌<◌, ◌≤◌, List, [], ◌∷◌, ◌++◌, Bool, true, false, Option, Some, None, refl, sym, ◌∙◌, ap, subst, arith}
use Rattle.std.proofs.lemmas.List.{append_assoc, append-nil}
use Rattle.tera_errors.specs.Site.{Name}
use Rattle.tera_syntax_tree.specs.declared.component.ArgumentType.{ArgumentType}
use Rattle.tera_syntax_tree.specs.Tree.{Literal, Parameter, Signature}
use Rattle.tera_syntax_tree.specs.Definitions.{has_fit_parameters}
use Rattle.tera_syntax_tree.specs.Depth.{default_depth, parameters_depth}
use Rattle.tera_syntax_tokens.specs.declared.token.Kind.TheVariants as k
use Rattle.tera_syntax_tokens.specs.Input.{Input, Parser, and_then, same, kind, text, next, left, expect, is_word}
use Rattle.tera_syntax_expressions.specs.Headings.{name}
use Rattle.tera_syntax_expressions.specs.Literals.{written}
use Rattle.tera_syntax_expressions.specs.Parameters as r
use Rattle.tera_syntax_expressions.specs.Parameters.{DerivesType, untyped, typed, DerivesDefault, required, defaults, DerivesNamed, named, DerivesParameter, explicit, implicit, DerivesParameters, last, rest, more, DerivesAll, none, some, DerivesSignature, signs, type_of}
use Rattle.tera_syntax_expressions.proofs.Steps.{and_then-some, guard, chosen, same-is, some-pair, either, alike, differ, unlike, unlike-is, expect-some}
use Rattle.tera_syntax_expressions.proofs.Extent.{token, word-left}
use Rattle.tera_syntax_expressions.proofs.Written.{what_is_written, written_is, literal-left}
use Rattle.tera_syntax_expressions.proofs.ParameterRows.{rest_named, parameters_behind, parameters_rest, parameters_next, parameters_comma, parameters_end}

-- What is read is derived

name-got : (i j : Input) (n : Name) → name i ≡ Some (n, j) → (kind i ≡ k.Name) × (text i ≡ n) × (next i ≡ j)
unfolding name
name-got i j n h =
    let g = guard (same k.Name (kind i)) (Some (text i, next i)) (n, j) h in
    let s = some-pair (text i, next i) (n, j) g.1 in
    (same-is k.Name (kind i) g.0, s.0, s.1)

type-got : (i j : Input) (t : Option ArgumentType) → r.parameter_type i ≡ Some (t, j) → DerivesType t i j
unfolding r.parameter_type
type-got i j t h =
    either (chosen (same k.Colon (kind i)) (r.named_type (next i)) (Some (None, i)) (Some (t, j)) h)
    (λ q. let g = guard (is_word (kind (next i))) (r.type_at (type_of (text (next i))) (next i)) (t, j) q.1 in
    go (type_of (text (next i))) refl (same-is k.Colon (kind i) q.0) g.0 g.1)
    (λ q. let s = some-pair (None, i) (t, j) q.1 in
    subst (λ t. DerivesType t i j) s.0 (subst (λ j. DerivesType None i j) s.1 (untyped (unlike-is k.Colon (kind i) q.0))))
  where
    go : (o : Option ArgumentType) → type_of (text (next i)) ≡ o → kind i ≡ k.Colon → is_word (kind (next i)) ≡ true → r.type_at o (next i) ≡ Some (t, j) → DerivesType t i j
    go None e c w h = absurd (cc)
    go (Some u) e c w h =
        let s = some-pair (Some u, next (next i)) (t, j) h in
        subst (λ t. DerivesType t i j) s.0 (subst (λ j. DerivesType (Some u) i j) s.1 (typed c w e))

-- the default of a parameter, no deeper than b
abbrev Default : ℕ → Input → Option Literal → Input → Type 0
Default b i d j = DerivesDefault d i j × (default_depth d ≤ b)

default-got : (b : ℕ) (i j : Input) (d : Option Literal) → r.default_value b i ≡ Some (d, j) → Default b i d j
unfolding r.default_value
default-got b i j d h =
    either (chosen (same k.Assign (kind i)) (and_then (written b (next i)) (λ x. λ j. Some (Some x, j))) (Some (None, i)) (Some (d, j)) h)
    (λ q. let p = and_then-some (written b (next i)) (λ x. λ j. Some (Some x, j)) (d, j) q.1 in
    let w = what_is_written b (next i) p.1 p.0 p.2 in
    let s = some-pair (Some p.0, p.1) (d, j) p.3 in
    subst (λ d. Default b i d j) s.0 (subst (λ j. Default b i (Some p.0) j) s.1 (defaults (same-is k.Assign (kind i) q.0) w.0, w.1)))
    (λ q. let s = some-pair (None, i) (d, j) q.1 in
    subst (λ d. Default b i d j) s.0 (subst (λ j. Default b i None j) s.1 (required (unlike-is k.Assign (kind i) q.0), omega arith)))

abbrev by-name : Bool → Name → Option ArgumentType → Option Literal → Parameter
by-name is_implicit n t d = record { name = n; is_implicit = is_implicit; of_type = t; default = d }

abbrev Named : ℕ → Bool → Name → Input → Parameter → Input → Type 0
Named b is_implicit n i p j = DerivesNamed is_implicit n p i j × (default_depth p.default ≤ b)

named-got : (b : ℕ) (is_implicit : Bool) (n : Name) (i j : Input) (p : Parameter) → r.named_parameter b is_implicit n i ≡ Some (p, j) → Named b is_implicit n i p j
unfolding r.named_parameter
named-got b is_implicit n i j p h =
    let whole : Option ArgumentType → Option Literal → Parser Parameter = λ t d. λ j. Some (by-name is_implicit n t d, j) in
    let t = and_then-some (r.parameter_type i) (λ t. λ j. and_then (r.default_value b j) (whole t)) (p, j) h in
    let d = and_then-some (r.default_value b t.1) (whole t.0) (p, j) t.3 in
    let s = some-pair (by-name is_implicit n t.0 d.0, d.1) (p, j) d.3 in
    let w = default-got b t.1 d.1 d.0 d.2 in
    subst (λ p. Named b is_implicit n i p j) s.0 (subst (λ j. Named b is_implicit n i (by-name is_implicit n t.0 d.0) j) s.1 (named (type-got i t.1 t.0 t.2) w.0, w.1))

by-name-got : (b : ℕ) (is_implicit : Bool) (i j : Input) (p : Parameter) → r.parameter_by_name b is_implicit i ≡ Some (p, j) → (kind i ≡ k.Name) × Named b is_implicit (text i) (next i) p j
unfolding r.parameter_by_name
by-name-got b is_implicit i j p h =
    let q = and_then-some (name i) (r.named_parameter b is_implicit) (p, j) h in
    let n = name-got i q.1 q.0 q.2 in
    let w = named-got b is_implicit q.0 q.1 j p q.3 in
    (n.0, subst (λ m. Named b is_implicit m (next i) p j) (sym n.1) (subst (λ a. Named b is_implicit q.0 a p j) (sym n.2) w))

parameter-got : (b : ℕ) (i j : Input) (p : Parameter) → r.parameter b i ≡ Some (p, j) → DerivesParameter p i j × (default_depth p.default ≤ b)
unfolding r.parameter
parameter-got b i j p h =
    either (chosen (same k.At (kind i)) (r.parameter_by_name b true (next i)) (r.parameter_by_name b false i) (Some (p, j)) h)
    (λ q. let w = by-name-got b true (next i) j p q.1 in (implicit (same-is k.At (kind i) q.0) w.0 w.1.0, w.1.1))
    (λ q. let w = by-name-got b false i j p q.1 in (explicit w.0 w.1.0, w.1.1))

-- a parameter behind those that were found
record GotOne (b : ℕ) (found : List Parameter) (i : Input) (z : List Parameter) (j : Input) : Type 0 where
  parameter : Parameter
  derived : DerivesParameter parameter i j
  joined : z ≡ found ++ parameter ∷ []
  fits : default_depth parameter.default ≤ b

one-got : (b : ℕ) (found z : List Parameter) (i j : Input) → r.with_parameter b found i ≡ Some (z, j) → GotOne b found i z j
unfolding r.with_parameter
one-got b found z i j h =
    let q = and_then-some (r.parameter b i) (λ p. λ j. Some (found ++ p ∷ [], j)) (z, j) h in
    let s = some-pair (found ++ q.0 ∷ [], q.1) (z, j) q.3 in
    let w = parameter-got b i q.1 q.0 q.2 in
    record { parameter = q.0; derived = subst (λ a. DerivesParameter q.0 i a) s.1 w.0; joined = sym s.0; fits = w.1 }

-- parameters behind those that were found
record GotParameters (b : ℕ) (found : List Parameter) (i : Input) (z : List Parameter × Option Name) (j : Input) : Type 0 where
  parameters : List Parameter
  derived : DerivesParameters parameters z.1 i j
  joined : z.0 ≡ found ++ parameters
  fits : parameters_depth parameters ≤ b

rest-got : (b : ℕ) (found : List Parameter) (i j : Input) (z : List Parameter × Option Name) → kind i ≡ k.Spread → r.rest_name found (next i) ≡ Some (z, j) → GotParameters b found i z j
unfolding r.rest_name
rest-got b found i j z e h =
    let q = and_then-some (name (next i)) (λ n. λ j. Some ((found, Some n), j)) (z, j) h in
    let n = name-got (next i) q.1 q.0 q.2 in
    let s = some-pair ((found, Some q.0), q.1) (z, j) q.3 in
    let m : Some (text (next i)) ≡ z.1 = ap Some n.1 ∙ ap (λ z. z.1) s.0 in
    let d = subst (λ o. DerivesParameters [] o i (next (next i))) m (rest e n.0) in
    record { parameters = []; derived = subst (λ a. DerivesParameters [] z.1 i a) (n.2 ∙ s.1) d; joined = sym (ap (λ z. z.0) s.0) ∙ sym (append-nil found); fits = omega arith }

parameters-got : (b n : ℕ) (found : List Parameter) (i j : Input) (z : List Parameter × Option Name) → r.parameters_from b n found i ≡ Some (z, j) → GotParameters b found i z j
unfolding r.parameters_from
parameters-got b zero found i j z h = absurd (cc)
parameters-got b (suc n) found i j z h =
    let further = r.parameters_from b n in
    either (chosen (same k.Spread (kind i)) (r.rest_name found (next i)) (and_then (r.with_parameter b found i) (r.behind_parameter further)) (Some (z, j)) h)
    (λ q. rest-got b found i j z (same-is k.Spread (kind i) q.0) q.1)
    (λ q. let t = and_then-some (r.with_parameter b found i) (r.behind_parameter further) (z, j) q.1 in
    let w = one-got b found t.0 i t.1 t.2 in
    let f = w.fits in
    either (chosen (same k.Comma (kind t.1)) (further t.0 (next t.1)) (Some ((t.0, None), t.1)) (Some (z, j)) t.3)
    (λ c. let v = parameters-got b n t.0 (next t.1) j z c.1 in
    let g = v.fits in
    record {
      parameters = w.parameter ∷ v.parameters;
      derived = more w.derived (same-is k.Comma (kind t.1) c.0) v.derived;
      joined = v.joined ∙ ap (λ f. f ++ v.parameters) w.joined ∙ append_assoc found (w.parameter ∷ []) v.parameters;
      fits = omega (arith, f, g);
    })
    (λ c. let s = some-pair ((t.0, None), t.1) (z, j) c.1 in
    let d = subst (λ o. DerivesParameters (w.parameter ∷ []) o i t.1) (ap (λ z. z.1) s.0) (last w.derived) in
    record { parameters = w.parameter ∷ []; derived = subst (λ a. DerivesParameters (w.parameter ∷ []) z.1 i a) s.1 d; joined = sym (ap (λ z. z.0) s.0) ∙ w.joined; fits = omega (arith, f) }))

abbrev All : ℕ → Input → List Parameter × Option Name → Input → Type 0
All b i z j = DerivesAll z.0 z.1 i j × (parameters_depth z.0 ≤ b)

all-got : (b : ℕ) (i j : Input) (z : List Parameter × Option Name) → r.all_parameters b i ≡ Some (z, j) → All b i z j
unfolding r.all_parameters
all-got b i j z h =
    either (chosen (same k.RightParenthesis (kind i)) (Some (([], None), i)) (r.parameters_from b (left i) [] i) (Some (z, j)) h)
    (λ q. let s = some-pair (([], None), i) (z, j) q.1 in
    subst (λ z. All b i z j) s.0 (subst (λ j. All b i ([], None) j) s.1 (none, omega arith)))
    (λ q. let w = parameters-got b (left i) [] i j z q.1 in
    subst (λ ps. DerivesAll ps z.1 i j × (parameters_depth ps ≤ b)) (sym w.joined) (some w.derived, w.fits))

abbrev signed : Name → List Parameter × Option Name → Signature
signed n z = record { name = n; parameters = z.0; rest = z.1 }

-- what is read is derived, and its defaults are no deeper than the limit
pub what_is_signed : (b : ℕ) (i j : Input) (s : Signature) → r.signature b i ≡ Some (s, j) → DerivesSignature s i j × (parameters_depth s.parameters ≤ b)
unfolding r.signature r.signature_from
what_is_signed b i j s h =
    let P : Signature → Input → Type 0 = λ s j. DerivesSignature s i j × (parameters_depth s.parameters ≤ b) in
    let g = guard (is_word (kind i)) (and_then (expect k.LeftParenthesis (next i)) (λ _. λ j. and_then (r.all_parameters b j) (r.signature_by (text i)))) (s, j) h in
    let o = and_then-some (expect k.LeftParenthesis (next i)) (λ _. λ j. and_then (r.all_parameters b j) (r.signature_by (text i))) (s, j) g.1 in
    let u = expect-some k.LeftParenthesis (next i) o.1 o.0 o.2 in
    let a = and_then-some (r.all_parameters b o.1) (r.signature_by (text i)) (s, j) o.3 in
    let w = subst (λ m. All b m a.0 a.1) u.1 (all-got b o.1 a.1 a.0 a.2) in
    let c = and_then-some (expect k.RightParenthesis a.1) (λ _. r.fit (signed (text i) a.0)) (s, j) a.3 in
    let v = expect-some k.RightParenthesis a.1 c.1 c.0 c.2 in
    let f = guard (has_fit_parameters (signed (text i) a.0)) (Some (signed (text i) a.0, c.1)) (s, j) c.3 in
    let e = some-pair (signed (text i) a.0, c.1) (s, j) f.1 in
    subst (λ s. P s j) e.0 (subst (λ j. P (signed (text i) a.0) j) (sym v.1 ∙ e.1) (signs g.0 u.0 w.0 v.0 f.0, w.1))

-- How many tokens a parameter takes, and with which it begins

shorter-type : {t : Option ArgumentType} {i j : Input} → DerivesType t i j → left j ≤ left i
shorter-type (untyped n) = omega arith
shorter-type (typed {i = i} c w e) = let t1 = token k.Colon i c (λ e. cc) in let t2 = word-left (next i) w in omega arith

shorter-default : {d : Option Literal} {i j : Input} → DerivesDefault d i j → left j ≤ left i
shorter-default (required n) = omega arith
shorter-default (defaults {i = i} e d) = let t1 = token k.Assign i e (λ e. cc) in let p1 = literal-left d in omega arith

shorter-named : {is_implicit : Bool} {n : Name} {p : Parameter} {i j : Input} → DerivesNamed is_implicit n p i j → left j ≤ left i
shorter-named (named t d) = let p1 = shorter-type t in let p2 = shorter-default d in omega arith

shorter-parameter : {p : Parameter} {i j : Input} → DerivesParameter p i j → left j < left i
shorter-parameter (explicit {i = i} n d) = let t1 = token k.Name i n (λ e. cc) in let p1 = shorter-named d in omega arith
shorter-parameter (implicit {i = i} a n d) = let t1 = token k.At i a (λ e. cc) in let t2 = token k.Name (next i) n (λ e. cc) in let p1 = shorter-named d in omega arith

parameter-starts : {p : Parameter} {i j : Input} → DerivesParameter p i j → (kind i ≡ k.Spread → ⊥) × (kind i ≡ k.RightParenthesis → ⊥)
parameter-starts (explicit n d) = (λ q. let e : k.Name ≡ k.Spread = sym n ∙ q in cc, λ q. let e : k.Name ≡ k.RightParenthesis = sym n ∙ q in cc)
parameter-starts (implicit a n d) = (λ q. let e : k.At ≡ k.Spread = sym a ∙ q in cc, λ q. let e : k.At ≡ k.RightParenthesis = sym a ∙ q in cc)

parameters-start : {ps : List Parameter} {o : Option Name} {i j : Input} → DerivesParameters ps o i j → kind i ≡ k.RightParenthesis → ⊥
parameters-start (last d) = (parameter-starts d).1
parameters-start (rest e n) = λ q. let e : k.Spread ≡ k.RightParenthesis = sym e ∙ q in cc
parameters-start (more d c q) = (parameter-starts d).1

-- What is derived is read

name-is : (i : Input) → kind i ≡ k.Name → name i ≡ Some (text i, next i)
unfolding name
name-is i h = rw (alike k.Name (kind i) h) refl

type-is : {t : Option ArgumentType} {i j : Input} → DerivesType t i j → r.parameter_type i ≡ Some (t, j)
unfolding r.parameter_type
type-is (untyped {i = i} n) = rw (unlike k.Colon (kind i) n) refl
type-is (typed {i = i} c w e) = rw (alike k.Colon (kind i) c, w, e) refl

default-is : (b : ℕ) {d : Option Literal} {i j : Input} → DerivesDefault d i j → default_depth d ≤ b → r.default_value b i ≡ Some (d, j)
unfolding r.default_value
default-is b (required {i = i} n) le = rw (unlike k.Assign (kind i) n) refl
default-is b (defaults {i = i} e d) le = rw (alike k.Assign (kind i) e, written_is d b le) refl

named-is : (b : ℕ) {is_implicit : Bool} {n : Name} {p : Parameter} {i j : Input} → DerivesNamed is_implicit n p i j → default_depth p.default ≤ b → r.named_parameter b is_implicit n i ≡ Some (p, j)
unfolding r.named_parameter
named-is b (named t d) le = rw (type-is t, default-is b d le) refl

parameter-is : (b : ℕ) {p : Parameter} {i j : Input} → DerivesParameter p i j → default_depth p.default ≤ b → r.parameter b i ≡ Some (p, j)
unfolding r.parameter r.parameter_by_name
parameter-is b (explicit {i = i} n d) le = rw (differ k.At k.Name (kind i) n (λ e. cc), name-is i n) (named-is b d le)
parameter-is b (implicit {i = i} a n d) le = rw (alike k.At (kind i) a, name-is (next i) n) (named-is b d le)

one-is : (b : ℕ) (found : List Parameter) {p : Parameter} {i j : Input} → DerivesParameter p i j → default_depth p.default ≤ b → r.with_parameter b found i ≡ Some (found ++ p ∷ [], j)
unfolding r.with_parameter
one-is b found d le = rw (parameter-is b d le) refl

first-is : (b n : ℕ) (found : List Parameter) {p : Parameter} {i j : Input} → DerivesParameter p i j → default_depth p.default ≤ b → r.parameters_from b (suc n) found i ≡ parameters_behind b n (found ++ p ∷ []) j
first-is b n found {i = i} d le =
    parameters_next b n found i (unlike k.Spread (kind i) (parameter-starts d).0) ∙ ap (λ o. and_then o (parameters_behind b n)) (one-is b found d le)

parameters-are : {ps : List Parameter} {o : Option Name} {i j : Input} → DerivesParameters ps o i j → (kind j ≡ k.Comma → ⊥) → (b n : ℕ) (found : List Parameter) → parameters_depth ps ≤ b → left i ≤ n
    → r.parameters_from b n found i ≡ Some ((found ++ ps, o), j)
parameters-are (last d) e b zero found le fu = let p1 = shorter-parameter d in absurd (omega arith)
parameters-are (last {p = p} {j = j} d) e b (suc n) found le fu =
    first-is b n found d (omega arith) ∙ parameters_end b n (found ++ p ∷ []) j (unlike k.Comma (kind j) e)
parameters-are (rest {i = i} s w) e b zero found le fu = let t1 = token k.Spread i s (λ e. cc) in absurd (omega arith)
parameters-are (rest {i = i} s w) e b (suc n) found le fu =
    parameters_rest b n found i (alike k.Spread (kind i) s) ∙ rest_named found (next i) (next (next i)) (text (next i)) (name-is (next i) w)
    ∙ ap (λ ps. Some ((ps, Some (text (next i))), next (next i))) (sym (append-nil found))
parameters-are (more d c q) e b zero found le fu = let p1 = shorter-parameter d in absurd (omega arith)
parameters-are (more {p = p} {ps = ps} {r = o} {a = a} {j = j} d c q) e b (suc n) found le fu =
    let p1 = shorter-parameter d in let t1 = token k.Comma a c (λ e. cc) in
    first-is b n found d (omega arith) ∙ parameters_comma b n (found ++ p ∷ []) a (alike k.Comma (kind a) c)
    ∙ parameters-are q e b n (found ++ p ∷ []) (omega arith) (omega arith)
    ∙ ap (λ ps. Some ((ps, o), j)) (append_assoc found (p ∷ []) ps)

all-are : {ps : List Parameter} {o : Option Name} {i j : Input} → DerivesAll ps o i j → kind j ≡ k.RightParenthesis → (b : ℕ) → parameters_depth ps ≤ b → r.all_parameters b i ≡ Some ((ps, o), j)
unfolding r.all_parameters
all-are (none {i = i}) e b le = rw (alike k.RightParenthesis (kind i) e) refl
all-are (some {i = i} {j = j} d) e b le =
    rw (unlike k.RightParenthesis (kind i) (parameters-start d)) (parameters-are d (λ q. let f : k.RightParenthesis ≡ k.Comma = sym e ∙ q in cc) b (left i) [] le (omega arith))

-- what is derived is read, where its defaults are no deeper than the limit
pub signature_is : {s : Signature} {i j : Input} → DerivesSignature s i j → (b : ℕ) → parameters_depth s.parameters ≤ b → r.signature b i ≡ Some (s, j)
unfolding r.signature r.signature_from expect
signature_is (signs {i = i} {a = a} w o d c f) b le = rw (w, alike k.LeftParenthesis (kind (next i)) o, all-are d c b le, alike k.RightParenthesis (kind a) c, f) refl
