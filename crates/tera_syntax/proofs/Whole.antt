-- An expression, filters, a signature or a call that are all from here to the end of a tag.
use Rattle.std.proofs.Common.{◌≡◌, ℕ, zero, suc, ◌≤◌, ◌<◌, nat_lt, length, List, Bool, true, false, ◌&&◌, Some, None, if◌then◌else◌, bytes_eq, codes, refl, ap, ap₂, ◌∙◌, subst, arith}
use Rattle.std.proofs.lemmas.Slice.Eq.{bytes_eq-Decides}
use Rattle.tera_errors.specs.Site.{Text}
use Rattle.std.proofs.lemmas.Grind.{common_steps}
use Rattle.tera_syntax_tokens.specs.declared.token.Kind.TheVariants as k
use Rattle.tera_syntax_tokens.specs.declared.token.Kind.{Kind}
use Rattle.tera_syntax_tokens.specs.Input.{Input, Parsed, begin, kind, text, next, span, same, is_word}
use Rattle.tera_syntax_tokens.specs.Token.{Token}
use Rattle.tera_syntax_expressions.specs.Expressions.{Deep, expr, filters, attributes}
use Rattle.tera_syntax_expressions.specs.Parameters.{DerivesSignature, signature}
use Rattle.tera_syntax_expressions.specs.Arguments.{begins_attribute}
use Rattle.tera_syntax_tree.specs.Tree.{Expr, Entries, Filters, Signature, Node}
use Rattle.tera_syntax_tree.specs.Depth.{depth, entries_depth, filters_depth, parameters_depth}
use Rattle.tera_syntax_expressions.specs.Grammar.{Derives, DerivesAttributes, DerivesFilters}
use Rattle.tera_syntax.specs.Grammar.{DerivesWhole, whole, DerivesPipe, pipe, Begins, Defines, defines}
use Rattle.tera_syntax.specs.Heads.{Head, CallHead, first, is_begun_by, is_component}
use Rattle.tera_syntax.specs.Reader as r
use Rattle.tera_syntax_expressions.proofs.Steps.{guard, alike, same-is}
use Rattle.tera_syntax_expressions.proofs.Sound.{what_is_read}
use Rattle.tera_syntax_expressions.proofs.Complete.{complete}
use Rattle.tera_syntax_expressions.proofs.Sections.{filters_are_derived, filters_are_read}
use Rattle.tera_syntax_expressions.proofs.AttributeLaws.{attributes_are_derived, attributes_are_read}
use Rattle.tera_syntax_expressions.proofs.Signatures.{what_is_signed, signature_is}

pub both : (a b : Bool) → (a && b) ≡ true → (a ≡ true) × (b ≡ true)
both true b h = (refl, h)
both false b h = absurd (cc)

ended_by : {A : Type 0} (q : Bool) (x y : A) → (if q then Some x else None) ≡ Some y → (q ≡ true) × (x ≡ y)
ended_by true x y h = (refl, cc)
ended_by false x y h = absurd (cc)

ended_from : {A B : Type 0} (taken : A → B) (o : Parsed A) (y : B) → r.ended taken o ≡ Some y → (p : A × Input) × (o ≡ Some p) × (kind p.1 ≡ k.End) × (taken p.0 ≡ y)
ended_from taken None y h = absurd (cc)
ended_from taken (Some p) y h =
    let e = ended_by (same k.End (kind p.1)) (taken p.0) y h in
    (p, refl, same-is k.End (kind p.1) e.0, e.1)

pub whole_sound : (limit : ℕ) (i : Input) (x : Expr) → r.whole limit i ≡ Some x → DerivesWhole x i × (depth x ≤ limit)
unfolding r.whole
whole_sound limit i x h =
    let p = ended_from (λ (d : Deep). d.expr) (expr limit 0 i) x h in
    let d = what_is_read limit i p.0.1 p.0.0 p.1 in
    (whole (subst (λ x. Derives 0 x i p.0.1) p.3 d.0) p.2, subst (λ x. depth x ≤ limit) p.3 d.2)

pub whole_complete : {x : Expr} {i : Input} → DerivesWhole x i → (limit : ℕ) → depth x ≤ limit → r.whole limit i ≡ Some x
unfolding r.whole
whole_complete (whole {x = x} {i = i} {end = j} d e) limit le = rw (complete x i j d e limit le, alike k.End (kind j) e) refl

pub pipe_sound : (limit : ℕ) (i : Input) (fs : Filters) → r.pipe limit i ≡ Some fs → DerivesPipe fs i × (filters_depth fs ≤ limit)
unfolding r.pipe
pipe_sound limit i fs h =
    let p = ended_from (λ (p : Filters × ℕ). p.0) (filters limit i) fs h in
    let d = filters_are_derived limit i p.0.1 p.0.0 p.1 in
    (pipe (subst (λ fs. DerivesFilters fs i p.0.1) p.3 d.0) p.2, subst (λ fs. filters_depth fs ≤ limit) p.3 d.2)

pub pipe_complete : {fs : Filters} {i : Input} → DerivesPipe fs i → (limit : ℕ) → filters_depth fs ≤ limit → r.pipe limit i ≡ Some fs
unfolding r.pipe
pipe_complete (pipe {fs = fs} {i = i} {end = j} d e) limit le = rw (filters_are_read fs i j d e limit le, alike k.End (kind j) e) refl

pub signed_sound : (limit : ℕ) (i : Input) (s : Signature) → r.signed limit i ≡ Some s → (j : Input) × DerivesSignature s i j × (kind j ≡ k.End) × (parameters_depth s.parameters ≤ limit)
unfolding r.signed
signed_sound limit i s h =
    let p = ended_from (λ (s : Signature). s) (signature limit i) s h in
    let d = what_is_signed limit i p.0.1 p.0.0 p.1 in
    (p.0.1, subst (λ s. DerivesSignature s i p.0.1) p.3 d.0, p.2, subst (λ s. parameters_depth s.parameters ≤ limit) p.3 d.1)

pub signed_complete : {s : Signature} {i j : Input} → DerivesSignature s i j → kind j ≡ k.End → (limit : ℕ) → parameters_depth s.parameters ≤ limit → r.signed limit i ≡ Some s
unfolding r.signed
signed_complete {j = j} d e limit le = rw (signature_is d limit le, alike k.End (kind j) e) refl

-- A tag that begins with a word

pub begun_sound : (word : Text) (tokens : List Token) → is_begun_by word tokens ≡ true → Begins word tokens
begun_sound word tokens e =
    let p = both (same k.Name (first tokens)) (bytes_eq (text (begin false tokens)) word) e in
    (same-is k.Name (first tokens) p.0, (bytes_eq-Decides (text (begin false tokens)) word).0 p.1)

pub begun_complete : (word : Text) (tokens : List Token) → Begins word tokens → is_begun_by word tokens ≡ true
begun_complete word tokens b =
    ap₂ (λ x y. x && y) (alike k.Name (first tokens) b.0) (ap (λ w. bytes_eq w word) b.1 ∙ (bytes_eq-Decides word word).1 refl)

-- A tag that defines a component

pub defines_sound : (limit : ℕ) (tokens : List Token) (s : Signature) → is_component tokens ≡ true → r.signed limit (next (begin false tokens)) ≡ Some s → Defines s tokens × (parameters_depth s.parameters ≤ limit)
defines_sound limit tokens s e h =
    let w = signed_sound limit (next (begin false tokens)) s h in
    (defines (begun_sound (codes "component") tokens e) w.1 w.2, w.3)

pub defines_complete : {s : Signature} {tokens : List Token} → Defines s tokens → (limit : ℕ) → parameters_depth s.parameters ≤ limit → (is_component tokens ≡ true) × (r.signed limit (next (begin false tokens)) ≡ Some s)
defines_complete {tokens = tokens} (defines b d e) limit le = (begun_complete (codes "component") tokens b, signed_complete d e limit le)

-- a call's name and attributes, from behind the `<` that stands at a position
pub record Calls (limit from : ℕ) (i : Input) (head : Head) : Type 0 where
  pub attributes : Entries
  pub position : Input
  pub word : is_word (kind i) ≡ true
  pub derived : DerivesAttributes attributes (next i) position
  pub shut : kind position ≡ k.Greater
  pub end : kind (next position) ≡ k.End
  pub made : CallHead (text i) attributes (span from (next position)) ≡ head
  pub fits : entries_depth attributes ≤ limit

called_from : (limit from : ℕ) (i : Input) (head : Head) (o : Parsed (Entries × ℕ)) → is_word (kind i) ≡ true → attributes limit (next i) ≡ o → r.call_ended (text i) from o ≡ Some head → Calls limit from i head
called_from limit from i head None w e h = absurd (cc)
called_from limit from i head (Some p) w e h =
    let made = Some (CallHead (text i) p.0.0 (span from (next p.1))) in
    let g = guard (same k.Greater (kind p.1)) (if same k.End (kind (next p.1)) then made else None) head h in
    let f = guard (same k.End (kind (next p.1))) made head g.1 in
    let d = attributes_are_derived limit (next i) p.1 p.0 e in
    record {
      attributes = p.0.0;
      position = p.1;
      word = w;
      derived = d.0;
      shut = same-is k.Greater (kind p.1) g.0;
      end = same-is k.End (kind (next p.1)) f.0;
      made = (let e = f.1 in cc);
      fits = d.2;
    }

pub called_sound : (limit from : ℕ) (i : Input) (head : Head) → r.called limit from i ≡ Some head → Calls limit from i head
unfolding r.called
called_sound limit from i head h =
    let g = guard (is_word (kind i)) (r.call_ended (text i) from (attributes limit (next i))) head h in
    called_from limit from i head (attributes limit (next i)) g.0 refl g.1

stops : (s : Kind) → s ≡ k.Greater → begins_attribute s ≡ false
unfolding begins_attribute is_word
stops s h = ap begins_attribute h

pub called_complete : (limit from : ℕ) (i a : Input) (xs : Entries) → is_word (kind i) ≡ true → DerivesAttributes xs (next i) a → kind a ≡ k.Greater → kind (next a) ≡ k.End → entries_depth xs ≤ limit
    → r.called limit from i ≡ Some (CallHead (text i) xs (span from (next a)))
unfolding r.called
called_complete limit from i a xs w d g e le =
    rw (w, attributes_are_read xs (next i) a d (stops (kind a) g) limit le, alike k.Greater (kind a) g, alike k.End (kind (next a)) e) refl

whole_room : (limit : ℕ) (i : Input) (x : Expr) → r.whole limit i ≡ Some x → 0 < limit
unfolding r.whole expr
whole_room zero i x h = absurd (cc)
whole_room (suc n) i x h = omega arith

-- where an expression of a tag is read, there is room for a node
pub put_read : (limit : ℕ) (s : r.Progress) (i : Input) (x : Expr) (n : Node) → r.whole (r.room limit s) i ≡ Some x → r.put limit s n ≡ Some (r.added s n)
put_read limit s i x n h =
    let p = whole_room (r.room limit s) i x h in
    let l : length s.statements < limit = omega (arith, p) in
    let t : nat_lt (length s.statements) limit ≡ true = grind (arith, common_steps) in
    ap (λ (b : Bool). if b then Some (r.added s n) else None) t
