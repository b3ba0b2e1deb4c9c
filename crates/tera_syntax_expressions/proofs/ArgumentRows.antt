-- Calls: what is read is derived, and how what is derived is read.
use Rattle.std.proofs.Common.{◌≡◌, ℕ, zero, suc, ◌≤◌, max, Bool, true, false, Option, Some, None, option_map, if◌then◌else◌, refl, sym, ◌∙◌, ap, subst, arith, Ordering, Less, Equal, Greater}
use Rattle.std.specs.Prelude.{bytes_eq, codes}
use Rattle.std.specs.Ordering.{match_ordering}
use Rattle.tera_errors.specs.Site.{Name}
use Rattle.tera_errors.specs.declared.span.Span.{Span}
use Rattle.tera_syntax_tree.specs.Tree.{Expr, Super, Call, Arguments, NoArguments, MoreArguments}
use Rattle.tera_syntax_tree.specs.Depth.{depth, arguments_depth}
use Rattle.tera_syntax_tree.specs.Inside.{Within, ExprInside, ArgumentsInside}
use Rattle.tera_syntax_tokens.specs.declared.token.Kind.TheVariants as k
use Rattle.tera_syntax_tokens.specs.Input.{Input, Parser, and_then, same, kind, start, text, next, left, span, expect, is_word}
use Rattle.tera_syntax_expressions.specs.Arguments.{is_call, call_form, name_cmp, put_argument, argument_name}
use Rattle.tera_syntax_expressions.specs.Grammar.{Derives, DerivesArgument, argument, DerivesArguments, no_arguments, one_argument, more_arguments}
use Rattle.tera_syntax_expressions.specs.Expressions as r
use Rattle.tera_syntax_expressions.specs.Expressions.{Deep, deep}
use Rattle.tera_syntax_expressions.proofs.Steps.{and_then-some, guard, chosen, same-is, expect-some, some-pair, either, differ, unlike, alike}
use Rattle.tera_syntax_expressions.proofs.Forms.{deep-node}

-- an argument that is put before or behind another, by how their names compare
abbrev pub put_by : Ordering → Name → Expr → Name → Expr → Arguments → Option Arguments
put_by o n x m y rest = match_ordering o (Some (MoreArguments n x (MoreArguments m y rest))) None (option_map (MoreArguments m y) (put_argument n x rest))

pub put-depth : (n : Name) (x : Expr) (found all : Arguments) → put_argument n x found ≡ Some all → arguments_depth all ≡ max (arguments_depth found) (depth x)
put-depth n x NoArguments all h = let e : MoreArguments n x NoArguments ≡ all = cc in rw (← e) (omega arith)
put-depth n x (MoreArguments m y rest) all h = go (λ more. put-depth n x rest more) (name_cmp n m) h
  where
    behind : ((more : Arguments) → put_argument n x rest ≡ Some more → arguments_depth more ≡ max (arguments_depth rest) (depth x)) → (o : Option Arguments) → put_argument n x rest ≡ o
        → option_map (MoreArguments m y) o ≡ Some all → arguments_depth all ≡ max (arguments_depth (MoreArguments m y rest)) (depth x)
    behind again None e h = cc
    behind again (Some more) e h = let f : MoreArguments m y more ≡ all = cc in let g = again more e in rw (← f) (omega (arith, g))

    go : ((more : Arguments) → put_argument n x rest ≡ Some more → arguments_depth more ≡ max (arguments_depth rest) (depth x)) → (o : Ordering) → put_by o n x m y rest ≡ Some all
        → arguments_depth all ≡ max (arguments_depth (MoreArguments m y rest)) (depth x)
    go again Less h = let e : MoreArguments n x (MoreArguments m y rest) ≡ all = cc in rw (← e) (omega arith)
    go again Equal h = cc
    go again Greater h = behind again (put_argument n x rest) refl h

pub put-inside : (size : ℕ) (n : Name) (x : Expr) (found all : Arguments) → put_argument n x found ≡ Some all → ExprInside size x → ArgumentsInside size found → ArgumentsInside size all
put-inside size n x NoArguments all h p q = let e : MoreArguments n x NoArguments ≡ all = cc in subst (ArgumentsInside size) e (p, tt)
put-inside size n x (MoreArguments m y rest) all h p q = go (λ more e. put-inside size n x rest more e p q.1) (name_cmp n m) h
  where
    behind : ((more : Arguments) → put_argument n x rest ≡ Some more → ArgumentsInside size more) → (o : Option Arguments) → put_argument n x rest ≡ o → option_map (MoreArguments m y) o ≡ Some all → ArgumentsInside size all
    behind again None e h = cc
    behind again (Some more) e h = let f : MoreArguments m y more ≡ all = cc in subst (ArgumentsInside size) f (q.0, again more e)

    go : ((more : Arguments) → put_argument n x rest ≡ Some more → ArgumentsInside size more) → (o : Ordering) → put_by o n x m y rest ≡ Some all → ArgumentsInside size all
    go again Less h = let e : MoreArguments n x (MoreArguments m y rest) ≡ all = cc in subst (ArgumentsInside size) e (p, q)
    go again Equal h = cc
    go again Greater h = behind again (put_argument n x rest) refl h

-- what is found stays
pub grown : {found all : Arguments} {i j : Input} → DerivesArguments found all i j → arguments_depth found ≤ arguments_depth all
grown no_arguments = omega arith
grown (one_argument (argument {found = found} {all = all} {x = x} {i = i} h q d e)) = let g = put-depth (text i) x found all e in omega (arith, g)
grown (more_arguments (argument {found = found} {all = all} {x = x} {i = i} h q d e) g u) = let p = put-depth (text i) x found all e in let s = grown u in omega (arith, p, s)

-- a call is one deeper than its arguments, by any name
pub call-depth : (n : Name) (all : Arguments) (at : Span) → depth (call_form n all at) ≡ suc (arguments_depth all)
unfolding call_form
call-depth n all at = go (bytes_eq n (codes "super"))
  where
    go : (b : Bool) → depth (if b then Super all at else Call n all at) ≡ suc (arguments_depth all)
    go true = refl
    go false = refl

pub call-inside : (size : ℕ) (n : Name) (all : Arguments) (at : Span) → ArgumentsInside size all → Within size at → ExprInside size (call_form n all at)
unfolding call_form
call-inside size n all at p w = go (bytes_eq n (codes "super"))
  where
    go : (b : Bool) → ExprInside size (if b then Super all at else Call n all at)
    go true = (p, w)
    go false = (p, w)

-- the parts that a reader reads are derived
abbrev pub Reads : (ℕ → Parser Deep) → Type 0
Reads part = (i j : Input) (x : Deep) → part 0 i ≡ Some (x, j) → Derives 0 x.expr i j × (x.depth ≡ depth x.expr)

abbrev pub GotArguments : Arguments → Input → Arguments × ℕ → Input → Type 0
GotArguments found i z j = (a : Input) × (DerivesArguments found z.0 i a) × (kind a ≡ k.RightParenthesis) × (j ≡ next a) × (z.1 ≡ arguments_depth z.0)

abbrev at-name : Name → Input → Option (Name × Input)
at-name n i = Some (n, i)

pub named-got : (i j : Input) (n : Name) → argument_name i ≡ Some (n, j) → (is_word (kind i) ≡ true) × (kind (next i) ≡ k.Assign) × (n ≡ text i) × (j ≡ next (next i))
unfolding argument_name
named-got i j n h =
    let g = guard (is_word (kind i)) (and_then (expect k.Assign (next i)) (λ _. λ j. at-name (text i) j)) (n, j) h in
    let q = and_then-some (expect k.Assign (next i)) (λ _. λ j. at-name (text i) j) (n, j) g.1 in
    let u = expect-some k.Assign (next i) q.1 q.0 q.2 in
    let s = some-pair (text i, q.1) (n, j) q.3 in
    (g.0, u.0, sym s.0, sym s.1 ∙ u.1)

module _ (limit : ℕ) (part : ℕ → Parser Deep) where
  placed-got : (o : Option Arguments) (d : ℕ) (a j : Input) (z : Arguments × ℕ) → r.placed limit part o d a ≡ Some (z, j) → (o ≡ Some z.0) × (d ≡ z.1) × (a ≡ j)
  placed-got None d a j z h = cc
  placed-got (Some all) d a j z h = let s = some-pair ((all, d), a) (z, j) h in (ap (λ p. Some p.0) s.0, ap (λ p. p.1) s.0, s.1)

  argument-got : Reads part → (found : Arguments) (i j : Input) (z : Arguments × ℕ) → r.argument limit part found i ≡ Some (z, j) → DerivesArgument found z.0 i j × (arguments_depth z.0 ≡ max (arguments_depth found) z.1)
  unfolding r.argument
  argument-got reads found i j z h =
      let q = and_then-some (argument_name i) named (z, j) h in
      let t = and_then-some (part 0 q.1) (put q.0) (z, j) q.3 in
      let n = named-got i q.1 q.0 q.2 in
      let p = placed-got (put_argument q.0 t.0.expr found) t.0.depth t.1 j z t.3 in
      let d = reads q.1 t.1 t.0 t.2 in
      let e : put_argument (text i) t.0.expr found ≡ Some z.0 = ap (λ n. put_argument n t.0.expr found) (sym n.2) ∙ p.0 in
      let g = put-depth (text i) t.0.expr found z.0 e in
      let x = d.1 in let y = p.1 in
      (argument n.0 n.1 (subst (λ j. Derives 0 t.0.expr (next (next i)) j) p.2 (subst (λ m. Derives 0 t.0.expr m t.1) n.3 d.0)) e, omega (arith, g, x, y))
    where
      put : Name → Deep → Parser (Arguments × ℕ)
      put n x = r.placed limit part (put_argument n x.expr found) x.depth

      named : Name → Parser (Arguments × ℕ)
      named n j = and_then (part 0 j) (put n)

  pub arguments-got : Reads part → (n : ℕ) (found : Arguments) (d : ℕ) (i j : Input) (z : Arguments × ℕ) → d ≡ arguments_depth found → r.arguments_from limit part n found d i ≡ Some (z, j) → GotArguments found i z j
  unfolding r.arguments_from
  arguments-got reads zero found d i j z e h = cc
  arguments-got reads (suc n) found d i j z e h =
      either (chosen (same k.RightParenthesis (kind i)) (Some ((found, d), next i)) (and_then (r.argument limit part found i) (r.behind_argument limit part (r.arguments_from limit part n) d)) (Some (z, j)) h)
      (λ q. let s = some-pair ((found, d), next i) (z, j) q.1 in
      let first : GotArguments found i (found, d) j = (i, no_arguments, same-is k.RightParenthesis (kind i) q.0, sym s.1, e) in
      subst (λ z. GotArguments found i z j) s.0 first)
      (λ q. let t = and_then-some (r.argument limit part found i) (r.behind_argument limit part (r.arguments_from limit part n) d) (z, j) q.1 in
      let w = argument-got reads found i t.1 t.0 t.2 in
      go (λ found d i. arguments-got reads n found d i j z) t.0 t.1 w.0 w.1 t.3)
    where
      shut : Arguments × ℕ → Unit {0} → Parser (Arguments × ℕ)
      shut p _ o = Some ((p.0, max d p.1), o)

      go : ((found : Arguments) (d : ℕ) (i : Input) → d ≡ arguments_depth found → r.arguments_from limit part n found d i ≡ Some (z, j) → GotArguments found i z j) → (p : Arguments × ℕ) (a : Input)
          → DerivesArgument found p.0 i a → arguments_depth p.0 ≡ max (arguments_depth found) p.1 → r.behind_argument limit part (r.arguments_from limit part n) d p a ≡ Some (z, j) → GotArguments found i z j
      go again p a w f h =
          let m : max d p.1 ≡ arguments_depth p.0 = omega (arith, e, f) in
          either (chosen (same k.Comma (kind a)) (r.arguments_from limit part n p.0 (max d p.1) (next a)) (and_then (expect k.RightParenthesis a) (shut p)) (Some (z, j)) h)
          (λ q. let u = again p.0 (max d p.1) (next a) m q.1 in (u.0, more_arguments w (same-is k.Comma (kind a) q.0) u.1, u.2, u.3, u.4))
          (λ q. let g = and_then-some (expect k.RightParenthesis a) (shut p) (z, j) q.1 in
          let u = expect-some k.RightParenthesis a g.1 g.0 g.2 in
          let s = some-pair ((p.0, max d p.1), g.1) (z, j) g.3 in
          let last : GotArguments found i (p.0, max d p.1) j = (a, one_argument w, u.0, sym s.1 ∙ u.1, m) in
          subst (λ z. GotArguments found i z j) s.0 last)

  pub argument-is : (found all : Arguments) (x : Expr) (i j : Input) → is_word (kind i) ≡ true → kind (next i) ≡ k.Assign → part 0 (next (next i)) ≡ Some (deep x, j) → put_argument (text i) x found ≡ Some all
      → r.argument limit part found i ≡ Some ((all, depth x), j)
  unfolding r.argument argument_name expect
  argument-is found all x i j h g p e = rw (h, alike k.Assign (kind (next i)) g, p, e) refl

  pub arguments-none : (n : ℕ) (found : Arguments) (d : ℕ) (i : Input) → kind i ≡ k.RightParenthesis → r.arguments_from limit part (suc n) found d i ≡ Some ((found, d), next i)
  unfolding r.arguments_from
  arguments-none n found d i h = rw (alike k.RightParenthesis (kind i) h) refl

  pub arguments-one : (n : ℕ) (found : Arguments) (d : ℕ) (p : Arguments × ℕ) (i a : Input) → (kind i ≡ k.RightParenthesis → ⊥) → r.argument limit part found i ≡ Some (p, a) → kind a ≡ k.RightParenthesis
      → r.arguments_from limit part (suc n) found d i ≡ Some ((p.0, max d p.1), next a)
  unfolding r.arguments_from expect
  arguments-one n found d p i a h e g = rw (unlike k.RightParenthesis (kind i) h, e, differ k.Comma k.RightParenthesis (kind a) g (λ e. cc), alike k.RightParenthesis (kind a) g) refl

  pub arguments-more : (n : ℕ) (found : Arguments) (d : ℕ) (p : Arguments × ℕ) (i a : Input) (y : Option ((Arguments × ℕ) × Input)) → (kind i ≡ k.RightParenthesis → ⊥) → r.argument limit part found i ≡ Some (p, a) → kind a ≡ k.Comma
      → r.arguments_from limit part n p.0 (max d p.1) (next a) ≡ y → r.arguments_from limit part (suc n) found d i ≡ y
  unfolding r.arguments_from
  arguments-more n found d p i a y h e g q = rw (unlike k.RightParenthesis (kind i) h, e, alike k.Comma (kind a) g) q

  pub call-is : (all : Arguments) (i a : Input) → r.arguments_from limit part (left (next (next i))) NoArguments 0 (next (next i)) ≡ Some ((all, arguments_depth all), next a)
      → depth (call_form (text i) all (span (start i) (next a))) ≤ limit → r.call limit part i ≡ Some (deep (call_form (text i) all (span (start i) (next a))), next a)
  unfolding r.call
  call-is all i a h le =
      let e = call-depth (text i) all (span (start i) (next a)) in
      rw h (deep-node limit (arguments_depth all) (call_form (text i) all (span (start i) (next a))) (next a) (omega arith) e)

-- behind a name that is called stands a parenthesis
pub call-opens : (i : Input) → is_call i ≡ true → kind (next i) ≡ k.LeftParenthesis
unfolding is_call
call-opens i h = same-is k.LeftParenthesis (kind (next i)) h

pub no-call : (i : Input) → same k.LeftParenthesis (kind (next i)) ≡ false → is_call i ≡ false
unfolding is_call
no-call i h = h
