-- Where an argument is put in a row of them, and the rounds of the loop that reads them.
use Rattle.std.proofs.Common.{◌≡◌, ℕ, suc, ◌+◌, ◌-◌, ◌<◌, ◌≤◌, max, List, [], ◌∷◌, length, Option, Some, None, option_map, refl, ◌∙◌, ap, arith, if◌then◌else◌, Ordering, Less, Equal, Greater}
use Rattle.std.specs.List.{insert}
use Rattle.std.specs.Ordering.{match_ordering}
use Rattle.tera_errors.specs.Site.{Name}
use Rattle.tera_syntax_tree.specs.declared.expression.Argument as argument
use Rattle.tera_syntax_tree.specs.Tree.{Expr, Arguments, NoArguments, MoreArguments}
use Rattle.tera_syntax_tree.specs.View.{arguments_of, expr_of}
use Rattle.tera_syntax_tokens.specs.declared.token.Kind.TheVariants.{RightParenthesis}
use Rattle.tera_syntax_tokens.specs.Input.{Input, Parsed, Parser, and_then, kind, text, next, same}
use Rattle.tera_syntax_expressions.specs.Arguments.{name_cmp, put_argument, argument_name}
use Rattle.tera_syntax_expressions.specs.CommaLists.{comma_or}
use Rattle.tera_syntax_expressions.specs.Parts.{position_of}
use Rattle.tera_syntax_expressions.specs.Expressions as r
use Rattle.tera_syntax_expressions.specs.Expressions.{Deep}
use Rattle.tera_syntax_expressions.proofs.ArgumentRows.{named-got}
use Rattle.tera_syntax_expressions.proofs.Rounds.{one_more, behind, Behind, read_behind}

-- the position, where this many others were passed
abbrev pub from : ℕ → Option ℕ → Option ℕ
from at o = option_map (λ k. at + k) o

abbrev by : Ordering → Option ℕ → Option ℕ
by o p = match_ordering o (Some 0) None (option_map suc p)

-- An argument is put where its position is.
pub placed-at : (all : List argument.Argument) (at : ℕ) (a : argument.Argument) → position_of a.name.now (arguments_of all) ≡ Some at
    → (at ≤ length all) × (put_argument a.name.now (expr_of a.value) (arguments_of all) ≡ Some (arguments_of (insert all at a)))
placed-at [] at a h = let e : 0 ≡ at = cc in rw (← e) (omega arith, refl)
placed-at (b ∷ rest) at a h = go (λ m e. placed-at rest m a e) (name_cmp a.name.now b.name.now) h
  where
    after : Arguments → Arguments
    after more = MoreArguments b.name.now (expr_of b.value) more

    Put : Option Arguments → Type 0
    Put o = (at ≤ suc (length rest)) × (o ≡ Some (arguments_of (insert (b ∷ rest) at a)))

    behind : ((m : ℕ) → position_of a.name.now (arguments_of rest) ≡ Some m → (m ≤ length rest) × (put_argument a.name.now (expr_of a.value) (arguments_of rest) ≡ Some (arguments_of (insert rest m a))))
        → (o : Option ℕ) → position_of a.name.now (arguments_of rest) ≡ o → option_map suc o ≡ Some at → Put (option_map after (put_argument a.name.now (expr_of a.value) (arguments_of rest)))
    behind again None e h = cc
    behind again (Some m) e h =
        let f : suc m ≡ at = cc in
        let w = again m e in let l = w.0 in
        rw (← f) (omega (arith, l), ap (option_map after) w.1)

    go : ((m : ℕ) → position_of a.name.now (arguments_of rest) ≡ Some m → (m ≤ length rest) × (put_argument a.name.now (expr_of a.value) (arguments_of rest) ≡ Some (arguments_of (insert rest m a))))
        → (o : Ordering) → by o (position_of a.name.now (arguments_of rest)) ≡ Some at
        → Put (match_ordering o (Some (MoreArguments a.name.now (expr_of a.value) (after (arguments_of rest)))) None (option_map after (put_argument a.name.now (expr_of a.value) (arguments_of rest))))
    go again Less h = let e : 0 ≡ at = cc in rw (← e) (omega arith, refl)
    go again Equal h = cc
    go again Greater h = behind again (position_of a.name.now (arguments_of rest)) refl h

-- Without a position it is not put.
pub not-placed : (n : Name) (x : Expr) (all : Arguments) → position_of n all ≡ None → put_argument n x all ≡ None
not-placed n x NoArguments h = cc
not-placed n x (MoreArguments m y rest) h = go (λ e. not-placed n x rest e) (name_cmp n m) h
  where
    behind : (position_of n rest ≡ None → put_argument n x rest ≡ None) → (o : Option ℕ) → position_of n rest ≡ o → option_map suc o ≡ None → option_map (MoreArguments m y) (put_argument n x rest) ≡ None
    behind again None e h = ap (option_map (MoreArguments m y)) (again e)
    behind again (Some k) e h = cc

    go : (position_of n rest ≡ None → put_argument n x rest ≡ None) → (o : Ordering) → by o (position_of n rest) ≡ None
        → match_ordering o (Some (MoreArguments n x (MoreArguments m y rest))) None (option_map (MoreArguments m y) (put_argument n x rest)) ≡ None
    go again Less h = cc
    go again Equal h = refl
    go again Greater h = behind again (position_of n rest) refl h

-- the rounds of the loop over arguments
module _ (limit : ℕ) (sub : ℕ → Parser Deep) where
  pub argument_placed : (found all : Arguments) (i m j : Input) (x : Deep) → argument_name i ≡ Some (text i, m) → sub 0 m ≡ Some (x, j) → put_argument (text i) x.expr found ≡ Some all
      → r.argument limit sub found i ≡ Some ((all, x.depth), j)
  unfolding r.argument
  argument_placed found all i m j x e f g = rw (e, f, g) refl

  -- where no argument of this name can be put, whatever its value
  pub argument_refused : (found : Arguments) (i : Input) → ((x : Expr) → put_argument (text i) x found ≡ None) → r.argument limit sub found i ≡ None
  unfolding r.argument
  argument_refused found i h = go (argument_name i) refl
    where
      value : (o : Parsed Deep) → and_then o (λ x. r.placed limit sub (put_argument (text i) x.expr found) x.depth) ≡ None
      value None = refl
      value (Some p) = ap (λ o. r.placed limit sub o p.0.depth p.1) (h p.0.expr)

      go : (o : Parsed Name) → argument_name i ≡ o → and_then o (λ n. λ j. and_then (sub 0 j) (λ x. r.placed limit sub (put_argument n x.expr found) x.depth)) ≡ None
      go None e = refl
      go (Some p) e =
          let n = named-got i p.1 p.0 e in
          ap (λ n. and_then (sub 0 p.1) (λ x. r.placed limit sub (put_argument n x.expr found) x.depth)) n.2 ∙ value (sub 0 p.1)

  pub argument_unplaced : (found : Arguments) (i : Input) → position_of (text i) found ≡ None → r.argument limit sub found i ≡ None
  argument_unplaced found i h = argument_refused found i (λ x. not-placed (text i) x found h)

-- behind an argument that was read stands a comma and more, or what closes: the depth is the greatest so far
abbrev pub further : (Arguments → ℕ → Parser (Arguments × ℕ)) → ℕ → Arguments × ℕ → Parser (Arguments × ℕ)
further more d p = λ j. and_then (comma_or RightParenthesis j) (λ is_comma. λ a. if is_comma then more p.0 (max d p.1) a else Some ((p.0, max d p.1), a))

behind-further : (more : Arguments → ℕ → Parser (Arguments × ℕ)) (d : ℕ) (p : Arguments × ℕ) (j : Input) → behind RightParenthesis (λ (q : Arguments × ℕ). more q.0 q.1) (p.0, max d p.1) j ≡ further more d p j
behind-further more d p j =
    let b : Behind (behind RightParenthesis (λ (q : Arguments × ℕ). more q.0 q.1) (p.0, max d p.1) j) RightParenthesis (λ (q : Arguments × ℕ). more q.0 q.1) (p.0, max d p.1) j = record { is = refl } in
    read_behind b refl

alike-behind : {X Y : Type 0} (o : Parsed X) {f g : X → Parser Y} → ((x : X) (j : Input) → f x j ≡ g x j) → and_then o f ≡ and_then o g
alike-behind None e = refl
alike-behind (Some p) e = e p.0 p.1

-- what is read from a round of the loop on
pub arguments_once : (limit : ℕ) (sub : ℕ → Parser Deep) (n at : ℕ) (found : Arguments) (d : ℕ) (i : Input) → at < n → r.arguments_from limit sub (n - at) found d i
    ≡ (if same RightParenthesis (kind i) then Some ((found, d), next i) else and_then (r.argument limit sub found i) (further (r.arguments_from limit sub (n - (at + 1))) d))
unfolding r.arguments_from
arguments_once limit sub n at found d i lt =
    one_more (λ n. r.arguments_from limit sub n found d i) n at lt refl
    ∙ ap (λ o. if same RightParenthesis (kind i) then Some ((found, d), next i) else o) (alike-behind (r.argument limit sub found i) (behind-further (r.arguments_from limit sub (n - (at + 1))) d))
