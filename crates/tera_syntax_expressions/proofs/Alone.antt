-- An operand that nothing goes on with.
use Rattle.std.proofs.Common.{◌≡◌, ℕ, zero, suc, ◌≤◌, ◌+◌, ◌⊎◌, inl, inr, List, [], Bool, true, false, not, ◌&&◌, ◌||◌, nat_le, nat_lt, Option, Some, None, refl, sym, ◌∙◌, ap, arith}
use Rattle.std.proofs.lemmas.Grind.{common_steps}
use Rattle.tera_syntax_tree.specs.Tree.{Expr, Name}
use Rattle.tera_syntax_tokens.specs.declared.token.Kind.{Kind}
use Rattle.tera_syntax_tokens.specs.declared.token.Kind.TheVariants as k
use Rattle.tera_syntax_tokens.specs.Input.{Input, Parsed, Parser, and_then, same, kind, start, text, next, left, span}
use Rattle.tera_syntax_expressions.specs.Loops.{loop_name}
use Rattle.tera_syntax_expressions.specs.Arguments.{is_call}
use Rattle.tera_syntax_expressions.specs.Expressions.{Deep, needs, gives, begins, goes_on, opened, node, leaf, name_by, head, head_by, climb, level, level_with}
use Rattle.tera_syntax_expressions.proofs.Steps as steps
use Rattle.tera_syntax_expressions.proofs.Extent.{next-left}
use Rattle.tera_syntax_expressions.proofs.ArgumentRows.{no-call, call-opens}
use Rattle.tera_syntax_expressions.proofs.GoingOn.{le-true}
use Rattle.tera_syntax_expressions.proofs.Climbing.{stay}

-- this operand, at this level, before this token
abbrev pub alone : ℕ → Kind → Kind → Bool
alone floor a b = ((((same k.Name a || same k.Int a) || same k.Text a) && nat_le floor 11) && not (goes_on floor 11 b)) && not (same k.LeftParenthesis b)

all_three : (p q r s : Bool) → (((p || q) && r) && not s) ≡ true → ((p ≡ true) ⊎ (q ≡ true)) × (r ≡ true) × (s ≡ false)
all_three true q true false h = (inl refl, refl, refl)
all_three false true true false h = (inr refl, refl, refl)
all_three true q true true h = absurd (cc)
all_three true q false s h = absurd (cc)
all_three false true true true h = absurd (cc)
all_three false true false s h = absurd (cc)
all_three false false r s h = absurd (cc)

one_of : (p q : Bool) → (p || q) ≡ true → (p ≡ true) ⊎ (q ≡ true)
one_of true q h = inl refl
one_of false q h = inr h

pub not_open : (n : ℕ) (os : List ℕ) (i : Input) → same k.LeftParenthesis (kind i) ≡ false → opened n os i ≡ Some (os, i)
unfolding opened
not_open zero os i h = refl
not_open (suc n) os i h = rw h refl

kept : (o : Parsed Deep) (f : Deep → Parser Deep) → ((x : Deep) (j : Input) → o ≡ Some (x, j) → f x j ≡ Some (x, j)) → and_then o f ≡ o
kept None f h = refl
kept (Some p) f h = h p.0 p.1 refl

dot_goes_on : (floor : ℕ) → floor ≤ 11 → goes_on floor 11 k.Dot ≡ true
unfolding gives needs
dot_goes_on floor h = rw (le-true floor 11 h) refl

no_dot : (floor : ℕ) (s : Kind) → floor ≤ 11 → goes_on floor 11 s ≡ false → same k.Dot s ≡ false
no_dot floor s le h = steps.unlike k.Dot s (λ e. let t = sym h ∙ ap (goes_on floor 11) e ∙ dot_goes_on floor le in cc)

and_off : (p : Bool) → (p && false) ≡ false
and_off true = refl
and_off false = refl

pub no_loop : (i : Input) → same k.Dot (kind (next i)) ≡ false → loop_name i ≡ None
unfolding loop_name
no_loop i h = rw (h, and_off) refl

pub called_no_loop : (i : Input) → is_call i ≡ true → loop_name i ≡ None
called_no_loop i h = no_loop i (steps.differ k.Dot k.LeftParenthesis (kind (next i)) (call-opens i h) (λ e. cc))

module _ (limit : ℕ) (sub : ℕ → Parser Deep) where
  node_stays : (d : ℕ) (e : Expr) (i : Input) (x : Deep) (j : Input) → node limit d e i ≡ Some (x, j) → j ≡ i
  unfolding node
  node_stays d e i x j h = let g = steps.guard (nat_lt d limit) (Some (record { expr = e; depth = d + 1 }, i)) (x, j) h in sym (steps.some-pair _ (x, j) g.1).1

  leaf_stays : (o : Option Expr) (i : Input) (x : Deep) (j : Input) → leaf limit sub o i ≡ Some (x, j) → j ≡ i
  leaf_stays None i x j h = absurd (cc)
  leaf_stays (Some e) i x j h = node_stays 0 e i x j h

  int_stays : (i : Input) (x : Deep) (j : Input) → kind i ≡ k.Int → head limit sub i ≡ Some (x, j) → j ≡ next i
  unfolding head
  int_stays i x j e h = leaf_stays _ (next i) x j (sym (ap (λ s. head_by limit sub s i) e) ∙ h)

  text_stays : (i : Input) (x : Deep) (j : Input) → kind i ≡ k.Text → head limit sub i ≡ Some (x, j) → j ≡ next i
  unfolding head
  text_stays i x j e h = leaf_stays _ (next i) x j (sym (ap (λ s. head_by limit sub s i) e) ∙ h)

  named : (i : Input) → loop_name i ≡ None → is_call i ≡ false → name_by limit sub (loop_name i) i ≡ node limit 0 (Name (text i) (span (start i) (next i))) (next i)
  named i l n = rw (l, n) refl

  name_stays : (i : Input) (x : Deep) (j : Input) → kind i ≡ k.Name → loop_name i ≡ None → is_call i ≡ false → head limit sub i ≡ Some (x, j) → j ≡ next i
  unfolding head
  name_stays i x j e l n h = node_stays 0 (Name (text i) (span (start i) (next i))) (next i) x j (sym (named i l n) ∙ sym (ap (λ s. head_by limit sub s i) e) ∙ h)

  level_by : (floor n : ℕ) (i : Input) → same k.LeftParenthesis (kind i) ≡ false → begins (kind i) ≡ 11 → floor ≤ 11 → left i ≡ suc n → goes_on floor 11 (kind (next i)) ≡ false
      → ((x : Deep) (j : Input) → head limit sub i ≡ Some (x, j) → j ≡ next i) → level limit sub floor i ≡ head limit sub i
  unfolding level level_with
  level_by floor n i p b le e g f =
      rw (not_open (left i) [] i p, b, le-true floor 11 le, e)
      (kept (head limit sub i) (climb limit sub (suc n) [] floor 11 (start i))
      (λ x j h. let q = f x j h in stay limit sub n floor 11 (start i) x j (ap (λ m. goes_on floor 11 (kind m)) q ∙ g)))

  pub stands : (floor : ℕ) (i : Input) → alone floor (kind i) (kind (next i)) ≡ true → level limit sub floor i ≡ head limit sub i
  unfolding begins
  stands floor i h = steps.either t.0 (λ s. steps.either (one_of (same k.Name (kind i)) (same k.Int (kind i)) s) by_name by_int) by_text
    where
      is_leaf : Bool
      is_leaf = (same k.Name (kind i) || same k.Int (kind i)) || same k.Text (kind i)

      u : (((is_leaf && nat_le floor 11) && not (goes_on floor 11 (kind (next i)))) ≡ true) × (same k.LeftParenthesis (kind (next i)) ≡ false)
      u = steps.both ((is_leaf && nat_le floor 11) && not (goes_on floor 11 (kind (next i)))) (same k.LeftParenthesis (kind (next i))) h

      t : (((same k.Name (kind i) || same k.Int (kind i)) ≡ true) ⊎ (same k.Text (kind i) ≡ true)) × (nat_le floor 11 ≡ true) × (goes_on floor 11 (kind (next i)) ≡ false)
      t = all_three (same k.Name (kind i) || same k.Int (kind i)) (same k.Text (kind i)) (nat_le floor 11) (goes_on floor 11 (kind (next i))) u.0

      le : floor ≤ 11
      le = let q = t.1 in grind (arith, common_steps, q)

      -- it begins at the highest level, and what is read is one token
      by_kind : (s : Kind) → kind i ≡ s → (k.LeftParenthesis ≡ s → ⊥) → (s ≡ k.End → ⊥) → begins s ≡ 11
          → ((x : Deep) (j : Input) → head limit sub i ≡ Some (x, j) → j ≡ next i) → level limit sub floor i ≡ head limit sub i
      by_kind s e p n b f =
          level_by floor (left (next i)) i (steps.differ k.LeftParenthesis s (kind i) e p) (ap begins e ∙ b) le (next-left s i e n) t.2 f

      by_name : same k.Name (kind i) ≡ true → level limit sub floor i ≡ head limit sub i
      by_name s =
          let e = steps.same-is k.Name (kind i) s in
          by_kind k.Name e (λ q. cc) (λ q. cc) refl (λ x j. name_stays i x j e (no_loop i (no_dot floor (kind (next i)) le t.2)) (no-call i u.1))

      by_int : same k.Int (kind i) ≡ true → level limit sub floor i ≡ head limit sub i
      by_int s =
          let e = steps.same-is k.Int (kind i) s in
          by_kind k.Int e (λ q. cc) (λ q. cc) refl (λ x j. int_stays i x j e)

      by_text : same k.Text (kind i) ≡ true → level limit sub floor i ≡ head limit sub i
      by_text s =
          let e = steps.same-is k.Text (kind i) s in
          by_kind k.Text e (λ q. cc) (λ q. cc) refl (λ x j. text_stays i x j e)
