-- Parts with commas between, one behind another, and the rounds of the loop that reads them.
use Rattle.std.proofs.Common.{◌≡◌, ℕ, zero, suc, ◌+◌, ◌-◌, ◌<◌, ◌≤◌, List, [], ◌∷◌, ◌++◌, true, false, Some, None, refl, ap, sym, ◌∙◌, arith}
use Rattle.tera_syntax_tree.specs.declared.component.Literal as declared
use Rattle.tera_syntax_tree.specs.declared.component.LiteralEntry as entry
use Rattle.tera_syntax_tree.specs.Tree.{Literals, NoLiterals, MoreLiterals, LiteralEntries, NoLiteralEntries, MoreLiteralEntries}
use Rattle.tera_syntax_tree.specs.View.{literal_of, literals_of, literal_entries_of, written_of}
use Rattle.tera_syntax_tokens.specs.declared.token.Kind.{Kind}
use Rattle.tera_syntax_tokens.specs.declared.token.Kind.TheVariants.{Comma}
use Rattle.tera_syntax_tokens.specs.Input.{Input, Parsed, Parser, and_then, kind, next, left, same}
use Rattle.tera_syntax_expressions.specs.Literals.{closed, behind_part, parts_from, join_literals, one_literal, join_literal_entries, one_literal_entry, written, written_by}
use Rattle.tera_syntax_expressions.proofs.Rounds.{one_more, no_more}

module _ {A : Type 0} (closing : Kind) (step : A → Parser A) where
  pub parts_end : (n : ℕ) (found : A) (i : Input) → same closing (kind i) ≡ true → parts_from closing step (suc n) found i ≡ Some (found, next i)
  unfolding parts_from
  parts_end n found i h = rw h refl

  abbrev pub parts_behind : ℕ → A → Parser A
  parts_behind n = behind_part closing step (parts_from closing step n)

  pub parts_next : (n : ℕ) (found : A) (i : Input) → same closing (kind i) ≡ false → parts_from closing step (suc n) found i ≡ and_then (step found i) (parts_behind n)
  unfolding parts_from
  parts_next n found i h = rw h refl

  pub parts_comma : (n : ℕ) (found : A) (j : Input) → same Comma (kind j) ≡ true → parts_behind n found j ≡ parts_from closing step n found (next j)
  parts_comma n found j h = rw h refl

  pub parts_shut : (n : ℕ) (found : A) (j : Input) → same Comma (kind j) ≡ false → parts_behind n found j ≡ closed closing step found j
  parts_shut n found j h = rw h refl

  abbrev pub parts_closed : A → Unit {0} → Parser A
  parts_closed found done = λ a. Some (found, a)

  pub parts_none : (found : A) (i : Input) → parts_from closing step zero found i ≡ None
  unfolding parts_from
  parts_none found i = refl

  pub round_first : (n : ℕ) (first found : A) (i : Input) → n ≡ left i → found ≡ first → parts_from closing step (left i) first i ≡ parts_from closing step (n - 0) found i
  round_first n first found i e f =
      let z : left i ≡ n - 0 = sym e ∙ omega arith in
      ap (λ n. parts_from closing step n first i) z ∙ ap (λ f. parts_from closing step (n - 0) f i) (sym f)

  -- A round of the loop: what closes, a part and what is behind it, and no part
  module _ {X : Parsed A} (n at : ℕ) (found : A) (i : Input) where
    pub round_end : at < n → X ≡ parts_from closing step (n - at) found i → same closing (kind i) ≡ true → (j : Input) → j ≡ next i → X ≡ Some (found, j)
    round_end lt e s j t = one_more (λ n. parts_from closing step n found i) n at lt e ∙ parts_end (n - (at + 1)) found i s ∙ ap (λ j. Some (found, j)) (sym t)

    pub round_part : {o : Parsed A} → at < n → X ≡ parts_from closing step (n - at) found i → same closing (kind i) ≡ false → step found i ≡ o → X ≡ and_then o (parts_behind (n - (at + 1)))
    round_part lt e s p = one_more (λ n. parts_from closing step n found i) n at lt e ∙ parts_next (n - (at + 1)) found i s ∙ ap (λ o. and_then o (parts_behind (n - (at + 1)))) p

    pub round_over : n ≤ at → X ≡ parts_from closing step (n - at) found i → X ≡ None
    round_over le e = no_more (λ n. parts_from closing step n found i) n at le e ∙ parts_none found i

pub written_none : (limit : ℕ) (i : Input) → limit ≡ 0 → written limit i ≡ None
unfolding written
written_none zero i h = refl
written_none (suc n) i h = absurd (omega arith)

pub written_more : (limit : ℕ) (i : Input) → (limit ≡ 0 → ⊥) → written limit i ≡ written_by (written (limit - 1)) (kind i) i
unfolding written
written_more zero i h = absurd (h refl)
written_more (suc n) i h = let e : suc n - 1 ≡ n = omega arith in rw e refl

pub literals_of-push : (all : List declared.Literal) (x : declared.Literal) → literals_of (all ++ x ∷ []) ≡ join_literals (literals_of all) (one_literal (written_of x))
literals_of-push [] x = refl
literals_of-push (y ∷ all) x = ap (MoreLiterals (written_of y)) (literals_of-push all x)

pub literal_entries_of-push : (all : List entry.LiteralEntry) (e : entry.LiteralEntry)
    → literal_entries_of (all ++ e ∷ []) ≡ join_literal_entries (literal_entries_of all) (one_literal_entry (literal_of e.key) (written_of e.value))
literal_entries_of-push [] e = refl
literal_entries_of-push (y ∷ all) e = ap (MoreLiteralEntries (literal_of y.key) (written_of y.value)) (literal_entries_of-push all e)

pub join-no-literals : (xs : Literals) → join_literals xs NoLiterals ≡ xs
join-no-literals NoLiterals = refl
join-no-literals (MoreLiterals x rest) = ap (MoreLiterals x) (join-no-literals rest)

pub join-literals : (xs ys zs : Literals) → join_literals (join_literals xs ys) zs ≡ join_literals xs (join_literals ys zs)
join-literals NoLiterals ys zs = refl
join-literals (MoreLiterals x rest) ys zs = ap (MoreLiterals x) (join-literals rest ys zs)

pub join-no-literal-entries : (xs : LiteralEntries) → join_literal_entries xs NoLiteralEntries ≡ xs
join-no-literal-entries NoLiteralEntries = refl
join-no-literal-entries (MoreLiteralEntries key x rest) = ap (MoreLiteralEntries key x) (join-no-literal-entries rest)

pub join-literal-entries : (xs ys zs : LiteralEntries) → join_literal_entries (join_literal_entries xs ys) zs ≡ join_literal_entries xs (join_literal_entries ys zs)
join-literal-entries NoLiteralEntries ys zs = refl
join-literal-entries (MoreLiteralEntries key x rest) ys zs = ap (MoreLiteralEntries key x) (join-literal-entries rest ys zs)
