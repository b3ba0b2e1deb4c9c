-- Values that are written out: what tokens derive them, and the same as a function.
use Rattle.std.specs.Prelude.{◌≡◌, ℕ, zero, suc, ℤ, neg_ℤ, true, false, Option, Some, None, option_map, if◌then◌else◌}
use Rattle.tera_errors.specs.Site as site
use Rattle.tera_syntax_tree.specs.Tree.{Key, Literal, NothingLiteral, BooleanLiteral, IntegerLiteral, TextLiteral, ArrayLiteral, MapLiteral, Literals, NoLiterals, MoreLiterals, LiteralEntries, NoLiteralEntries, MoreLiteralEntries}
use Rattle.tera_syntax_tokens.specs.declared.token.Kind.{Kind}
use Rattle.tera_syntax_tokens.specs.declared.token.Kind.TheVariants as k
use Rattle.tera_syntax_tokens.specs.Input.{Input, Parser, and_then, refuse, kind, text, next, left, same, expect}
use Rattle.tera_syntax_tokens.specs.Literal.{integer, literal}
use Rattle.tera_syntax_expressions.specs.Keys.{key_at}

-- what a token stands for that is a value
abbrev pub plain_by : Kind → site.Text → Option Literal
plain_by k.Nothing word = Some NothingLiteral
plain_by k.True word = Some (BooleanLiteral true)
plain_by k.False word = Some (BooleanLiteral false)
plain_by k.Int word = option_map IntegerLiteral (integer word)
plain_by k.Text word = option_map TextLiteral (literal word)
plain_by kind word = None

-- the constant, integer or text that the next token is
unfoldable pub plain_at : Input → Option Literal
plain_at i = plain_by (kind i) (text i)

mutual
  -- The tokens from the first position to the second are a value that is written out.
  pub data DerivesLiteral : Literal → Input → Input → Type 0 where
    plain : {x : Literal} {i : Input} → plain_at i ≡ Some x → DerivesLiteral x i (next i)
    minus : {z : ℤ} {i : Input} → kind i ≡ k.Minus → kind (next i) ≡ k.Int
        → integer (text (next i)) ≡ Some z
        → DerivesLiteral (IntegerLiteral (neg_ℤ z)) i (next (next i))
    array : {xs : Literals} {i a : Input} → kind i ≡ k.LeftBracket → DerivesLiterals xs (next i) a
        → kind a ≡ k.RightBracket → DerivesLiteral (ArrayLiteral xs) i (next a)
    map : {xs : LiteralEntries} {i a : Input} → kind i ≡ k.LeftBrace
        → DerivesLiteralEntries xs (next i) a → kind a ≡ k.RightBrace
        → DerivesLiteral (MapLiteral xs) i (next a)

  -- values with commas between, and at will one behind the last
  pub data DerivesLiterals : Literals → Input → Input → Type 0 where
    none : {i : Input} → DerivesLiterals NoLiterals i i
    one : {x : Literal} {i j : Input} → DerivesLiteral x i j
        → DerivesLiterals (MoreLiterals x NoLiterals) i j
    more : {x : Literal} {xs : Literals} {i a j : Input} → DerivesLiteral x i a → kind a ≡ k.Comma
        → DerivesLiterals xs (next a) j → DerivesLiterals (MoreLiterals x xs) i j

  -- entries with commas between, and at will one behind the last
  pub data DerivesLiteralEntries : LiteralEntries → Input → Input → Type 0 where
    no_entries : {i : Input} → DerivesLiteralEntries NoLiteralEntries i i
    one_entry : {key : Key} {x : Literal} {i j : Input} → DerivesLiteralEntry key x i j
        → DerivesLiteralEntries (MoreLiteralEntries key x NoLiteralEntries) i j
    more_entries : {key : Key} {x : Literal} {xs : LiteralEntries} {i a j : Input}
        → DerivesLiteralEntry key x i a → kind a ≡ k.Comma → DerivesLiteralEntries xs (next a) j
        → DerivesLiteralEntries (MoreLiteralEntries key x xs) i j

  pub data DerivesLiteralEntry : Key → Literal → Input → Input → Type 0 where
    entry : {key : Key} {x : Literal} {i j : Input} → key_at i ≡ Some key → kind (next i) ≡ k.Colon
        → DerivesLiteral x (next (next i)) j → DerivesLiteralEntry key x i j

-- The same as a function.
abbrev pub join_literals : Literals → Literals → Literals
join_literals NoLiterals tail = tail
join_literals (MoreLiterals x rest) tail = MoreLiterals x (join_literals rest tail)

abbrev pub one_literal : Literal → Literals
one_literal x = MoreLiterals x NoLiterals

abbrev pub join_literal_entries : LiteralEntries → LiteralEntries → LiteralEntries
join_literal_entries NoLiteralEntries tail = tail
join_literal_entries (MoreLiteralEntries key x rest) tail =
    MoreLiteralEntries key x (join_literal_entries rest tail)

abbrev pub one_literal_entry : Key → Literal → LiteralEntries
one_literal_entry key x = MoreLiteralEntries key x NoLiteralEntries

-- Parts with commas between, up to a token of this kind: a step reads one and puts it behind those
-- that were found.
module _ {A : Type 0} (closing : Kind) (step : A → Parser A) where
  abbrev pub closed : A → Parser A
  closed found = λ j. and_then (expect closing j) (λ _. λ a. Some (found, a))

  -- behind a part stands a comma and more, or what closes
  abbrev pub behind_part : (A → Parser A) → A → Parser A
  behind_part further found =
      λ j. if same k.Comma (kind j) then further found (next j) else closed found j

  unfoldable pub parts_from : ℕ → A → Parser A
  parts_from zero found = refuse
  parts_from (suc n) found =
      λ i. if same closing (kind i) then Some (found, next i)
      else and_then (step found i) (behind_part (parts_from n))

abbrev pub literal_at : Option Literal → Parser Literal
literal_at None = refuse
literal_at (Some x) = λ i. Some (x, next i)

-- behind a minus
unfoldable pub negative : Parser Literal
negative =
    λ i. if same k.Int (kind i)
    then literal_at (option_map (λ z. IntegerLiteral (neg_ℤ z)) (integer (text i))) i else None

abbrev pub keyed_by : Option Key → Parser Key
keyed_by None = refuse
keyed_by (Some key) = λ i. and_then (expect k.Colon (next i)) (λ _. λ j. Some (key, j))

-- the key of an entry, and the position behind the colon
unfoldable pub written_key : Parser Key
written_key = λ i. keyed_by (key_at i) i

-- `part` reads a value that is part of another.
module _ (part : Parser Literal) where
  -- a value behind those that were found
  unfoldable pub written_item : Literals → Parser Literals
  written_item found =
      λ i. and_then (part i) (λ x. λ j. Some (join_literals found (one_literal x), j))

  unfoldable pub written_entry : LiteralEntries → Parser LiteralEntries
  written_entry found =
      λ i. and_then (written_key i)
      (λ key. λ j.
      and_then (part j) (λ x. λ a. Some (join_literal_entries found (one_literal_entry key x), a)))

  unfoldable pub written_items : Parser Literals
  written_items = λ i. parts_from k.RightBracket written_item (left i) NoLiterals i

  unfoldable pub written_entries : Parser LiteralEntries
  written_entries = λ i. parts_from k.RightBrace written_entry (left i) NoLiteralEntries i

  abbrev pub written_by : Kind → Parser Literal
  written_by k.LeftBracket =
      λ i. and_then (written_items (next i)) (λ xs. λ j. Some (ArrayLiteral xs, j))
  written_by k.LeftBrace =
      λ i. and_then (written_entries (next i)) (λ xs. λ j. Some (MapLiteral xs, j))
  written_by k.Minus = λ i. negative (next i)
  written_by _ = λ i. literal_at (plain_at i) i

-- a value that is written out, no deeper than the number
unfoldable pub written : ℕ → Parser Literal
written zero = refuse
written (suc limit) = λ i. written_by (written limit) (kind i) i
