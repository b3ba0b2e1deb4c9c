-- What tokens derive: expressions.
use Rattle.std.specs.Prelude.{◌≡◌, ℕ, suc, ℤ, Bool, true, false, Option, Some, None}
use Rattle.tera_errors.specs.Site as site
use Rattle.tera_errors.specs.declared.span.Span.{Span}
use Rattle.tera_syntax_tree.specs.declared.expression.BinaryOperator.TheVariants as binary
use Rattle.tera_syntax_tree.specs.Tree.{Expr, Nothing, Boolean, Integer, Text, Name, Attribute, Index, Slice, Optional, Absent, Present, Not, Negate, Binary, And, Or, Ternary, Array, Items, NoItems, MoreItems, Map, Comprehension, Filter, Test, Component, Key, TextKey, Entries, NoEntries, MoreEntries, Arguments, NoArguments, Filters, NoFilters, MoreFilters}
use Rattle.tera_syntax_tokens.specs.declared.token.Kind.{Kind}
use Rattle.tera_syntax_tokens.specs.declared.token.Kind.TheVariants as k
use Rattle.tera_syntax_tokens.specs.Input.{Input, kind, text, start, next, span, is_word}
use Rattle.tera_syntax_tokens.specs.Literal.{integer, literal}
use Rattle.tera_syntax_expressions.specs.Keys.{key_at}
use Rattle.tera_syntax_expressions.specs.Loops.{loop_name, behind_loop}
use Rattle.tera_syntax_expressions.specs.Headings.{Calls}
use Rattle.tera_syntax_expressions.specs.Arguments.{is_call, call_form, is_test_name, put_argument}
use Rattle.tera_syntax_expressions.specs.Precedence as precedence

-- the operators that group to the left: a sign, the form that it makes of its operands, and a level
pub data Operator : Kind → (Expr → Expr → Span → Expr) → ℕ → Type 0 where
  or : Operator k.Or Or precedence.or
  and : Operator k.And And precedence.and
  equal : Operator k.Equal (Binary binary.Equal) precedence.comparison
  not_equal : Operator k.NotEqual (Binary binary.NotEqual) precedence.comparison
  less : Operator k.Less (Binary binary.Less) precedence.comparison
  greater : Operator k.Greater (Binary binary.Greater) precedence.comparison
  less_or_equal : Operator k.LessOrEqual (Binary binary.LessOrEqual) precedence.comparison
  greater_or_equal : Operator k.GreaterOrEqual (Binary binary.GreaterOrEqual) precedence.comparison
  is_in : Operator k.In (Binary binary.In) precedence.comparison
  concat : Operator k.Tilde (Binary binary.Concat) precedence.concatenation
  add : Operator k.Plus (Binary binary.Add) precedence.sum
  subtract : Operator k.Minus (Binary binary.Subtract) precedence.sum
  multiply : Operator k.Star (Binary binary.Multiply) precedence.product
  divide : Operator k.Slash (Binary binary.Divide) precedence.product
  floor_divide : Operator k.FloorSlash (Binary binary.FloorDivide) precedence.product
  remainder : Operator k.Percent (Binary binary.Remainder) precedence.product

-- the signs before an attribute and before a subscript, and whether they make it optional
pub data Dot : Kind → Bool → Type 0 where
  dot : Dot k.Dot false
  optional_dot : Dot k.OptionalDot true

pub data Bracket : Kind → Bool → Type 0 where
  bracket : Bracket k.LeftBracket false
  optional_bracket : Bracket k.OptionalBracket true

mutual
  -- the tokens from the first position to the second are an expression of a level of precedence
  pub data Derives : ℕ → Expr → Input → Input → Type 0 where
    tighter : {l : ℕ} {x : Expr} {i j : Input} → Derives (suc l) x i j → Derives l x i j
    choice : {x y z : Expr} {i a b j : Input} → Derives precedence.or x i a → kind a ≡ k.If
        → Derives precedence.or y (next a) b → kind b ≡ k.Else
        → Derives precedence.choice z (next b) j
        → Derives precedence.choice (Ternary x y z (span (start i) j)) i j
    operation : {s : Kind} {form : Expr → Expr → Span → Expr} {l : ℕ} {x y : Expr} {i a j : Input}
        → Operator s form l → Derives l x i a → kind a ≡ s
        → Derives (suc l) y (next a) j → Derives l (form x y (span (start i) j)) i j
    not : {x : Expr} {i j : Input} → kind i ≡ k.Not → Derives precedence.not x (next i) j
        → Derives precedence.not (Not x (span (start i) j)) i j
    not_in : {x y : Expr} {i a j : Input} → Derives precedence.comparison x i a → kind a ≡ k.Not
        → kind (next a) ≡ k.In → Derives precedence.concatenation y (next (next a)) j
        → Derives precedence.comparison
        (Not (Binary binary.In x y (span (start i) j)) (span (start i) j)) i j
    test : {x : Expr} {all : Arguments} {i a j : Input} → Derives precedence.comparison x i a
        → kind a ≡ k.Is → is_test_name (kind (next a)) ≡ true → DerivesGiven all (next (next a)) j
        → Derives precedence.comparison (Test x (text (next a)) all (span (start i) j)) i j
    not_test : {x : Expr} {all : Arguments} {i a j : Input} → Derives precedence.comparison x i a
        → kind a ≡ k.Is → kind (next a) ≡ k.Not → is_test_name (kind (next (next a))) ≡ true
        → DerivesGiven all (next (next (next a))) j
        → Derives precedence.comparison
        (Not (Test x (text (next (next a))) all (span (start i) j)) (span (start i) j)) i j
    minus : {x : Expr} {i j : Input} → kind i ≡ k.Minus → Derives precedence.minus x (next i) j
        → Derives precedence.minus (Negate x (span (start i) j)) i j
    power : {x y : Expr} {i a j : Input} → Derives precedence.filter x i a → kind a ≡ k.Power
        → Derives precedence.minus y (next a) j
        → Derives precedence.power (Binary binary.Power x y (span (start i) j)) i j
    filter : {x : Expr} {all : Arguments} {i a j : Input} → Derives precedence.filter x i a
        → kind a ≡ k.Bar → is_word (kind (next a)) ≡ true → DerivesGiven all (next (next a)) j
        → Derives precedence.filter (Filter x (text (next a)) all (span (start i) j)) i j
    attribute : {s : Kind} {optional : Bool} {x : Expr} {i a : Input} → Dot s optional
        → Derives precedence.operand x i a → kind a ≡ s → is_word (kind (next a)) ≡ true
        → Derives precedence.operand
        (Attribute x (text (next a)) optional (span (start i) (next (next a)))) i
        (next (next a))
    index : {s : Kind} {optional : Bool} {x y : Expr} {i a b : Input} → Bracket s optional
        → Derives precedence.operand x i a → kind a ≡ s → Derives precedence.choice y (next a) b
        → kind b ≡ k.RightBracket
        → Derives precedence.operand (Index x y optional (span (start i) (next b))) i (next b)
    slice : {s : Kind} {optional : Bool} {x : Expr} {from to by : Optional} {i a b c d : Input}
        → Bracket s optional → Derives precedence.operand x i a → kind a ≡ s
        → DerivesPart from (next a) b → kind b ≡ k.Colon → DerivesPart to (next b) c
        → DerivesStep by c d → kind d ≡ k.RightBracket
        → Derives precedence.operand (Slice x from to by optional (span (start i) (next d))) i
        (next d)
    int : {z : ℤ} {i : Input} → kind i ≡ k.Int → integer (text i) ≡ Some z
        → Derives precedence.operand (Integer z (span (start i) (next i))) i (next i)
    quoted : {t : site.Text} {i : Input} → kind i ≡ k.Text → literal (text i) ≡ Some t
        → Derives precedence.operand (Text t (span (start i) (next i))) i (next i)
    is_true : {i : Input} → kind i ≡ k.True
        → Derives precedence.operand (Boolean true (span (start i) (next i))) i (next i)
    is_false : {i : Input} → kind i ≡ k.False
        → Derives precedence.operand (Boolean false (span (start i) (next i))) i (next i)
    nothing : {i : Input} → kind i ≡ k.Nothing
        → Derives precedence.operand (Nothing (span (start i) (next i))) i (next i)
    name : {i : Input} → kind i ≡ k.Name → loop_name i ≡ None → is_call i ≡ false
        → Derives precedence.operand (Name (text i) (span (start i) (next i))) i (next i)
    of_loop : {n : site.Name} {i : Input} → kind i ≡ k.Name → loop_name i ≡ Some n
        → Derives precedence.operand (Name n (span (start i) (behind_loop i))) i (behind_loop i)
    call : {all : Arguments} {i a : Input} → kind i ≡ k.Name → is_call i ≡ true
        → DerivesArguments NoArguments all (next (next i)) a → kind a ≡ k.RightParenthesis
        → Derives precedence.operand (call_form (text i) all (span (start i) (next a))) i (next a)
    -- its name may be a reserved word
    component : {xs : Entries} {i a : Input} → kind i ≡ k.Less → is_word (kind (next i)) ≡ true
        → DerivesAttributes xs (next (next i)) a → kind a ≡ k.TagEnd
        → Derives precedence.operand (Component (text (next i)) xs (span (start i) (next a))) i
        (next a)
    -- parentheses are no part of what they are around
    parentheses : {x : Expr} {i a : Input} → kind i ≡ k.LeftParenthesis
        → Derives precedence.choice x (next i) a → kind a ≡ k.RightParenthesis
        → Derives precedence.operand x i (next a)
    array : {xs : Items} {i a : Input} → kind i ≡ k.LeftBracket → DerivesItems xs (next i) a
        → kind a ≡ k.RightBracket
        → Derives precedence.operand (Array xs (span (start i) (next a))) i (next a)
    map : {xs : Entries} {i a : Input} → kind i ≡ k.LeftBrace → DerivesEntries xs (next i) a
        → kind a ≡ k.RightBrace
        → Derives precedence.operand (Map xs (span (start i) (next a))) i (next a)
    comprehension : {x target : Expr} {key : Option site.Name} {called : site.Name}
        {only : Optional} {i a b c d : Input} → kind i ≡ k.LeftBracket
        → Derives precedence.choice x (next i) a → kind a ≡ k.For
        → Calls key called (next a) b → Derives precedence.or target b c → DerivesCondition only c d
        → kind d ≡ k.RightBracket
        → Derives precedence.operand
        (Comprehension x key called target only (span (start i) (next d))) i (next d)

  -- a bound of a slice, if it is written
  pub data DerivesPart : Optional → Input → Input → Type 0 where
    absent : {i : Input} → DerivesPart Absent i i
    present : {x : Expr} {i j : Input} → Derives precedence.choice x i j
        → DerivesPart (Present x) i j

  -- its step, if it is written
  pub data DerivesStep : Optional → Input → Input → Type 0 where
    no_step : {i : Input} → DerivesStep Absent i i
    step : {by : Optional} {i j : Input} → kind i ≡ k.Colon → DerivesPart by (next i) j
        → DerivesStep by i j

  -- the condition of a comprehension, if it is written
  pub data DerivesCondition : Optional → Input → Input → Type 0 where
    no_condition : {i : Input} → DerivesCondition Absent i i
    condition : {x : Expr} {i j : Input} → kind i ≡ k.If → Derives precedence.or x (next i) j
        → DerivesCondition (Present x) i j

  -- an item, or an array that is spread
  pub data DerivesItem : Bool → Expr → Input → Input → Type 0 where
    plain : {x : Expr} {i j : Input} → Derives precedence.choice x i j → DerivesItem false x i j
    spread : {x : Expr} {i j : Input} → kind i ≡ k.Spread → Derives precedence.choice x (next i) j
        → DerivesItem true x i j

  -- items with commas between, and at will one behind the last
  pub data DerivesItems : Items → Input → Input → Type 0 where
    none : {i : Input} → DerivesItems NoItems i i
    one : {s : Bool} {x : Expr} {i j : Input} → DerivesItem s x i j
        → DerivesItems (MoreItems s x NoItems) i j
    more : {s : Bool} {x : Expr} {xs : Items} {i a j : Input} → DerivesItem s x i a
        → kind a ≡ k.Comma → DerivesItems xs (next a) j → DerivesItems (MoreItems s x xs) i j

  -- an entry, or a map that is spread
  pub data DerivesEntry : Option Key → Expr → Input → Input → Type 0 where
    keyed : {key : Key} {x : Expr} {i j : Input} → key_at i ≡ Some key → kind (next i) ≡ k.Colon
        → Derives precedence.choice x (next (next i)) j → DerivesEntry (Some key) x i j
    spread_map : {x : Expr} {i j : Input} → kind i ≡ k.Spread
        → Derives precedence.choice x (next i) j → DerivesEntry None x i j

  -- entries with commas between, and at will one behind the last
  pub data DerivesEntries : Entries → Input → Input → Type 0 where
    no_entries : {i : Input} → DerivesEntries NoEntries i i
    one_entry : {key : Option Key} {x : Expr} {i j : Input} → DerivesEntry key x i j
        → DerivesEntries (MoreEntries key x NoEntries) i j
    more_entries : {key : Option Key} {x : Expr} {xs : Entries} {i a j : Input}
        → DerivesEntry key x i a → kind a ≡ k.Comma → DerivesEntries xs (next a) j
        → DerivesEntries (MoreEntries key x xs) i j

  -- the value of an attribute: a text, or an expression in braces
  pub data DerivesValue : Expr → Input → Input → Type 0 where
    text_value : {t : site.Text} {i : Input} → kind i ≡ k.Text → literal (text i) ≡ Some t
        → DerivesValue (Text t (span (start i) (next i))) i (next i)
    braced_value : {x : Expr} {i a : Input} → kind i ≡ k.LeftBrace
        → Derives precedence.choice x (next i) a → kind a ≡ k.RightBrace → DerivesValue x i (next a)

  -- an attribute of a component, whose name may be a reserved word, or a map that is spread in
  -- braces
  pub data DerivesAttribute : Option Key → Expr → Input → Input → Type 0 where
    named_attribute : {x : Expr} {i j : Input} → is_word (kind i) ≡ true → kind (next i) ≡ k.Assign
        → DerivesValue x (next (next i)) j
        → DerivesAttribute (Some (TextKey (text i))) x i j
    spread_attribute : {x : Expr} {i a : Input} → kind i ≡ k.LeftBrace → kind (next i) ≡ k.Spread
        → Derives precedence.choice x (next (next i)) a → kind a ≡ k.RightBrace
        → DerivesAttribute None x i (next a)

  -- attributes in the order of the text, with nothing between
  pub data DerivesAttributes : Entries → Input → Input → Type 0 where
    no_attributes : {i : Input} → DerivesAttributes NoEntries i i
    more_attributes : {key : Option Key} {x : Expr} {xs : Entries} {i a j : Input}
        → DerivesAttribute key x i a → DerivesAttributes xs a j
        → DerivesAttributes (MoreEntries key x xs) i j

  -- An argument, put at its position among those before it. Its name may be a reserved word, and is
  -- the name of no other.
  pub data DerivesArgument : Arguments → Arguments → Input → Input → Type 0 where
    argument : {found all : Arguments} {x : Expr} {i j : Input} → is_word (kind i) ≡ true
        → kind (next i) ≡ k.Assign → Derives precedence.choice x (next (next i)) j
        → put_argument (text i) x found ≡ Some all → DerivesArgument found all i j

  -- from the arguments before these to all: arguments with commas between, and at will one behind
  -- the last
  pub data DerivesArguments : Arguments → Arguments → Input → Input → Type 0 where
    no_arguments : {found : Arguments} {i : Input} → DerivesArguments found found i i
    one_argument : {found all : Arguments} {i j : Input} → DerivesArgument found all i j
        → DerivesArguments found all i j
    more_arguments : {found with_it all : Arguments} {i a j : Input}
        → DerivesArgument found with_it i a → kind a ≡ k.Comma
        → DerivesArguments with_it all (next a) j
        → DerivesArguments found all i j

  -- the arguments behind a name, if they are written: a parenthesis there opens them
  pub data DerivesGiven : Arguments → Input → Input → Type 0 where
    not_given : {i : Input} → (kind i ≡ k.LeftParenthesis → ⊥) → DerivesGiven NoArguments i i
    given : {all : Arguments} {i a : Input} → kind i ≡ k.LeftParenthesis
        → DerivesArguments NoArguments all (next i) a → kind a ≡ k.RightParenthesis
        → DerivesGiven all i (next a)

-- filters with bars between, as the head of a section has them; a filter's name may be a reserved
-- word
pub data DerivesFilters : Filters → Input → Input → Type 0 where
  last_filter : {all : Arguments} {i j : Input} → is_word (kind i) ≡ true
      → DerivesGiven all (next i) j
      → DerivesFilters (MoreFilters (text i) all (span (start i) j) NoFilters) i j
  more_filters : {all : Arguments} {fs : Filters} {i a j : Input} → is_word (kind i) ≡ true
      → DerivesGiven all (next i) a → kind a ≡ k.Bar → DerivesFilters fs (next a) j
      → DerivesFilters (MoreFilters (text i) all (span (start i) a) fs) i j
