-- The reader of expressions, as a function.
use Rattle.std.specs.Prelude.{ℕ, zero, suc, ◌+◌, max, List, [], ◌∷◌, Bool, true, false, not, ◌&&◌, nat_le, nat_lt, Option, Some, None, option_map, if◌then◌else◌}
use Rattle.tera_errors.specs.declared.span.Span.{Span}
use Rattle.tera_syntax_tree.specs.declared.expression.BinaryOperator.{BinaryOperator}
use Rattle.tera_syntax_tree.specs.declared.expression.BinaryOperator.TheVariants as binary
use Rattle.tera_syntax_tree.specs.Tree.{Expr, Nothing, Boolean, Integer, Text, Name, Attribute, Index, Slice, Optional, Absent, Present, Not, Negate, Binary, And, Or, Ternary, Array, Items, NoItems, MoreItems, Map, Comprehension, Filter, Test, Component, Key, TextKey, Entries, NoEntries, MoreEntries, Arguments, NoArguments, Filters, NoFilters, MoreFilters}
use Rattle.tera_syntax_tree.specs.Depth.{depth}
use Rattle.tera_syntax_tokens.specs.declared.token.Kind.{Kind}
use Rattle.tera_syntax_tokens.specs.declared.token.Kind.TheVariants as k
use Rattle.tera_syntax_tokens.specs.Input.{Input, Parser, and_then, ◌>>=◌, refuse, kind, text, start, next, left, span, same, expect, is_word}
use Rattle.tera_syntax_tokens.specs.Literal.{integer, literal}
use Rattle.tera_syntax_expressions.specs.Keys.{key_at}
use Rattle.tera_syntax_expressions.specs.Loops.{loop_name, behind_loop}
use Rattle.tera_syntax_expressions.specs.Headings.{calls}
use Rattle.tera_syntax_expressions.specs.Arguments.{is_call, call_form, is_test_name, put_argument, argument_name, begins_attribute}
use Rattle.tera_syntax_expressions.specs.Precedence as precedence
use Rattle.tera_errors.specs.Site as site

-- an expression, and how deep it is
pub record Deep : Type 0 where
  pub expr : Expr
  pub depth : ℕ

abbrev pub deep : Expr → Deep
deep x = record { expr = x; depth = depth x }

-- The level of what an expression goes on to with this token.
unfoldable pub gives : Kind → ℕ
gives k.If = precedence.choice
gives k.Or = precedence.or
gives k.And = precedence.and
gives k.Not = precedence.comparison
gives k.Equal = precedence.comparison
gives k.NotEqual = precedence.comparison
gives k.Less = precedence.comparison
gives k.Greater = precedence.comparison
gives k.LessOrEqual = precedence.comparison
gives k.GreaterOrEqual = precedence.comparison
gives k.In = precedence.comparison
gives k.Is = precedence.comparison
gives k.Tilde = precedence.concatenation
gives k.Plus = precedence.sum
gives k.Minus = precedence.sum
gives k.Star = precedence.product
gives k.Slash = precedence.product
gives k.FloorSlash = precedence.product
gives k.Percent = precedence.product
gives k.Power = precedence.power
gives k.Bar = precedence.filter
gives k.Dot = precedence.operand
gives k.OptionalDot = precedence.operand
gives k.LeftBracket = precedence.operand
gives k.OptionalBracket = precedence.operand
gives _ = precedence.nothing

-- the least level of an expression before it that goes on with it
unfoldable pub needs : Kind → ℕ
needs k.If = precedence.or
needs k.Power = precedence.filter
needs kind = gives kind

abbrev pub goes_on : ℕ → ℕ → Kind → Bool
goes_on floor have kind = nat_le floor (gives kind) && nat_le (needs kind) have

-- the level of what begins with this token
unfoldable pub begins : Kind → ℕ
begins k.Not = precedence.not
begins k.Minus = precedence.minus
begins _ = precedence.operand

-- inside open parentheses any expression may stand
abbrev pub floor_in : List ℕ → ℕ → ℕ
floor_in [] floor = floor
floor_in (o ∷ os) floor = precedence.choice

-- the parentheses that open before the next operand, behind those that are open
unfoldable pub opened : ℕ → List ℕ → Parser (List ℕ)
opened zero os = λ i. Some (os, i)
opened (suc n) os =
    λ i. if same k.LeftParenthesis (kind i) then opened n (start i ∷ os) (next i) else Some (os, i)

abbrev pub join_items : Items → Items → Items
join_items NoItems more = more
join_items (MoreItems s x rest) more = MoreItems s x (join_items rest more)

abbrev pub one_item : Bool → Expr → Items
one_item s x = MoreItems s x NoItems

-- a form over parts of this depth, if that is within the limit
unfoldable pub node : ℕ → ℕ → Expr → Parser Deep
node limit d x = λ i. if nat_lt d limit then Some (record { expr = x; depth = d + 1 }, i) else None

abbrev pub join_entries : Entries → Entries → Entries
join_entries NoEntries more = more
join_entries (MoreEntries key x rest) more = MoreEntries key x (join_entries rest more)

abbrev pub one_entry : Option Key → Expr → Entries
one_entry key x = MoreEntries key x NoEntries

abbrev pub keyed : Option Key → Parser (Option Key)
keyed None = refuse
keyed (Some key) = λ i. and_then (expect k.Colon (next i)) (λ _. λ j. Some (Some key, j))

-- the key of an entry, and the position behind the colon; none behind the dots of a map that is
-- spread
unfoldable pub entry_key : Parser (Option Key)
entry_key = λ i. if same k.Spread (kind i) then Some (None, next i) else keyed (key_at i) i

abbrev pub join_filters : Filters → Filters → Filters
join_filters NoFilters more = more
join_filters (MoreFilters n all at rest) more = MoreFilters n all at (join_filters rest more)

abbrev pub one_filter : site.Name → Arguments → Span → Filters
one_filter n all at = MoreFilters n all at NoFilters

-- the position behind the dots of an item that is spread
abbrev pub behind_dots : Input → Input
behind_dots i = if same k.Spread (kind i) then next i else i

-- `sub l` reads an expression of level l or above that is part of another, and `limit` is the
-- greatest depth.
module _ (limit : ℕ) (sub : ℕ → Parser Deep) where
  unfoldable pub prefix_form : ℕ → (Expr → Span → Expr) → Parser Deep
  prefix_form level form =
      λ i. (sub level >>= (λ x. λ j. node limit x.depth (form x.expr (span (start i) j)) j))
      (next i)

  unfoldable pub infix_form : ℕ → (Expr → Expr → Span → Expr) → ℕ → Deep → Parser Deep
  infix_form level form from x =
      λ i. (sub level
      >>= (λ y. λ j. node limit (max x.depth y.depth) (form x.expr y.expr (span from j)) j))
      (next i)

  unfoldable pub applied : ℕ → BinaryOperator → ℕ → Deep → Parser Deep
  applied level operator = infix_form level (Binary operator)

  unfoldable pub not_in : ℕ → Deep → Parser Deep
  not_in from x =
      λ i. if same k.In (kind (next i))
      then (applied precedence.concatenation binary.In from x
      >>= (λ y. λ j. node limit y.depth (Not y.expr (span from j)) j)) (next i) else None

  -- behind `else`
  unfoldable pub other : ℕ → Deep → Deep → Parser Deep
  other from x y =
      sub precedence.choice
      >>= (λ z. λ j.
      node limit (max x.depth (max y.depth z.depth)) (Ternary x.expr y.expr z.expr (span from j)) j)

  unfoldable pub choice : ℕ → Deep → Parser Deep
  choice from x =
      λ i. (sub precedence.or >>= (λ y. expect k.Else >>= (λ _. other from x y))) (next i)

  unfoldable pub attribute : Bool → ℕ → Deep → Parser Deep
  attribute optional from x =
      λ i. if is_word (kind (next i))
      then node limit x.depth
      (Attribute x.expr (text (next i)) optional (span from (next (next i)))) (next (next i))
      else None

  -- a bound of a slice, if it is written, and how deep it is
  unfoldable pub part : Parser (Optional × ℕ)
  part = λ i. if same k.Colon (kind i) then Some ((Absent, 0), i)
      else (if same k.RightBracket (kind i) then Some ((Absent, 0), i)
      else and_then (sub precedence.choice i) (λ x. λ j. Some ((Present x.expr, x.depth), j)))

  unfoldable pub step : Parser (Optional × ℕ)
  step = λ i. if same k.Colon (kind i) then part (next i) else Some ((Absent, 0), i)

  unfoldable pub index_at : Bool → ℕ → Deep → Optional → ℕ → Parser Deep
  index_at optional from x Absent d = refuse
  index_at optional from x (Present y) d =
      λ i. node limit (max x.depth d) (Index x.expr y optional (span from (next i))) (next i)

  -- a slice of bounds that are this deep at most, from its closing bracket on
  unfoldable pub slice_made : Bool → ℕ → Deep → Optional → Optional → Optional → ℕ → Parser Deep
  slice_made optional from x a b c d = expect k.RightBracket >>= (λ _. λ j.
      node limit (max x.depth d) (Slice x.expr a b c optional (span from j)) j)

  unfoldable pub slice : Bool → ℕ → Deep → Optional × ℕ → Parser Deep
  slice optional from x p = expect k.Colon >>= (λ _. part >>= (λ q. step >>= (λ r.
      slice_made optional from x p.0 q.0 r.0 (max p.1 (max q.1 r.1)))))

  abbrev pub subscript_with : Bool → ℕ → Deep → Optional × ℕ → Parser Deep
  subscript_with optional from x p =
      λ i. if same k.RightBracket (kind i) then index_at optional from x p.0 p.1 i
      else slice optional from x p i

  unfoldable pub subscript : Bool → ℕ → Deep → Parser Deep
  subscript optional from x = λ i. (part >>= subscript_with optional from x) (next i)

  -- all arguments with one that was put among them, and the depth of its value
  abbrev pub placed : Option Arguments → ℕ → Parser (Arguments × ℕ)
  placed None d = refuse
  placed (Some all) d = λ i. Some ((all, d), i)

  -- an argument, put among those that were found
  unfoldable pub argument : Arguments → Parser (Arguments × ℕ)
  argument found =
      argument_name
      >>= (λ name. sub precedence.choice >>= (λ x. placed (put_argument name x.expr found) x.depth))

  -- behind an argument stands a comma and more, or the parenthesis that closes
  abbrev pub behind_argument : (Arguments → ℕ → Parser (Arguments × ℕ)) → ℕ → Arguments × ℕ
      → Parser (Arguments × ℕ)
  behind_argument more d p = λ j. if same k.Comma (kind j) then more p.0 (max d p.1) (next j)
      else and_then (expect k.RightParenthesis j) (λ _. λ a. Some ((p.0, max d p.1), a))

  -- arguments with commas between, up to a parenthesis
  unfoldable pub arguments_from : ℕ → Arguments → ℕ → Parser (Arguments × ℕ)
  arguments_from zero found d = refuse
  arguments_from (suc n) found d =
      λ i. if same k.RightParenthesis (kind i) then Some ((found, d), next i) else
      and_then (argument found i) (behind_argument (arguments_from n) d)

  -- the arguments behind a name, if they are written, and how deep they are
  unfoldable pub optional_arguments : Parser (Arguments × ℕ)
  optional_arguments = λ i. if same k.LeftParenthesis (kind i)
      then arguments_from (left (next i)) NoArguments 0 (next i) else Some ((NoArguments, 0), i)

  -- a form of a value, a name and arguments, from the name on
  unfoldable pub application : (Expr → site.Name → Arguments → Span → Expr) → ℕ → Deep → Parser Deep
  application form from x =
      λ i. (optional_arguments
      >>= (λ g. λ j. node limit (max x.depth g.1) (form x.expr (text i) g.0 (span from j)) j))
      (next i)

  unfoldable pub filter : ℕ → Deep → Parser Deep
  filter from x = λ i. if is_word (kind (next i)) then application Filter from x (next i) else None

  unfoldable pub test_by_name : ℕ → Deep → Parser Deep
  test_by_name from x = λ i. if is_test_name (kind i) then application Test from x i else None

  unfoldable pub tested : ℕ → Deep → Parser Deep
  tested from x =
      λ i. if same k.Not (kind (next i))
      then (test_by_name from x >>= (λ y. λ j. node limit y.depth (Not y.expr (span from j)) j))
      (next (next i))
      else test_by_name from x (next i)

  -- what stands behind an operand and is no sign between two
  abbrev pub suffixed_by : ℕ → Deep → Kind → Parser Deep
  suffixed_by from x k.If = choice from x
  suffixed_by from x k.Not = not_in from x
  suffixed_by from x k.Is = tested from x
  suffixed_by from x k.Bar = filter from x
  suffixed_by from x k.Dot = attribute false from x
  suffixed_by from x k.OptionalDot = attribute true from x
  suffixed_by from x k.LeftBracket = subscript false from x
  suffixed_by from x k.OptionalBracket = subscript true from x
  suffixed_by from x _ = refuse

  unfoldable pub suffix_form : ℕ → Deep → Parser Deep
  suffix_form from x = λ i. suffixed_by from x (kind i) i

  abbrev pub operation_by : ℕ → Deep → Kind → Parser Deep
  operation_by from x k.Or = infix_form precedence.and Or from x
  operation_by from x k.And = infix_form precedence.not And from x
  operation_by from x k.Equal = applied precedence.concatenation binary.Equal from x
  operation_by from x k.NotEqual = applied precedence.concatenation binary.NotEqual from x
  operation_by from x k.Less = applied precedence.concatenation binary.Less from x
  operation_by from x k.Greater = applied precedence.concatenation binary.Greater from x
  operation_by from x k.LessOrEqual = applied precedence.concatenation binary.LessOrEqual from x
  operation_by from x k.GreaterOrEqual =
      applied precedence.concatenation binary.GreaterOrEqual from x
  operation_by from x k.In = applied precedence.concatenation binary.In from x
  operation_by from x k.Tilde = applied precedence.sum binary.Concat from x
  operation_by from x k.Plus = applied precedence.product binary.Add from x
  operation_by from x k.Minus = applied precedence.product binary.Subtract from x
  operation_by from x k.Star = applied precedence.minus binary.Multiply from x
  operation_by from x k.Slash = applied precedence.minus binary.Divide from x
  operation_by from x k.FloorSlash = applied precedence.minus binary.FloorDivide from x
  operation_by from x k.Percent = applied precedence.minus binary.Remainder from x
  operation_by from x k.Power = applied precedence.minus binary.Power from x
  operation_by from x kind = suffixed_by from x kind

  unfoldable pub operation : ℕ → Deep → Parser Deep
  operation from x = λ i. operation_by from x (kind i) i

  -- behind an item stands a comma and more, or the bracket that closes
  abbrev pub behind_item : (Items → ℕ → Parser (Items × ℕ)) → Items → ℕ → Parser (Items × ℕ)
  behind_item more found d =
      λ j. if same k.Comma (kind j) then more found d (next j)
      else and_then (expect k.RightBracket j) (λ _. λ a. Some ((found, d), a))

  -- items with commas between, up to a bracket
  unfoldable pub items_from : ℕ → Items → ℕ → Parser (Items × ℕ)
  items_from zero found d = refuse
  items_from (suc n) found d =
      λ i. if same k.RightBracket (kind i) then Some ((found, d), next i) else
      and_then (sub precedence.choice (behind_dots i))
      (λ x. behind_item (items_from n)
      (join_items found (one_item (same k.Spread (kind i)) x.expr)) (max d x.depth))

  -- from behind the first
  unfoldable pub items_after_first : Items → ℕ → Parser (Items × ℕ)
  items_after_first = behind_item (λ found d. λ i. items_from (left i) found d i)

  abbrev pub array_of : ℕ → Items × ℕ → Parser Deep
  array_of from xs = λ j. node limit xs.1 (Array xs.0 (span from j)) j

  -- an array, from behind its first item
  unfoldable pub array : ℕ → Bool → Deep → Parser Deep
  array from s x = items_after_first (one_item s x.expr) x.depth >>= array_of from

  -- the condition of a comprehension, if it is written, and how deep it is
  unfoldable pub condition : Parser (Optional × ℕ)
  condition =
      λ i. if same k.If (kind i)
      then and_then (sub precedence.or (next i)) (λ x. λ j. Some ((Present x.expr, x.depth), j))
      else Some ((Absent, 0), i)

  -- a comprehension of these parts, from its closing bracket on
  unfoldable pub comprehension_made : ℕ → Deep → Option site.Name × site.Name → Deep → Optional × ℕ
      → Parser Deep
  comprehension_made from x names y c = expect k.RightBracket >>= (λ _. λ j.
      node limit (max x.depth (max y.depth c.1))
      (Comprehension x.expr names.0 names.1 y.expr c.0 (span from j)) j)

  -- a comprehension of this value, from `for` on
  unfoldable pub comprehension : ℕ → Deep → Parser Deep
  comprehension from x =
      λ i. (calls
      >>= (λ names. sub precedence.or >>= (λ y. condition >>= comprehension_made from x names y)))
      (next i)

  -- `for` behind the first expression makes a comprehension of it, unless it is spread
  abbrev pub bracketed_by : ℕ → Bool → Deep → Parser Deep
  bracketed_by from s x =
      λ j. if not s && same k.For (kind j) then comprehension from x j else array from s x j

  -- what stands behind a bracket: an array or a comprehension
  unfoldable pub brackets : ℕ → Parser Deep
  brackets from = λ i. if same k.RightBracket (kind i) then array_of from (NoItems, 0) (next i)
      else and_then (sub precedence.choice (behind_dots i))
      (bracketed_by from (same k.Spread (kind i)))

  abbrev pub entry_rest : (Entries → ℕ → Parser (Entries × ℕ)) → Entries → ℕ → Option Key → Deep
      → Parser (Entries × ℕ)
  entry_rest more found d key x =
      λ j. if same k.Comma (kind j)
      then more (join_entries found (one_entry key x.expr)) (max d x.depth) (next j)
      else and_then (expect k.RightBrace j)
      (λ _. λ a. Some ((join_entries found (one_entry key x.expr), max d x.depth), a))

  -- entries with commas between, up to a brace
  unfoldable pub entries_from : ℕ → Entries → ℕ → Parser (Entries × ℕ)
  entries_from zero found d = refuse
  entries_from (suc n) found d =
      λ i. if same k.RightBrace (kind i) then Some ((found, d), next i) else
      and_then (entry_key i)
      (λ key. λ j. and_then (sub precedence.choice j) (entry_rest (entries_from n) found d key))

  unfoldable pub map : Parser Deep
  map = λ i.
      ((λ j. entries_from (left j) NoEntries 0 j)
      >>= (λ xs. λ j. node limit xs.1 (Map xs.0 (span (start i) j)) j)) (next i)

  -- filters with one more, over arguments of this depth, if that is within the limit
  abbrev pub filter_of : Filters → site.Name → ℕ → Arguments × ℕ → Parser (Filters × ℕ)
  filter_of found n from g =
      λ j. if nat_lt g.1 limit
      then Some ((join_filters found (one_filter n g.0 (span from j)), g.1 + 1), j) else None

  -- a filter by its name, behind those that were found, and its depth
  unfoldable pub section_filter : Filters → Parser (Filters × ℕ)
  section_filter found =
      λ i. if is_word (kind i) then and_then (optional_arguments (next i)) (filter_of found (text i) (start i))
      else None

  -- behind a filter stands a bar and more, or they end
  abbrev pub behind_filter : (Filters → ℕ → Parser (Filters × ℕ)) → ℕ → Filters × ℕ
      → Parser (Filters × ℕ)
  behind_filter more d p =
      λ j. if same k.Bar (kind j) then more p.0 (max d p.1) (next j) else Some ((p.0, max d p.1), j)

  -- filters with bars between
  unfoldable pub filters_from : ℕ → Filters → ℕ → Parser (Filters × ℕ)
  filters_from zero found d = refuse
  filters_from (suc n) found d =
      λ i. and_then (section_filter found i) (behind_filter (filters_from n) d)

  -- a call by this name of these arguments, which its parenthesis closes
  abbrev pub call_of : ℕ → site.Name → Arguments × ℕ → Parser Deep
  call_of from n xs = λ j. node limit xs.1 (call_form n xs.0 (span from j)) j

  -- from its name on
  unfoldable pub call : Parser Deep
  call = λ i.
      ((λ j. arguments_from (left j) NoArguments 0 j) >>= call_of (start i) (text i))
      (next (next i))

  -- an expression that a brace closes
  unfoldable pub braced : Parser Deep
  braced = sub precedence.choice >>= (λ x. expect k.RightBrace >>= (λ _. λ j. Some (x, j)))

  abbrev pub quoted_value : Option site.Text → Parser Deep
  quoted_value None = refuse
  quoted_value (Some t) = λ i. Some (deep (Text t (span (start i) (next i))), next i)

  -- the value of an attribute: a text, or an expression in braces
  unfoldable pub attribute_value : Parser Deep
  attribute_value = λ i. if same k.LeftBrace (kind i) then braced (next i)
      else (if same k.Text (kind i) then quoted_value (literal (text i)) i else None)

  -- an attribute behind those that were found, and the depth of its value
  abbrev pub with_attribute : Entries → Option Key → Deep → Parser (Entries × ℕ)
  with_attribute found key x = λ j. Some ((join_entries found (one_entry key x.expr), x.depth), j)

  unfoldable pub named_attribute : Entries → Parser (Entries × ℕ)
  named_attribute found =
      argument_name >>= (λ name. attribute_value >>= with_attribute found (Some (TextKey name)))

  -- from behind its brace
  unfoldable pub spread_attribute : Entries → Parser (Entries × ℕ)
  spread_attribute found = expect k.Spread >>= (λ _. braced >>= with_attribute found None)

  -- one of both
  unfoldable pub any_attribute : Entries → Parser (Entries × ℕ)
  any_attribute found =
      λ i. if same k.LeftBrace (kind i) then spread_attribute found (next i)
      else named_attribute found i

  -- attributes of a component, up to where none begins
  unfoldable pub attributes_from : ℕ → Entries → ℕ → Parser (Entries × ℕ)
  attributes_from zero found d = λ i. Some ((found, d), i)
  attributes_from (suc n) found d =
      λ i. if begins_attribute (kind i)
      then and_then (any_attribute found i) (λ p. attributes_from n p.0 (max d p.1))
      else Some ((found, d), i)

  -- a component by this name with these attributes, from its end on
  unfoldable pub component_of : ℕ → site.Name → Entries → ℕ → Parser Deep
  component_of from n all d =
      expect k.TagEnd >>= (λ _. λ j. node limit d (Component n all (span from j)) j)

  -- from its name on
  abbrev pub component_by_name : ℕ → Parser Deep
  component_by_name from = λ i. if is_word (kind i)
      then and_then (attributes_from (left (next i)) NoEntries 0 (next i))
      (λ xs. component_of from (text i) xs.0 xs.1) else None

  unfoldable pub component : Parser Deep
  component = λ i. component_by_name (start i) (next i)

  abbrev pub leaf : Option Expr → Parser Deep
  leaf None = refuse
  leaf (Some x) = node limit 0 x

  abbrev pub name_by : Option site.Name → Parser Deep
  name_by None =
      λ i. if is_call i then call i
      else node limit 0 (Name (text i) (span (start i) (next i))) (next i)
  name_by (Some n) = λ i. node limit 0 (Name n (span (start i) (behind_loop i))) (behind_loop i)

  abbrev pub head_by : Kind → Parser Deep
  head_by k.Minus = prefix_form precedence.minus Negate
  head_by k.Not = prefix_form precedence.not Not
  head_by k.Int =
      λ i. leaf (option_map (λ z. Integer z (span (start i) (next i))) (integer (text i))) (next i)
  head_by k.Text =
      λ i. leaf (option_map (λ t. Text t (span (start i) (next i))) (literal (text i))) (next i)
  head_by k.True = λ i. node limit 0 (Boolean true (span (start i) (next i))) (next i)
  head_by k.False = λ i. node limit 0 (Boolean false (span (start i) (next i))) (next i)
  head_by k.Nothing = λ i. node limit 0 (Nothing (span (start i) (next i))) (next i)
  head_by k.Name = λ i. name_by (loop_name i) i
  head_by k.LeftBracket = λ i. brackets (start i) (next i)
  head_by k.LeftBrace = map
  head_by k.Less = component
  head_by _ = refuse

  -- what stands before the first operator
  unfoldable pub head : Parser Deep
  head = λ i. head_by (kind i) i

  -- goes on with operators, and closes what is open
  unfoldable pub climb : ℕ → List ℕ → ℕ → ℕ → ℕ → Deep → Parser Deep
  climb zero os floor have from x = refuse
  climb (suc n) [] floor have from x = λ i.
      if goes_on floor have (kind i)
      then and_then (operation from x i) (climb n [] floor (gives (kind i)) from)
      else Some (x, i)
  climb (suc n) (o ∷ os) floor have from x = λ i.
      if goes_on precedence.choice have (kind i)
      then and_then (operation from x i) (climb n (o ∷ os) floor (gives (kind i)) from)
      else (if same k.RightParenthesis (kind i)
      then climb n os floor precedence.operand o x (next i) else None)

  unfoldable pub level_with : ℕ → List ℕ → ℕ → Parser Deep
  level_with n os floor =
      λ i. if nat_le (floor_in os floor) (begins (kind i))
      then (head >>= climb n os floor (begins (kind i)) (start i)) i else None

  unfoldable pub level : ℕ → Parser Deep
  level floor = λ i. (opened (left i) [] >>= (λ os. level_with (left i) os floor)) i

-- an expression of this level or above, no deeper than the first number
unfoldable pub expr : ℕ → ℕ → Parser Deep
expr zero floor = refuse
expr (suc limit) floor = level (suc limit) (expr limit) floor

-- filters in a row, no deeper than the number, and the greatest depth: a filter is one deeper than
-- its deepest argument
unfoldable pub filters : ℕ → Parser (Filters × ℕ)
filters zero = refuse
filters (suc limit) = λ i. filters_from (suc limit) (expr limit) (left i) NoFilters 0 i

-- what was read, if it is no deeper than the number
abbrev pub no_deeper : ℕ → Entries × ℕ → Parser (Entries × ℕ)
no_deeper limit xs = λ j. if nat_le xs.1 limit then Some (xs, j) else None

-- attributes of a component, no deeper than the number, and the greatest depth
unfoldable pub attributes : ℕ → Parser (Entries × ℕ)
attributes limit =
    λ i. and_then (attributes_from limit (expr limit) (left i) NoEntries 0 i) (no_deeper limit)
