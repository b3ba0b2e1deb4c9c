-- The names that a tree looks up and does not bind.
use Rattle.std.specs.Prelude.{Bool, true, false, not, ◌&&◌, ◌||◌, bytes_eq, Option, Some, None, if◌then◌else◌}
use Rattle.tera_errors.specs.Site as site
use Rattle.tera_syntax_tree.specs.Tree.{Expr, Nothing, Boolean, Integer, Text, Name, Attribute, Index, Slice, Not, Negate, Binary, And, Or, Ternary, Array, Map, Comprehension, Super, Filter, Test, Call, Component, Optional, Absent, Present, Items, NoItems, MoreItems, Entries, NoEntries, MoreEntries, Arguments, NoArguments, MoreArguments, Filters, NoFilters, MoreFilters, Node, Set, Capture, For, Nodes, body_of, expression_in, filters_in, attributes_in, fold_node, fold}

-- a set of names
abbrev pub Names : Type 0
Names = site.Name → Bool

abbrev pub nobody : Names
nobody n = false

abbrev pub only : site.Name → Names
only m n = bytes_eq m n

-- what is in one of the two
infixr 5 ◌∪◌
abbrev pub ◌∪◌ : Names → Names → Names
p ∪ q = λ n. p n || q n

-- what is in the first alone
infixl 6 ◌∖◌
abbrev pub ◌∖◌ : Names → Names → Names
p ∖ q = λ n. not (q n) && p n

-- what a loop calls its items
abbrev pub loop_names : Option site.Name → site.Name → Names
loop_names None name = only name
loop_names (Some key) name = only name ∪ only key

-- a comprehension binds the names of its items in its value and its condition
abbrev mutual
  pub expr_free : Expr → Names
  expr_free (Nothing span) = nobody
  expr_free (Boolean b span) = nobody
  expr_free (Integer z span) = nobody
  expr_free (Text t span) = nobody
  expr_free (Name n span) = only n
  expr_free (Attribute e n optional span) = expr_free e
  expr_free (Index a b optional span) = expr_free a ∪ expr_free b
  expr_free (Slice e a b c optional span) =
      expr_free e ∪ (optional_free a ∪ (optional_free b ∪ optional_free c))
  expr_free (Not e span) = expr_free e
  expr_free (Negate e span) = expr_free e
  expr_free (Binary op a b span) = expr_free a ∪ expr_free b
  expr_free (And a b span) = expr_free a ∪ expr_free b
  expr_free (Or a b span) = expr_free a ∪ expr_free b
  expr_free (Ternary v c o span) = expr_free v ∪ (expr_free c ∪ expr_free o)
  expr_free (Array all span) = items_free all
  expr_free (Map all span) = entries_free all
  expr_free (Comprehension v key n e c span) =
      ((expr_free v ∪ optional_free c) ∖ loop_names key n) ∪ expr_free e
  expr_free (Super all span) = arguments_free all
  expr_free (Filter e n all span) = expr_free e ∪ arguments_free all
  expr_free (Test e n all span) = expr_free e ∪ arguments_free all
  expr_free (Call n all span) = arguments_free all
  expr_free (Component n all span) = entries_free all

  pub optional_free : Optional → Names
  optional_free Absent = nobody
  optional_free (Present e) = expr_free e

  pub items_free : Items → Names
  items_free NoItems = nobody
  items_free (MoreItems s e rest) = expr_free e ∪ items_free rest

  pub entries_free : Entries → Names
  entries_free NoEntries = nobody
  entries_free (MoreEntries k e rest) = expr_free e ∪ entries_free rest

  pub arguments_free : Arguments → Names
  arguments_free NoArguments = nobody
  arguments_free (MoreArguments n e rest) = expr_free e ∪ arguments_free rest

abbrev pub filters_free : Filters → Names
filters_free NoFilters = nobody
filters_free (MoreFilters n all span rest) = arguments_free all ∪ filters_free rest

-- what is looked up in a node's own tag
abbrev pub tag_free : Node → Names
tag_free n =
    optional_free (expression_in n)
    ∪ (filters_free (filters_in n) ∪ entries_free (attributes_in n))

-- what the body of a node is given: the names of a loop's items
abbrev pub body_names : Node → Names
body_names (For key n e body other) = loop_names key n
body_names _ = nobody

abbrev pub is_loop : Node → Bool
is_loop (For key n e body other) = true
is_loop _ = false

-- What setting a name binds behind it, or, where it stands in a loop's body, behind that loop:
-- there what `set` binds has ended, and what `set_global` binds has not.
abbrev pub set_binds : Bool → Bool → site.Name → Names
set_binds in_loop is_global n = if is_global || not in_loop then only n else nobody

-- the name that a node itself sets
abbrev pub own_binds : Bool → Node → Names
own_binds in_loop (Set n e is_global) = set_binds in_loop is_global n
own_binds in_loop (Capture n fs body is_global) = set_binds in_loop is_global n
own_binds in_loop _ = nobody

-- what a node binds is what it sets itself, and what its bodies bind
abbrev pub bind_node : Node → (Bool → Names) → (Bool → Names) → Bool → Names
bind_node n body other in_loop =
    own_binds in_loop n ∪ (body (in_loop || is_loop n) ∪ other in_loop)

abbrev pub bind_first : Node → (Bool → Names) → (Bool → Names) → Bool → Names
bind_first n first rest in_loop = first in_loop ∪ rest in_loop

-- the names that are bound behind nodes, or behind the loop in whose body they stand
abbrev pub node_binds : Bool → Node → Names
node_binds in_loop n = fold_node bind_node (λ in_loop. nobody) bind_first n in_loop

abbrev pub binds : Bool → Nodes → Names
binds in_loop nodes = fold bind_node (λ in_loop. nobody) bind_first nodes in_loop

-- what a node's tag looks up, what its body does that it is not given, and what its other body does
-- that the first one does not bind
abbrev pub free_node : Node → Names → Names → Names
free_node n body other =
    tag_free n ∪ ((body ∖ body_names n) ∪ (other ∖ binds (is_loop n) (body_of n)))

abbrev pub free_first : Node → Names → Names → Names
free_first n first rest = first ∪ (rest ∖ node_binds false n)

-- the names that nodes look up and that nothing binds which stands before in the text, or around
abbrev pub node_free : Node → Names
node_free = fold_node free_node nobody free_first

abbrev pub free : Nodes → Names
free = fold free_node nobody free_first
