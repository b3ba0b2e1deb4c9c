-- How deep trees are.
use Rattle.std.specs.Prelude.{ℕ, suc, max, ◌≤◌, IsTrue, List, [], ◌∷◌, Option, Some, None}
use Rattle.tera_syntax_tree.specs.Tree.{Expr, Nothing, Boolean, Integer, Text, Name, Attribute, Index, Slice, Not, Negate, Binary, And, Or, Ternary, Array, Map, Comprehension, Super, Filter, Test, Call, Component, Optional, Absent, Present, Items, NoItems, MoreItems, Entries, NoEntries, MoreEntries, Arguments, NoArguments, MoreArguments, Literal, NothingLiteral, BooleanLiteral, IntegerLiteral, TextLiteral, ArrayLiteral, MapLiteral, Literals, NoLiterals, MoreLiterals, LiteralEntries, NoLiteralEntries, MoreLiteralEntries, Parameter, Filters, NoFilters, MoreFilters, Node, Nodes, Signature, Definitions, Tree, expression_in, filters_in, attributes_in, fold_node, fold}
use Rattle.tera_syntax_tree.specs.Leaving.{tree_in_place}
use Rattle.tera_syntax_tree.specs.Blocks.{has_each_block_once}
use Rattle.tera_syntax_tree.specs.Definitions.{has_blocks_outside, has_each_component_once}

-- a leaf has depth 1, and anything else one more than its deepest part
abbrev mutual
  pub depth : Expr → ℕ
  depth (Nothing span) = 1
  depth (Boolean b span) = 1
  depth (Integer z span) = 1
  depth (Text t span) = 1
  depth (Name n span) = 1
  depth (Attribute e n optional span) = suc (depth e)
  depth (Index a b optional span) = suc (max (depth a) (depth b))
  depth (Slice e a b c optional span) =
      suc (max (depth e) (max (optional_depth a) (max (optional_depth b) (optional_depth c))))
  depth (Not e span) = suc (depth e)
  depth (Negate e span) = suc (depth e)
  depth (Binary op a b span) = suc (max (depth a) (depth b))
  depth (And a b span) = suc (max (depth a) (depth b))
  depth (Or a b span) = suc (max (depth a) (depth b))
  depth (Ternary v c o span) = suc (max (depth v) (max (depth c) (depth o)))
  depth (Array all span) = suc (items_depth all)
  depth (Map all span) = suc (entries_depth all)
  depth (Comprehension v key n e c span) = suc (max (depth v) (max (depth e) (optional_depth c)))
  depth (Super all span) = suc (arguments_depth all)
  depth (Filter e n all span) = suc (max (depth e) (arguments_depth all))
  depth (Test e n all span) = suc (max (depth e) (arguments_depth all))
  depth (Call n all span) = suc (arguments_depth all)
  depth (Component n all span) = suc (entries_depth all)

  pub optional_depth : Optional → ℕ
  optional_depth Absent = 0
  optional_depth (Present e) = depth e

  pub items_depth : Items → ℕ
  items_depth NoItems = 0
  items_depth (MoreItems s e rest) = max (depth e) (items_depth rest)

  pub entries_depth : Entries → ℕ
  entries_depth NoEntries = 0
  entries_depth (MoreEntries k e rest) = max (depth e) (entries_depth rest)

  pub arguments_depth : Arguments → ℕ
  arguments_depth NoArguments = 0
  arguments_depth (MoreArguments n e rest) = max (depth e) (arguments_depth rest)

abbrev mutual
  pub literal_depth : Literal → ℕ
  literal_depth NothingLiteral = 1
  literal_depth (BooleanLiteral b) = 1
  literal_depth (IntegerLiteral z) = 1
  literal_depth (TextLiteral t) = 1
  literal_depth (ArrayLiteral all) = suc (literals_depth all)
  literal_depth (MapLiteral all) = suc (literal_entries_depth all)

  pub literals_depth : Literals → ℕ
  literals_depth NoLiterals = 0
  literals_depth (MoreLiterals v rest) = max (literal_depth v) (literals_depth rest)

  pub literal_entries_depth : LiteralEntries → ℕ
  literal_entries_depth NoLiteralEntries = 0
  literal_entries_depth (MoreLiteralEntries k v rest) =
      max (literal_depth v) (literal_entries_depth rest)

abbrev pub default_depth : Option Literal → ℕ
default_depth None = 0
default_depth (Some v) = literal_depth v

-- how deep the defaults are
abbrev pub parameters_depth : List Parameter → ℕ
parameters_depth [] = 0
parameters_depth (p ∷ ps) = max (default_depth p.default) (parameters_depth ps)

abbrev pub filters_depth : Filters → ℕ
filters_depth NoFilters = 0
filters_depth (MoreFilters n all span rest) = max (suc (arguments_depth all)) (filters_depth rest)

-- how deep the parts of a node's own tag are
abbrev pub tag_depth : Node → ℕ
tag_depth n =
    max (optional_depth (expression_in n))
    (max (filters_depth (filters_in n)) (entries_depth (attributes_in n)))

-- a node is one deeper than its tag and its bodies, and nodes are as deep as the deepest of them
abbrev pub deepen : Node → ℕ → ℕ → ℕ
deepen n body other = suc (max (tag_depth n) (max body other))

abbrev pub deepest : Node → ℕ → ℕ → ℕ
deepest n first rest = max first rest

abbrev pub node_depth : Node → ℕ
node_depth = fold_node deepen 0 deepest

abbrev pub nodes_depth : Nodes → ℕ
nodes_depth = fold deepen 0 deepest

-- a component is no level itself
abbrev pub definition_depth : Signature × Nodes → ℕ
definition_depth d = max (parameters_depth d.0.parameters) (nodes_depth d.1)

abbrev pub definitions_depth : Definitions → ℕ
definitions_depth [] = 0
definitions_depth (d ∷ ds) = max (definition_depth d) (definitions_depth ds)

-- how deep the nodes of a tree are, and its components
abbrev pub tree_depth : Tree → ℕ
tree_depth t = max (nodes_depth t.nodes) (definitions_depth t.definitions)

-- how deep a tree may be
abbrev pub max_tree_depth : ℕ
max_tree_depth = 200

-- what the grammar allows: no deeper than that, nothing out of its place, and no two blocks and no
-- two components of one name
abbrev pub IsWellFormed : Tree → Type 0
IsWellFormed t =
    (tree_depth t ≤ max_tree_depth) × IsTrue (tree_in_place t)
    × IsTrue (has_each_block_once t.nodes)
    × IsTrue (has_blocks_outside t) × IsTrue (has_each_component_once t)
