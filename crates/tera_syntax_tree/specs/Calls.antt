-- What a tree calls.
use Rattle.std.specs.Prelude.{List, [], ◌∷◌, ◌++◌, Option, Some, None}
use Rattle.tera_errors.specs.Site as site
use Rattle.tera_syntax_tree.specs.Tree.{Expr, Nothing, Boolean, Integer, Text, Name, Attribute, Index, Slice, Not, Negate, Binary, And, Or, Ternary, Array, Map, Comprehension, Super, Filter, Test, Call, Component, Optional, Absent, Present, Items, NoItems, MoreItems, Entries, NoEntries, MoreEntries, Arguments, NoArguments, MoreArguments, Filters, NoFilters, MoreFilters, Node, Content, Print, If, Set, Capture, FilterSection, For, Block, Include, ComponentCall, Break, Continue, Nodes, NoNodes, MoreNodes}

-- a name that is called as a filter, a test, a function or a component, or that is included as a
-- template
pub data Callee : Type 0 where
  AFilter : (name : site.Name) → Callee
  ATest : (name : site.Name) → Callee
  AFunction : (name : site.Name) → Callee
  AComponent : (name : site.Name) → Callee
  ATemplate : (name : site.Name) → Callee

-- the name of the template, where one is called
abbrev pub template_called : Callee → Option site.Name
template_called (ATemplate name) = Some name
template_called _ = None

-- all that is called, in the order in which it is evaluated where all of it is
abbrev mutual
  pub expr_calls : Expr → List Callee
  expr_calls (Nothing span) = []
  expr_calls (Boolean b span) = []
  expr_calls (Integer z span) = []
  expr_calls (Text t span) = []
  expr_calls (Name n span) = []
  expr_calls (Attribute e n optional span) = expr_calls e
  expr_calls (Index a b optional span) = expr_calls a ++ expr_calls b
  expr_calls (Slice e a b c optional span) =
      expr_calls e ++ (optional_calls a ++ (optional_calls b ++ optional_calls c))
  expr_calls (Not e span) = expr_calls e
  expr_calls (Negate e span) = expr_calls e
  expr_calls (Binary op a b span) = expr_calls a ++ expr_calls b
  expr_calls (And a b span) = expr_calls a ++ expr_calls b
  expr_calls (Or a b span) = expr_calls a ++ expr_calls b
  expr_calls (Ternary v c o span) = expr_calls c ++ (expr_calls v ++ expr_calls o)
  expr_calls (Array all span) = items_calls all
  expr_calls (Map all span) = entries_calls all
  expr_calls (Comprehension v key n e c span) = expr_calls e ++ (optional_calls c ++ expr_calls v)
  expr_calls (Super all span) = arguments_calls all
  expr_calls (Filter e n all span) = expr_calls e ++ (arguments_calls all ++ AFilter n ∷ [])
  expr_calls (Test e n all span) = expr_calls e ++ (arguments_calls all ++ ATest n ∷ [])
  expr_calls (Call n all span) = arguments_calls all ++ AFunction n ∷ []
  expr_calls (Component n all span) = entries_calls all ++ AComponent n ∷ []

  pub optional_calls : Optional → List Callee
  optional_calls Absent = []
  optional_calls (Present e) = expr_calls e

  pub items_calls : Items → List Callee
  items_calls NoItems = []
  items_calls (MoreItems s e rest) = expr_calls e ++ items_calls rest

  pub entries_calls : Entries → List Callee
  entries_calls NoEntries = []
  entries_calls (MoreEntries k e rest) = expr_calls e ++ entries_calls rest

  pub arguments_calls : Arguments → List Callee
  arguments_calls NoArguments = []
  arguments_calls (MoreArguments n e rest) = expr_calls e ++ arguments_calls rest

abbrev pub filters_calls : Filters → List Callee
filters_calls NoFilters = []
filters_calls (MoreFilters n all span rest) =
    (arguments_calls all ++ AFilter n ∷ []) ++ filters_calls rest

-- what a block calls is no part of what the nodes around it call
abbrev mutual
  pub node_calls : Node → List Callee
  node_calls (Content t span) = []
  node_calls (Print e) = expr_calls e
  node_calls (If c body other) = expr_calls c ++ (calls body ++ calls other)
  node_calls (Set n e is_global) = expr_calls e
  node_calls (Capture n fs body is_global) = calls body ++ filters_calls fs
  node_calls (FilterSection fs body) = calls body ++ filters_calls fs
  node_calls (For key n e body other) = expr_calls e ++ (calls body ++ calls other)
  node_calls (Block n body span) = []
  node_calls (Include n span) = ATemplate n ∷ []
  node_calls (ComponentCall n all body span) =
      calls body ++ (entries_calls all ++ AComponent n ∷ [])
  node_calls Break = []
  node_calls Continue = []

  pub calls : Nodes → List Callee
  calls NoNodes = []
  calls (MoreNodes n rest) = node_calls n ++ calls rest
