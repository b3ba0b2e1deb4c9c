-- The plain data that a tree in memory stands for.
use Rattle.std.specs.Prelude.{List, [], ◌∷◌, Bool, Option, Some, None, string_bytes, option_copied, option_map, Box, map as map_list}
use Rattle.std.specs.Global.{Global}
use Rattle.tera_syntax_tree.specs.declared.expression.Expression.{Expression, Row_of-Item, end_of-Item, more_of-Item, Row_of-EntryExpression, end_of-EntryExpression, more_of-EntryExpression, Row_of-Argument, end_of-Argument, more_of-Argument, Held-Bounds-start, Bounds-start-None', Some'}
use Rattle.tera_syntax_tree.specs.declared.expression.Expression.TheVariants as expression
use Rattle.tera_errors.specs.Site as site
use Rattle.tera_errors.specs.declared.span.Span.{Span}
use Rattle.tera_syntax_tree.specs.declared.expression.Sliced.{Sliced}
use Rattle.tera_syntax_tree.specs.declared.expression.Heading.{Heading}
use Rattle.tera_syntax_tree.specs.declared.expression.Collected.{Collected}
use Rattle.tera_syntax_tree.specs.declared.expression.Applied.{Applied, Applied', out-Applied}
use Rattle.tera_syntax_tree.specs.declared.expression.FunctionCall.{FunctionCall, FunctionCall', out-FunctionCall}
use Rattle.tera_syntax_tree.specs.declared.expression.ComponentTag.{ComponentTag, ComponentTag', out-ComponentTag}
use Rattle.tera_syntax_tree.specs.declared.expression.LiteralKey.{LiteralKey}
use Rattle.tera_syntax_tree.specs.declared.expression.LiteralKey.TheVariants as key
use Rattle.tera_syntax_tree.specs.declared.expression.OwnedKey.{OwnedKey}
use Rattle.tera_syntax_tree.specs.declared.expression.OwnedKey.TheVariants as owned
use Rattle.tera_syntax_tree.specs.declared.quoted.Quoted.{Quoted}
use Rattle.tera_syntax_tree.specs.declared.quoted.Quoted.TheVariants as quoted
use Rattle.tera_syntax_tree.specs.declared.expression.Item as item
use Rattle.tera_syntax_tree.specs.declared.expression.EntryExpression as entry
use Rattle.tera_syntax_tree.specs.declared.expression.Argument as argument
use Rattle.tera_syntax_tree.specs.declared.component.Literal.{Row_of-Literal, end_of-Literal, more_of-Literal, Row_of-LiteralEntry, end_of-LiteralEntry, more_of-LiteralEntry}
use Rattle.tera_syntax_tree.specs.declared.component.Literal as declared_literal
use Rattle.tera_syntax_tree.specs.declared.component.Literal.TheVariants as written
use Rattle.tera_syntax_tree.specs.declared.component.LiteralEntry.{LiteralEntry}
use Rattle.tera_syntax_tree.specs.declared.component.Parameter as parameter
use Rattle.tera_syntax_tree.specs.declared.component.Signature as signature
use Rattle.tera_syntax_tree.specs.declared.node.Captured.{Captured}
use Rattle.tera_syntax_tree.specs.declared.node.SectionFilter.{SectionFilter}
use Rattle.tera_syntax_tree.specs.declared.node.Node.{Row_of-Node, end_of-Node, more_of-Node}
use Rattle.tera_syntax_tree.specs.declared.node.Node as declared
use Rattle.tera_syntax_tree.specs.declared.node.Node.TheVariants as variant
use Rattle.tera_syntax_tree.specs.declared.node.ParserOutput.{ParserOutput}
use Rattle.tera_syntax_tree.specs.declared.node.DefinedComponent.{DefinedComponent}
use Rattle.tera_syntax_tree.specs.Tree.{Key, BoolKey, IntKey, TextKey, Expr, Nothing, Boolean, Integer, Text, Name, Attribute, Index, Slice, Not, Negate, Binary, And, Or, Ternary, Array, Map, Comprehension, Super, Filter, Test, Call, Component, Optional, Absent, Present, Items, NoItems, MoreItems, Entries, NoEntries, MoreEntries, Arguments, NoArguments, MoreArguments, Literal, NothingLiteral, BooleanLiteral, IntegerLiteral, TextLiteral, ArrayLiteral, MapLiteral, Literals, NoLiterals, MoreLiterals, LiteralEntries, NoLiteralEntries, MoreLiteralEntries, Parameter, Signature, Filters, NoFilters, MoreFilters, Node, Content, Print, If, Set, Capture, FilterSection, For, Block, Include, ComponentCall, Break, Continue, Nodes, NoNodes, MoreNodes, Definitions, Tree}

abbrev pub quoted_of : Quoted → site.Text
quoted_of (quoted.Lent t) = t.now
quoted_of (quoted.Made t) = string_bytes t.value

abbrev pub literal_of : LiteralKey → Key
literal_of (key.Bool b) = BoolKey b
literal_of (key.Int z) = IntKey z
literal_of (key.Text t) = TextKey (quoted_of t)

-- what stands where it may be left out
abbrev pub quoted_option : Option Quoted → Option site.Text
quoted_option = option_map quoted_of

abbrev pub literal_option : Option LiteralKey → Option Key
literal_option = option_map literal_of

abbrev pub key_of : OwnedKey → Key
key_of (owned.Bool b) = BoolKey b
key_of (owned.Int z) = IntKey z
key_of (owned.Text t) = TextKey (string_bytes t)

abbrev pub key_option : Option OwnedKey → Option Key
key_option = option_map key_of

abbrev pub keys_of : List (Option OwnedKey) → List (Option Key)
keys_of = map_list key_option

abbrev mutual
  pub expr_of : Expression → Expr
  expr_of (expression.None span) = Nothing span
  expr_of (expression.Bool b span) = Boolean b span
  expr_of (expression.Int z span) = Integer z span
  expr_of (expression.Text t span) = Text (quoted_of t) span
  expr_of (expression.Name t span) = Name t.now span
  expr_of (expression.Attribute' optional p e t span) = Attribute (expr_of e) t.now optional span
  expr_of (expression.Index' optional p a b span) = Index (expr_of a) (expr_of b) optional span
  expr_of (expression.Slice' optional p e a b c span) =
      Slice (expr_of e) (held_of a) (held_of b) (held_of c) optional span
  expr_of (expression.Not' p e span) = Not (expr_of e) span
  expr_of (expression.Negate' p e span) = Negate (expr_of e) span
  expr_of (expression.Binary' op p a b span) = Binary op (expr_of a) (expr_of b) span
  expr_of (expression.And' p a b span) = And (expr_of a) (expr_of b) span
  expr_of (expression.Or' p a b span) = Or (expr_of a) (expr_of b) span
  expr_of (expression.Ternary' p v c o span) = Ternary (expr_of v) (expr_of c) (expr_of o) span
  expr_of (expression.Array' m all span) = Array (row_items all) span
  expr_of (expression.Map' m all span) = Map (row_entries all) span
  expr_of (expression.Comprehension' p v key n e c span) =
      Comprehension (expr_of v) (option_copied key) n.now (expr_of e) (held_of c) span
  expr_of (expression.Super' m all span) = Super (row_arguments all) span
  expr_of (expression.Filter' p (Applied' e t m all) span) =
      Filter (expr_of e) t.now (row_arguments all) span
  expr_of (expression.Test' p (Applied' e t m all) span) =
      Test (expr_of e) t.now (row_arguments all) span
  expr_of (expression.Call' p (FunctionCall' t m all) span) = Call t.now (row_arguments all) span
  expr_of (expression.Component' p (ComponentTag' t m all) span) =
      Component t.now (row_entries all) span

  pub held_of : Held-Bounds-start → Optional
  held_of Bounds-start-None' = Absent
  held_of (Some' p e) = Present (expr_of e)

  pub row_items : {m : _} → Row_of-Item m → Items
  row_items end_of-Item = NoItems
  row_items (more_of-Item b e rest) = MoreItems b (expr_of e) (row_items rest)

  pub row_entries : {m : _} → Row_of-EntryExpression m → Entries
  row_entries end_of-EntryExpression = NoEntries
  row_entries (more_of-EntryExpression k e rest) =
      MoreEntries (literal_option k) (expr_of e) (row_entries rest)

  pub row_arguments : {m : _} → Row_of-Argument m → Arguments
  row_arguments end_of-Argument = NoArguments
  row_arguments (more_of-Argument n e rest) = MoreArguments n.now (expr_of e) (row_arguments rest)

abbrev pub optional_of : Option (Box Expression Global) → Optional
optional_of None = Absent
optional_of (Some b) = Present (expr_of b.value)

-- a comprehension of these parts
abbrev pub comprehension_of : Collected → Span → Expr
comprehension_of c span =
    Comprehension (expr_of c.value) (option_copied c.heading.key) c.heading.name.now
    (expr_of c.heading.target) (optional_of c.condition) span

-- a slice of these bounds
abbrev pub slice_of : Sliced → Bool → Span → Expr
slice_of s optional span =
    Slice (expr_of s.target) (optional_of s.bounds.start) (optional_of s.bounds.end)
    (optional_of s.bounds.step) optional span

abbrev pub items_of : List item.Item → Items
items_of [] = NoItems
items_of (a ∷ rest) = MoreItems a.is_spread (expr_of a.value) (items_of rest)

abbrev pub entries_of : List entry.EntryExpression → Entries
entries_of [] = NoEntries
entries_of (a ∷ rest) = MoreEntries (literal_option a.key) (expr_of a.value) (entries_of rest)

abbrev pub arguments_of : List argument.Argument → Arguments
arguments_of [] = NoArguments
arguments_of (a ∷ rest) = MoreArguments a.name.now (expr_of a.value) (arguments_of rest)

-- a filter or a test of these parts
abbrev pub applied_of : (Expr → site.Name → Arguments → Span → Expr) → Applied → Span → Expr
applied_of form a span = let parts = out-Applied a in
    form (expr_of parts.value) parts.name.now (arguments_of parts.arguments.items) span

-- a call of these parts
abbrev pub called_of : FunctionCall → Span → Expr
called_of c span =
    let parts = out-FunctionCall c in Call parts.name.now (arguments_of parts.arguments.items) span

-- a component that this tag calls
abbrev pub tag_of : ComponentTag → Span → Expr
tag_of t span = let parts = out-ComponentTag t in
    Component parts.name.now (entries_of parts.attributes.items) span

abbrev pub filters_of : List SectionFilter → Filters
filters_of [] = NoFilters
filters_of (f ∷ rest) =
    MoreFilters f.name.now (arguments_of f.arguments.items) f.span (filters_of rest)

abbrev mutual
  pub written_of : declared_literal.Literal → Literal
  written_of written.None = NothingLiteral
  written_of (written.Bool b) = BooleanLiteral b
  written_of (written.Int z) = IntegerLiteral z
  written_of (written.Text t) = TextLiteral (quoted_of t)
  written_of (written.Array' m all) = ArrayLiteral (row_literals all)
  written_of (written.Map' m all) = MapLiteral (row_literal_entries all)

  pub row_literals : {m : _} → Row_of-Literal m → Literals
  row_literals end_of-Literal = NoLiterals
  row_literals (more_of-Literal v rest) = MoreLiterals (written_of v) (row_literals rest)

  pub row_literal_entries : {m : _} → Row_of-LiteralEntry m → LiteralEntries
  row_literal_entries end_of-LiteralEntry = NoLiteralEntries
  row_literal_entries (more_of-LiteralEntry k v rest) =
      MoreLiteralEntries (literal_of k) (written_of v) (row_literal_entries rest)

abbrev pub literals_of : List declared_literal.Literal → Literals
literals_of [] = NoLiterals
literals_of (v ∷ rest) = MoreLiterals (written_of v) (literals_of rest)

abbrev pub literal_entries_of : List LiteralEntry → LiteralEntries
literal_entries_of [] = NoLiteralEntries
literal_entries_of (e ∷ rest) =
    MoreLiteralEntries (literal_of e.key) (written_of e.value) (literal_entries_of rest)

abbrev pub written_option : Option declared_literal.Literal → Option Literal
written_option = option_map written_of

abbrev pub parameter_of : parameter.Parameter → Parameter
parameter_of p =
    record {
      name = p.name.now;
      is_implicit = p.is_implicit;
      of_type = p.of_type;
      default = written_option p.default;
    }

abbrev pub signature_of : signature.Signature → Signature
signature_of s =
    record {
      name = s.name.now;
      parameters = map_list parameter_of s.parameters.items;
      rest = option_copied s.rest;
    }

-- a name, filters and a body of which the text is captured
abbrev pub capture_of : Captured → Nodes → Bool → Node
capture_of c body is_global = Capture c.name.now (filters_of c.filters.items) body is_global

-- a component that is handed a body
abbrev pub component_call_of : ComponentTag → Nodes → Span → Node
component_call_of t body span = let parts = out-ComponentTag t in
    ComponentCall parts.name.now (entries_of parts.attributes.items) body span

abbrev mutual
  pub node_of : declared.Node → Node
  node_of (variant.Content t span) = Content t.now span
  node_of (variant.Print e) = Print (expr_of e)
  node_of (variant.PrintName t span) = Print (Name t.now span)
  node_of (variant.If' c m body n other) = If (expr_of c.value) (row_nodes body) (row_nodes other)
  node_of (variant.Set t e is_global) = Set t.now (expr_of e.value) is_global
  node_of (variant.Capture' is_global c m body) = capture_of c.value (row_nodes body) is_global
  node_of (variant.FilterSection' fs m body) = FilterSection (filters_of fs.items) (row_nodes body)
  node_of (variant.For' h m body n other) =
      For (option_copied h.value.key) h.value.name.now (expr_of h.value.target) (row_nodes body)
      (row_nodes other)
  node_of (variant.Block' t m body span) = Block t.now (row_nodes body) span
  node_of (variant.Include t span) = Include (quoted_of t) span
  node_of (variant.ComponentCall' c m body span) = component_call_of c.value (row_nodes body) span
  node_of variant.Break = Break
  node_of variant.Continue = Continue

  pub row_nodes : {m : _} → Row_of-Node m → Nodes
  row_nodes end_of-Node = NoNodes
  row_nodes (more_of-Node n rest) = MoreNodes (node_of n) (row_nodes rest)

abbrev pub nodes_of : List declared.Node → Nodes
nodes_of [] = NoNodes
nodes_of (n ∷ ns) = MoreNodes (node_of n) (nodes_of ns)

-- a loop with this heading
abbrev pub for_of : Heading → List declared.Node → List declared.Node → Node
for_of h body other =
    For (option_copied h.key) h.name.now (expr_of h.target) (nodes_of body) (nodes_of other)

abbrev pub defined_of : DefinedComponent → Signature × Nodes
defined_of d = (signature_of d.signature, nodes_of d.body.items)

abbrev pub definitions_of : List DefinedComponent → Definitions
definitions_of = map_list defined_of

abbrev pub tree_of : ParserOutput → Tree
tree_of output =
    record {
      parent = quoted_option output.parent;
      nodes = nodes_of output.nodes.items;
      definitions = definitions_of output.component_definitions.items;
    }
