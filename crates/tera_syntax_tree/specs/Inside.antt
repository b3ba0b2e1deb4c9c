-- Trees of which every span is a stretch of the text.
use Rattle.std.specs.Prelude.{ℕ, ◌≤◌, [], ◌∷◌}
use Rattle.tera_errors.specs.declared.span.Span.{Span}
use Rattle.tera_syntax_tree.specs.Tree.{Expr, Nothing, Boolean, Integer, Text, Name, Attribute, Index, Slice, Not, Negate, Binary, And, Or, Ternary, Array, Map, Comprehension, Super, Filter, Test, Call, Component, Optional, Absent, Present, Items, NoItems, MoreItems, Entries, NoEntries, MoreEntries, Arguments, NoArguments, MoreArguments, Filters, NoFilters, MoreFilters, Node, Content, Block, Include, ComponentCall, Nodes, Definitions, Tree, expression_in, filters_in, attributes_in, fold_node, fold}

-- a stretch of a text of this size
abbrev pub Within : ℕ → Span → Type 0
Within size span = (span.start ≤ span.end) × (span.end ≤ size)

abbrev mutual
  pub ExprInside : ℕ → Expr → Type 0
  ExprInside size (Nothing span) = Within size span
  ExprInside size (Boolean b span) = Within size span
  ExprInside size (Integer z span) = Within size span
  ExprInside size (Text t span) = Within size span
  ExprInside size (Name n span) = Within size span
  ExprInside size (Attribute e n optional span) = ExprInside size e × Within size span
  ExprInside size (Index a b optional span) =
      ExprInside size a × ExprInside size b × Within size span
  ExprInside size (Slice e a b c optional span) =
      ExprInside size e × OptionalInside size a × OptionalInside size b × OptionalInside size c
      × Within size span
  ExprInside size (Not e span) = ExprInside size e × Within size span
  ExprInside size (Negate e span) = ExprInside size e × Within size span
  ExprInside size (Binary op a b span) = ExprInside size a × ExprInside size b × Within size span
  ExprInside size (And a b span) = ExprInside size a × ExprInside size b × Within size span
  ExprInside size (Or a b span) = ExprInside size a × ExprInside size b × Within size span
  ExprInside size (Ternary v c o span) =
      ExprInside size v × ExprInside size c × ExprInside size o × Within size span
  ExprInside size (Array all span) = ItemsInside size all × Within size span
  ExprInside size (Map all span) = EntriesInside size all × Within size span
  ExprInside size (Comprehension v key n e c span) =
      ExprInside size v × ExprInside size e × OptionalInside size c × Within size span
  ExprInside size (Super all span) = ArgumentsInside size all × Within size span
  ExprInside size (Filter e n all span) =
      ExprInside size e × ArgumentsInside size all × Within size span
  ExprInside size (Test e n all span) =
      ExprInside size e × ArgumentsInside size all × Within size span
  ExprInside size (Call n all span) = ArgumentsInside size all × Within size span
  ExprInside size (Component n all span) = EntriesInside size all × Within size span

  pub OptionalInside : ℕ → Optional → Type 0
  OptionalInside size Absent = Unit {0}
  OptionalInside size (Present e) = ExprInside size e

  pub ItemsInside : ℕ → Items → Type 0
  ItemsInside size NoItems = Unit {0}
  ItemsInside size (MoreItems s e rest) = ExprInside size e × ItemsInside size rest

  pub EntriesInside : ℕ → Entries → Type 0
  EntriesInside size NoEntries = Unit {0}
  EntriesInside size (MoreEntries k e rest) = ExprInside size e × EntriesInside size rest

  pub ArgumentsInside : ℕ → Arguments → Type 0
  ArgumentsInside size NoArguments = Unit {0}
  ArgumentsInside size (MoreArguments n e rest) = ExprInside size e × ArgumentsInside size rest

abbrev pub FiltersInside : ℕ → Filters → Type 0
FiltersInside size NoFilters = Unit {0}
FiltersInside size (MoreFilters n all span rest) =
    ArgumentsInside size all × Within size span × FiltersInside size rest

-- the span of a node itself, where it has one
abbrev pub OwnSpanInside : ℕ → Node → Type 0
OwnSpanInside size (Content t span) = Within size span
OwnSpanInside size (Block n body span) = Within size span
OwnSpanInside size (Include n span) = Within size span
OwnSpanInside size (ComponentCall n all body span) = Within size span
OwnSpanInside size _ = Unit {0}

-- the spans in a node's own tag
abbrev pub TagInside : ℕ → Node → Type 0
TagInside size n =
    OptionalInside size (expression_in n) × FiltersInside size (filters_in n)
    × EntriesInside size (attributes_in n)
    × OwnSpanInside size n

-- those of a node are those in its tag and in its bodies
abbrev pub AllInside : ℕ → Node → Type 0 → Type 0 → Type 0
AllInside size n body other = TagInside size n × body × other

abbrev pub BothInside : Node → Type 0 → Type 0 → Type 0
BothInside n first rest = first × rest

abbrev pub NodeInside : ℕ → Node → Type 0
NodeInside size = fold_node (AllInside size) (Unit {0}) BothInside

abbrev pub NodesInside : ℕ → Nodes → Type 0
NodesInside size = fold (AllInside size) (Unit {0}) BothInside

abbrev pub DefinitionsInside : ℕ → Definitions → Type 0
DefinitionsInside size [] = Unit {0}
DefinitionsInside size (d ∷ ds) = NodesInside size d.1 × DefinitionsInside size ds

-- all spans of the tree are stretches of a text of this size
abbrev pub Inside : ℕ → Tree → Type 0
Inside size t = NodesInside size t.nodes × DefinitionsInside size t.definitions
