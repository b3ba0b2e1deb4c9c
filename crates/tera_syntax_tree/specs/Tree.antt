-- Trees as plain data.
use Rattle.std.specs.Prelude.{ℤ, Bool, List, Option}
use Rattle.tera_errors.specs.Site as site
use Rattle.tera_errors.specs.declared.span.Span.{Span}
use Rattle.tera_syntax_tree.specs.declared.expression.BinaryOperator.{BinaryOperator}
use Rattle.tera_syntax_tree.specs.declared.component.ArgumentType.{ArgumentType}

-- a key that is written out
pub data Key : Type 0 where
  BoolKey : (value : Bool) → Key
  IntKey : (value : ℤ) → Key
  TextKey : (text : site.Text) → Key

mutual
  pub data Expr : Type 0 where
    Nothing : (span : Span) → Expr
    Boolean : (value : Bool) (span : Span) → Expr
    Integer : (value : ℤ) (span : Span) → Expr
    Text : (text : site.Text) (span : Span) → Expr
    Name : (name : site.Name) (span : Span) → Expr
    Attribute : (target : Expr) (name : site.Name) (optional : Bool) (span : Span) → Expr
    Index : (target : Expr) (index : Expr) (optional : Bool) (span : Span) → Expr
    Slice : (target : Expr) (start : Optional) (end : Optional) (step : Optional) (optional : Bool)
        (span : Span) → Expr
    Not : (operand : Expr) (span : Span) → Expr
    Negate : (operand : Expr) (span : Span) → Expr
    Binary : (operator : BinaryOperator) (left : Expr) (right : Expr) (span : Span) → Expr
    And : (left : Expr) (right : Expr) (span : Span) → Expr
    Or : (left : Expr) (right : Expr) (span : Span) → Expr
    Ternary : (value : Expr) (condition : Expr) (other : Expr) (span : Span) → Expr
    Array : (items : Items) (span : Span) → Expr
    Map : (entries : Entries) (span : Span) → Expr
    Comprehension : (value : Expr) (key : Option site.Name) (name : site.Name) (target : Expr)
        (condition : Optional) (span : Span) → Expr
    Super : (arguments : Arguments) (span : Span) → Expr
    Filter : (value : Expr) (name : site.Name) (arguments : Arguments) (span : Span) → Expr
    Test : (value : Expr) (name : site.Name) (arguments : Arguments) (span : Span) → Expr
    Call : (name : site.Name) (arguments : Arguments) (span : Span) → Expr
    -- its attributes are entries at text keys
    Component : (name : site.Name) (attributes : Entries) (span : Span) → Expr

  pub data Optional : Type 0 where
    Absent : Optional
    Present : (expr : Expr) → Optional

  pub data Items : Type 0 where
    NoItems : Items
    MoreItems : (is_spread : Bool) (value : Expr) (rest : Items) → Items

  -- an entry without a key is spread
  pub data Entries : Type 0 where
    NoEntries : Entries
    MoreEntries : (key : Option Key) (value : Expr) (rest : Entries) → Entries

  -- in byte order of their names, none of which stands twice
  pub data Arguments : Type 0 where
    NoArguments : Arguments
    MoreArguments : (name : site.Name) (value : Expr) (rest : Arguments) → Arguments

-- a value that is written out
mutual
  pub data Literal : Type 0 where
    NothingLiteral : Literal
    BooleanLiteral : (value : Bool) → Literal
    IntegerLiteral : (value : ℤ) → Literal
    TextLiteral : (text : site.Text) → Literal
    ArrayLiteral : (items : Literals) → Literal
    MapLiteral : (entries : LiteralEntries) → Literal

  pub data Literals : Type 0 where
    NoLiterals : Literals
    MoreLiterals : (value : Literal) (rest : Literals) → Literals

  pub data LiteralEntries : Type 0 where
    NoLiteralEntries : LiteralEntries
    MoreLiteralEntries : (key : Key) (value : Literal) (rest : LiteralEntries) → LiteralEntries

-- what a component is given by a name; where it is implicit and not given, it is looked up in the
-- callers
pub record Parameter : Type 0 where
  pub name : site.Name
  pub is_implicit : Bool
  pub of_type : Option ArgumentType
  pub default : Option Literal

-- a component's name, its parameters, and the name of what takes all other arguments
pub record Signature : Type 0 where
  pub name : site.Name
  pub parameters : List Parameter
  pub rest : Option site.Name

-- filters of a text that a body puts out, the first one first
pub data Filters : Type 0 where
  NoFilters : Filters
  MoreFilters : (name : site.Name) (arguments : Arguments) (span : Span) (rest : Filters) → Filters

-- where a fault in the text itself is reported: at the first filter. Where there is none, nothing
-- is refused.
abbrev pub first_span : Filters → Span
first_span NoFilters = record { start = 0; end = 0 }
first_span (MoreFilters name all span rest) = span

mutual
  pub data Node : Type 0 where
    Content : (text : site.Text) (span : Span) → Node
    Print : (value : Expr) → Node
    If : (condition : Expr) (body : Nodes) (other : Nodes) → Node
    Set : (name : site.Name) (value : Expr) (is_global : Bool) → Node
    Capture : (name : site.Name) (filters : Filters) (body : Nodes) (is_global : Bool) → Node
    FilterSection : (filters : Filters) (body : Nodes) → Node
    For : (key : Option site.Name) (name : site.Name) (target : Expr) (body : Nodes) (other : Nodes)
        → Node
    Block : (name : site.Name) (body : Nodes) (span : Span) → Node
    -- the template to which the name resolves
    Include : (name : site.Name) (span : Span) → Node
    -- a component that is handed what its body puts out
    ComponentCall : (name : site.Name) (attributes : Entries) (body : Nodes) (span : Span) → Node
    Break : Node
    Continue : Node

  pub data Nodes : Type 0 where
    NoNodes : Nodes
    MoreNodes : (node : Node) (rest : Nodes) → Nodes

-- what stands between the tags of a statement
abbrev pub body_of : Node → Nodes
body_of (If c body other) = body
body_of (Capture n fs body is_global) = body
body_of (FilterSection fs body) = body
body_of (For key n e body other) = body
body_of (Block n body span) = body
body_of (ComponentCall n all body span) = body
body_of _ = NoNodes

-- what stands behind the `else` of a statement
abbrev pub other_of : Node → Nodes
other_of (If c body other) = other
other_of (For key n e body other) = other
other_of _ = NoNodes

-- the expression in a node's own tag
abbrev pub expression_in : Node → Optional
expression_in (Print e) = Present e
expression_in (If c body other) = Present c
expression_in (Set n e is_global) = Present e
expression_in (For key n e body other) = Present e
expression_in _ = Absent

-- the filters in a node's own tag
abbrev pub filters_in : Node → Filters
filters_in (Capture n fs body is_global) = fs
filters_in (FilterSection fs body) = fs
filters_in _ = NoFilters

-- the attributes in a node's own tag
abbrev pub attributes_in : Node → Entries
attributes_in (ComponentCall n all body span) = all
attributes_in _ = NoEntries

-- What is made of nodes: `own` makes it of a node and of what is made of its two bodies, and `put`
-- of a node, of what is made of it, and of what is made of the nodes behind it.
abbrev mutual
  pub fold_node {ℓ} : {A : Type ℓ} → (Node → A → A → A) → A → (Node → A → A → A) → Node → A
  fold_node own none put (If c body other) =
      own (If c body other) (fold own none put body) (fold own none put other)
  fold_node own none put (Capture n fs body is_global) =
      own (Capture n fs body is_global) (fold own none put body) none
  fold_node own none put (FilterSection fs body) =
      own (FilterSection fs body) (fold own none put body) none
  fold_node own none put (For key n e body other) =
      own (For key n e body other) (fold own none put body) (fold own none put other)
  fold_node own none put (Block n body span) =
      own (Block n body span) (fold own none put body) none
  fold_node own none put (ComponentCall n all body span) =
      own (ComponentCall n all body span) (fold own none put body) none
  fold_node own none put node = own node none none

  pub fold {ℓ} : {A : Type ℓ} → (Node → A → A → A) → A → (Node → A → A → A) → Nodes → A
  fold own none put NoNodes = none
  fold own none put (MoreNodes n rest) = put n (fold_node own none put n) (fold own none put rest)

-- components, each with its body
abbrev pub Definitions : Type 0
Definitions = List (Signature × Nodes)

-- the name of the template that the text extends, if it does, the nodes of the text, and the
-- components that it defines, which are none of the nodes; these and those in the order of the text
pub record Tree : Type 0 where
  pub parent : Option site.Name
  pub nodes : Nodes
  pub definitions : Definitions
