-- The instructions of a tree.
use Rattle.std.specs.Prelude.{ℕ, suc, Bool, true, false, ◌+◌, cond, List, [], ◌∷◌, ◌++◌, length, Option, Some, None, codes, bytes_eq}
use Rattle.tera_errors.specs.Site as site
use Rattle.tera_errors.specs.declared.span.Span.{Span}
use Rattle.tera_values.specs.Val as val
use Rattle.tera_syntax_tree.specs.Tree.{Key, Expr, Nothing, Boolean, Integer, Text, Name, Attribute, Index, Slice, Not, Negate, Binary, And, Or, Ternary, Array, Map, Comprehension, Super, Filter, Test, Call, Component, Optional, Absent, Present, Items, NoItems, MoreItems, Entries, NoEntries, MoreEntries, Arguments, NoArguments, MoreArguments, Filters, NoFilters, MoreFilters, first_span, Node, Content, Print, If, Set, Capture, FilterSection, For, Block, Include, ComponentCall, Break, Continue, Nodes, NoNodes, MoreNodes}
use Rattle.tera_code.specs.declared.instruction.Instruction.{Instruction}
use Rattle.tera_code.specs.declared.instruction.Instruction.TheVariants as instruction
use Rattle.tera_code.specs.Listing.{Listing}

abbrev pub Code : Type 0
Code = List Instruction

-- one of two, by the operand that stands on top
abbrev pub choice_tail : Code → Code → Code
choice_tail body other =
    instruction.PopJumpIfFalse (length body + 1)
    ∷ (body ++ (instruction.Jump (length other) ∷ other))

-- first this, then one of two
abbrev pub choice_code : Code → Code → Code → Code
choice_code condition body other = condition ++ choice_tail body other

-- the name of the map of all that is bound
abbrev pub is_context : site.Name → Bool
is_context name = bytes_eq name (codes "__tera_context")

abbrev pub name_code : site.Name → Span → Code
name_code name span =
    cond (is_context name) (instruction.LoadContext span ∷ []) (instruction.LoadName name span ∷ [])

-- a loop over the operand that stands on top
abbrev pub loop_tail : Option site.Name → site.Name → Code → Code → Code
loop_tail key name body other =
    instruction.StartLoop key name true (length body)
    ∷ (body ++ (instruction.NextTurn ∷ instruction.EndLoop (length other) ∷ other))

-- an array of what is kept in the turns over the operand that stands on top, and an empty one where
-- there is none
abbrev pub comprehension_tail : Option site.Name → site.Name → Code → Span → Code
comprehension_tail key name turn span =
    instruction.StartLoop key name false (length turn)
    ∷ (turn ++
    (instruction.NextTurn ∷ instruction.EndComprehension span ∷ instruction.MakeArray [] span
    ∷ []))

abbrev pub keep_code : Code → Code
keep_code value = value ++ instruction.Keep ∷ []

-- keeps a value where the operand that stands on top is truthy
abbrev pub keep_tail : Code → Code
keep_tail value = instruction.PopJumpIfFalse (length value + 1) ∷ keep_code value

abbrev pub spreads_of : Items → List Bool
spreads_of NoItems = []
spreads_of (MoreItems is_spread value rest) = is_spread ∷ spreads_of rest

abbrev pub keys_in : Entries → List (Option Key)
keys_in NoEntries = []
keys_in (MoreEntries key value rest) = key ∷ keys_in rest

abbrev pub arguments_length : Arguments → ℕ
arguments_length NoArguments = 0
arguments_length (MoreArguments name value rest) = suc (arguments_length rest)

abbrev pub argument_names : Arguments → List site.Name
argument_names NoArguments = []
argument_names (MoreArguments name value rest) = name ∷ argument_names rest

abbrev mutual
  pub expr_code : Expr → Code
  expr_code (Nothing span) = instruction.LoadConst val.none span ∷ []
  expr_code (Boolean b span) = instruction.LoadConst (val.bool b) span ∷ []
  expr_code (Integer z span) = instruction.LoadConst (val.int z) span ∷ []
  expr_code (Text t span) = instruction.LoadConst (val.text t false) span ∷ []
  expr_code (Name name span) = name_code name span
  expr_code (Attribute target name optional span) =
      expr_code target ++ instruction.LoadAttribute name optional span ∷ []
  expr_code (Index target index optional span) =
      expr_code target ++ (expr_code index ++ instruction.LoadItem optional span ∷ [])
  expr_code (Slice target start end step optional span) =
      expr_code target
      ++ (bound_code start
      ++ (bound_code end ++ (bound_code step ++ instruction.Slice optional span ∷ [])))
  expr_code (Not operand span) = expr_code operand ++ instruction.Not ∷ []
  expr_code (Negate operand span) = expr_code operand ++ instruction.Negate ∷ []
  expr_code (Binary operator left right span) =
      expr_code left ++ (expr_code right ++ instruction.Binary operator span ∷ [])
  expr_code (And left right span) =
      expr_code left ++ (instruction.JumpIfFalseOrPop (length (expr_code right)) ∷ expr_code right)
  expr_code (Or left right span) =
      expr_code left ++ (instruction.JumpIfTrueOrPop (length (expr_code right)) ∷ expr_code right)
  expr_code (Ternary value condition other span) =
      choice_code (expr_code condition) (expr_code value) (expr_code other)
  expr_code (Array items span) =
      items_code items ++ instruction.MakeArray (spreads_of items) span ∷ []
  expr_code (Map entries span) =
      entries_code entries ++ instruction.MakeMap (keys_in entries) span ∷ []
  expr_code (Comprehension value key name target condition span) =
      expr_code target ++ comprehension_tail key name (turn_code condition (expr_code value)) span
  expr_code (Super arguments span) =
      arguments_code arguments ++ instruction.TakeSuper (arguments_length arguments) span ∷ []
  expr_code (Filter value name arguments span) =
      expr_code value
      ++ (arguments_code arguments
      ++ instruction.ApplyFilter name (argument_names arguments) span ∷ [])
  expr_code (Test value name arguments span) =
      expr_code value
      ++ (arguments_code arguments ++ instruction.ApplyTest name (argument_names arguments) span
      ∷ [])
  expr_code (Call name arguments span) =
      arguments_code arguments ++ instruction.CallFunction name (argument_names arguments) span ∷ []
  expr_code (Component name attributes span) =
      entries_code attributes ++ instruction.TakeComponent name (keys_in attributes) false span ∷ []

  -- a bound that isn't written is none
  pub bound_code : Optional → Code
  bound_code Absent = instruction.LoadConst val.none (record { start = 0; end = 0 }) ∷ []
  bound_code (Present e) = expr_code e

  -- a turn of a comprehension, the condition first
  pub turn_code : Optional → Code → Code
  turn_code Absent value = keep_code value
  turn_code (Present condition) value = expr_code condition ++ keep_tail value

  pub items_code : Items → Code
  items_code NoItems = []
  items_code (MoreItems is_spread value rest) = expr_code value ++ items_code rest

  pub entries_code : Entries → Code
  entries_code NoEntries = []
  entries_code (MoreEntries key value rest) = expr_code value ++ entries_code rest

  pub arguments_code : Arguments → Code
  arguments_code NoArguments = []
  arguments_code (MoreArguments name value rest) = expr_code value ++ arguments_code rest

-- an expression that is a name, other than that of the map of all that is bound
abbrev pub named : Expr → Option (site.Name × Span)
named (Name name span) = cond (is_context name) None (Some (name, span))
named other = None

-- what a name stands for is put out where it lies, and any other value from the top of the operands
abbrev pub print_code : Option (site.Name × Span) → Code → Code
print_code (Some (name, span)) value = instruction.WriteName name span ∷ []
print_code None value = value ++ instruction.WriteTop ∷ []

-- each takes what is on top of the operands, and puts its answer there
abbrev pub filters_code : Filters → Code
filters_code NoFilters = []
filters_code (MoreFilters name arguments span rest) =
    arguments_code arguments
    ++ (instruction.ApplyFilter name (argument_names arguments) span ∷ filters_code rest)

-- the text that a body puts out, through the filters, on top of the operands
abbrev pub section_code : Filters → Code → Code
section_code fs body =
    instruction.StartCapture ∷ (body ++ (instruction.EndCapture (first_span fs) ∷ filters_code fs))

-- the text that a body puts out, on top of the operands
abbrev pub captured_code : Code → Span → Code
captured_code body span = instruction.StartCapture ∷ (body ++ instruction.EndCapture span ∷ [])

-- a component is handed the text that is on top of the operands, and what it makes of that and of
-- its attributes is put out
abbrev pub handed_code : site.Name → Entries → Span → Code
handed_code name attributes span =
    entries_code attributes
    ++ (instruction.TakeComponent name (keys_in attributes) true span ∷ instruction.WriteTop
    ∷ [])

-- the number is that of the captures that were begun in the innermost loop: a jump to its end drops
-- them
abbrev mutual
  pub node_code : Node → ℕ → Code
  node_code (Content t span) drops = instruction.WriteText t ∷ []
  node_code (Print value) drops = print_code (named value) (expr_code value)
  node_code (If condition body other) drops =
      choice_code (expr_code condition) (nodes_code body drops) (nodes_code other drops)
  node_code (Set name value is_global) drops =
      expr_code value ++ instruction.Store name is_global ∷ []
  node_code (Capture name fs body is_global) drops =
      section_code fs (nodes_code body (suc drops)) ++ instruction.Store name is_global ∷ []
  node_code (FilterSection fs body) drops =
      section_code fs (nodes_code body (suc drops)) ++ instruction.WriteTop ∷ []
  node_code (For key name target body other) drops =
      expr_code target ++ loop_tail key name (nodes_code body 0) (nodes_code other drops)
  node_code (Block name body span) drops = instruction.TakeBlock name span ∷ []
  node_code (Include name span) drops = instruction.TakeInclude name span ∷ []
  node_code (ComponentCall name attributes body span) drops =
      captured_code (nodes_code body (suc drops)) span ++ handed_code name attributes span
  node_code Break drops = instruction.LeaveLoop drops ∷ []
  node_code Continue drops = instruction.LeaveTurn drops ∷ []

  pub nodes_code : Nodes → ℕ → Code
  nodes_code NoNodes drops = []
  nodes_code (MoreNodes node rest) drops = node_code node drops ++ nodes_code rest drops

-- the chunk of a body in this template's text
abbrev pub listing_of : site.Name → Nodes → Listing
listing_of file nodes = record { file = file; code = nodes_code nodes 0 }

-- with further instructions behind
abbrev pub lengthened : Listing → Code → Listing
lengthened l code = record l { code = l.code ++ code }
