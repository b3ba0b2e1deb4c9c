-- What trees mean, where the meaning of bodies that stand elsewhere is given.
use Rattle.std.specs.Prelude.{Bool, true, false, List, [], ◌∷◌, ◌++◌, Option, Some, None, Result, Ok, codes, bytes_eq, if◌then◌else◌}
use Rattle.tera_errors.specs.Site as site
use Rattle.tera_errors.specs.Fault.{Fault}
use Rattle.tera_errors.specs.declared.span.Span.{Span}
use Rattle.tera_syntax_tree.specs.Tree.{Key, Expr, Nothing, Boolean, Integer, Text, Name, Attribute, Index, Slice, Not, Negate, Binary, And, Or, Ternary, Array, Map, Comprehension, Super, Filter, Test, Call, Component, Optional, Absent, Present, Items, NoItems, MoreItems, Entries, NoEntries, MoreEntries, Arguments, NoArguments, MoreArguments, Filters, NoFilters, MoreFilters, first_span, Node, Content, Print, If, Set, Capture, FilterSection, For, Block, Include, ComponentCall, Break, Continue, Nodes, NoNodes, MoreNodes}
use Rattle.tera_values.specs.Alphabet.{Alphabet, plain, template, made}
use Rattle.tera_values.specs.Val.{ValOf, none, bool, int, text, array, vals}
use Rattle.tera_values.specs.Access.{is_undefined, truthy}
use Rattle.tera_values.specs.Named.{Named}
use Rattle.tera_operators.specs.Operand.{Evaluated, EvaluatedOf, fault_at, placed}
use Rattle.tera_operators.specs.Accesses.{attribute_of, item_in, sliced_in}
use Rattle.tera_operators.specs.Operators.{not_of, negative_in, binary_in}
use Rattle.tera_operators.specs.Literals.{array_of, map_entries, map_of}
use Rattle.tera_operators.specs.Calls.{filter_applied_by, test_applied_by, function_called_by}
use Rattle.tera_state.specs.Rendered.{rendered_in}
use Rattle.tera_state.specs.Scope.{AroundOf, VariablesOf, TurnOf, Turn, Heading, look, dump, assign, open_turn, close_turn, loop_turns_in}
use Rattle.tera_components.specs.Definition.{named_arguments}
use Rattle.tera_meaning.specs.Here.{Here, HereOf, filtered_at, tested_at, called_at}
use Rattle.tera_meaning.specs.Run.{Signal, On, Broke, Continued, Meaning, MeaningOf, Oracle, OracleOf, ABlock, Above, AnInclude, AComponent, ◌▹◌, visit, gives, answered, answered_at, value_at, if_else, reads, changes, writes, go_on, captured, asks}

module _ {C : Type 0} (alphabet : Alphabet C) where
  -- the text that a value is put out as, at the operand's span; undefined has none
  abbrev pub output_in : HereOf C → EvaluatedOf C → Result (List C) Fault
  output_in here a =
      if is_undefined a.value then fault_at here.file a.span
      else Ok (rendered_in alphabet here.autoescape here.engine.escape a.value)

  abbrev pub written_in : HereOf C → EvaluatedOf C → MeaningOf C Signal
  written_in here a = answered (output_in here a) ▹ writes

  -- the turns of a loop over an operand, which is refused at its span
  abbrev pub turns_of_in : HereOf C → Heading → EvaluatedOf C → Result (List (TurnOf C)) Fault
  turns_of_in here heading a = placed here.file (loop_turns_in alphabet heading a.value) a.span

module _ {C : Type 0} where
  -- what a name stands for: `__tera_context` for all that is bound here
  abbrev pub named_value : site.Name → AroundOf C → VariablesOf C → ValOf C
  named_value name around v =
      if bytes_eq name (codes "__tera_context") then dump around v else look name around v

  -- the value of an item that is not passed over
  abbrev pub if_kept : Bool → MeaningOf C (EvaluatedOf C) → MeaningOf C (List (ValOf C))
  if_kept true value = value ▹ λ a. gives (a.value ∷ [])
  if_kept false value = gives []

  -- the values of a comprehension; each item is a visit, and has a turn of its own
  abbrev pub comprehension : MeaningOf C Bool → MeaningOf C (EvaluatedOf C) → List (TurnOf C)
      → MeaningOf C (List (ValOf C))
  comprehension test value [] = gives []
  comprehension test value (t ∷ ts) =
      visit (changes (open_turn t)
      ▹ λ _. test
      ▹ λ keep. if_kept keep value
      ▹ λ vs. changes close_turn
      ▹ λ _. comprehension test value ts
      ▹ λ rest. gives (vs ++ rest))

  -- after a turn the loop goes on, unless it broke
  abbrev pub after_turn : Signal → MeaningOf C Signal → MeaningOf C Signal
  after_turn On next = next
  after_turn Broke next = gives On
  after_turn Continued next = next

  -- the body in each turn, which is a visit
  abbrev pub loop : MeaningOf C Signal → List (TurnOf C) → MeaningOf C Signal
  loop body [] = gives On
  loop body (t ∷ ts) =
      visit (changes (open_turn t)
      ▹ λ _. body
      ▹ λ signal. changes close_turn
      ▹ λ _. after_turn signal (loop body ts))

  -- the loop, or the other body where there is no item
  abbrev pub loop_or_else : MeaningOf C Signal → MeaningOf C Signal → List (TurnOf C)
      → MeaningOf C Signal
  loop_or_else body other [] = other
  loop_or_else body other (t ∷ ts) = loop body (t ∷ ts)

-- a bound that isn't written is none
abbrev pub no_bound : {C : Type 0} → EvaluatedOf C
no_bound = record { value = none; span = record { start = 0; end = 0 } }

-- the text that a body put out: safe where autoescape is on
abbrev pub put_out : {C : Type 0} → HereOf C → Filters → List C → EvaluatedOf C
put_out here fs t = record { value = text t here.autoescape; span = first_span fs }

module _ {C : Type 0} (alphabet : Alphabet C) (here : HereOf C) (call : OracleOf C) where
  -- what a component puts out, where these are its attributes and the body that it is handed
  abbrev pub component_meaning_in : site.Name → List (Option Key × EvaluatedOf C)
      → Option (ValOf C) → Span → MeaningOf C (EvaluatedOf C)
  component_meaning_in name all body span =
      answered (map_entries here.file all)
      ▹ λ given. asks call (AComponent name (named_arguments given) body span)
      ▹ λ t. value_at (text t here.autoescape) span

  abbrev mutual
    pub expr_meaning_in : Expr → MeaningOf C (EvaluatedOf C)
    expr_meaning_in (Nothing span) = visit (value_at none span)
    expr_meaning_in (Boolean b span) = visit (value_at (bool b) span)
    expr_meaning_in (Integer z span) = visit (value_at (int z) span)
    expr_meaning_in (Text t span) = visit (value_at (text (alphabet.spelled made t) false) span)
    expr_meaning_in (Name name span) =
        visit (reads (named_value name here.around) ▹ λ v. value_at v span)
    expr_meaning_in (Attribute target name optional span) =
        visit (expr_meaning_in target ▹ λ a. answered (attribute_of here.file optional a name span))
    expr_meaning_in (Index target index optional span) =
        visit (expr_meaning_in target
        ▹ λ a. expr_meaning_in index
        ▹ λ i. answered (item_in alphabet here.file optional a i span))
    expr_meaning_in (Slice target start end step optional span) =
        visit (expr_meaning_in target
        ▹ λ a. bound_meaning_in start
        ▹ λ s. bound_meaning_in end
        ▹ λ e. bound_meaning_in step
        ▹ λ t. answered (sliced_in alphabet here.file optional a s e t span))
    expr_meaning_in (Not operand span) = visit (expr_meaning_in operand ▹ λ a. gives (not_of a))
    expr_meaning_in (Negate operand span) =
        visit (expr_meaning_in operand ▹ λ a. answered (negative_in alphabet here.file a))
    expr_meaning_in (Binary operator left right span) =
        visit (expr_meaning_in left
        ▹ λ a. expr_meaning_in right
        ▹ λ b. answered (binary_in alphabet here.file operator a b span))
    expr_meaning_in (And left right span) =
        visit (expr_meaning_in left
        ▹ λ a. if_else (truthy a.value) (expr_meaning_in right) (gives a))
    expr_meaning_in (Or left right span) =
        visit (expr_meaning_in left
        ▹ λ a. if_else (truthy a.value) (gives a) (expr_meaning_in right))
    expr_meaning_in (Ternary value condition other span) =
        visit (expr_meaning_in condition
        ▹ λ c. if_else (truthy c.value) (expr_meaning_in value) (expr_meaning_in other))
    expr_meaning_in (Array items span) =
        visit (items_meaning_in items ▹ λ all. answered (array_of here.file all span))
    expr_meaning_in (Map entries span) =
        visit (entries_meaning_in entries ▹ λ all. answered (map_of here.file all span))
    expr_meaning_in (Comprehension value key name target condition span) =
        visit (expr_meaning_in target
        ▹ λ a. answered
        (turns_of_in alphabet here (record { name = name; key = key; counts = false }) a)
        ▹ λ turns. comprehension (condition_meaning_in condition) (expr_meaning_in value) turns
        ▹ λ vs. value_at (array (vals vs)) span)
    -- its text is safe
    expr_meaning_in (Super arguments span) =
        visit (arguments_meaning_in arguments
        ▹ λ given. asks call (Above span)
        ▹ λ t. value_at (text t true) span)
    -- What an object sees is taken when the arguments are evaluated.
    expr_meaning_in (Filter value name arguments span) =
        visit (expr_meaning_in value
        ▹ λ a. arguments_meaning_in arguments
        ▹ λ given. answered_at
        (λ v. filter_applied_by here.file (filtered_at alphabet here v name) a given span))
    expr_meaning_in (Test value name arguments span) =
        visit (expr_meaning_in value
        ▹ λ a. arguments_meaning_in arguments
        ▹ λ given. answered_at
        (λ v. test_applied_by here.file (tested_at alphabet here v name) a given span))
    expr_meaning_in (Call name arguments span) =
        visit (arguments_meaning_in arguments
        ▹ λ given. answered_at
        (λ v. function_called_by here.file (called_at alphabet here v name) given span))
    -- Arguments go together as the entries of a map do.
    -- The text of a component is safe where autoescape is on.
    expr_meaning_in (Component name attributes span) =
        visit (entries_meaning_in attributes ▹ λ all. component_meaning_in name all None span)

    pub bound_meaning_in : Optional → MeaningOf C (EvaluatedOf C)
    bound_meaning_in Absent = gives no_bound
    bound_meaning_in (Present e) = expr_meaning_in e

    -- whether a condition holds, which does where none is written
    pub condition_meaning_in : Optional → MeaningOf C Bool
    condition_meaning_in Absent = gives true
    condition_meaning_in (Present e) = expr_meaning_in e ▹ λ a. gives (truthy a.value)

    pub items_meaning_in : Items → MeaningOf C (List (Bool × EvaluatedOf C))
    items_meaning_in NoItems = gives []
    items_meaning_in (MoreItems is_spread value rest) =
        expr_meaning_in value ▹ λ a. items_meaning_in rest ▹ λ all. gives ((is_spread, a) ∷ all)

    pub entries_meaning_in : Entries → MeaningOf C (List (Option Key × EvaluatedOf C))
    entries_meaning_in NoEntries = gives []
    entries_meaning_in (MoreEntries key value rest) =
        expr_meaning_in value ▹ λ a. entries_meaning_in rest ▹ λ all. gives ((key, a) ∷ all)

    pub arguments_meaning_in : Arguments → MeaningOf C (Named (EvaluatedOf C))
    arguments_meaning_in NoArguments = gives []
    arguments_meaning_in (MoreArguments name value rest) =
        expr_meaning_in value ▹ λ a. arguments_meaning_in rest ▹ λ all. gives ((name, a) ∷ all)

  -- filters of a text that a body put out, one after the other
  abbrev pub filters_meaning_in : Filters → EvaluatedOf C → MeaningOf C (EvaluatedOf C)
  filters_meaning_in NoFilters a = gives a
  filters_meaning_in (MoreFilters name arguments span rest) a =
      visit (arguments_meaning_in arguments
      ▹ λ given. answered_at
      (λ v. filter_applied_by here.file (filtered_at alphabet here v name) a given span))
      ▹ filters_meaning_in rest

  abbrev mutual
    pub node_meaning_in : Node → MeaningOf C Signal
    node_meaning_in (Content t span) = visit (writes (alphabet.spelled template t))
    node_meaning_in (Print value) = visit (expr_meaning_in value ▹ written_in alphabet here)
    node_meaning_in (If condition body other) =
        visit (expr_meaning_in condition
        ▹ λ c. if_else (truthy c.value) (nodes_meaning_in body) (nodes_meaning_in other))
    node_meaning_in (Set name value is_global) =
        visit (expr_meaning_in value ▹ λ a. changes (assign is_global name a.value))
    node_meaning_in (Capture name fs body is_global) =
        visit (captured (nodes_meaning_in body)
        ▹ λ c. go_on c.0 (filters_meaning_in fs (put_out here fs c.1)
        ▹ λ a. changes (assign is_global name a.value)))
    node_meaning_in (FilterSection fs body) =
        visit (captured (nodes_meaning_in body)
        ▹ λ c. go_on c.0 (filters_meaning_in fs (put_out here fs c.1) ▹ written_in alphabet here))
    node_meaning_in (For key name target body other) =
        visit (expr_meaning_in target
        ▹ λ a. answered
        (turns_of_in alphabet here (record { name = name; key = key; counts = true }) a)
        ▹ λ turns. loop_or_else (nodes_meaning_in body) (nodes_meaning_in other) turns)
    node_meaning_in (Block name body span) = visit (asks call (ABlock name span) ▹ writes)
    node_meaning_in (Include name span) = visit (asks call (AnInclude name span) ▹ writes)
    node_meaning_in (ComponentCall name attributes body span) =
        visit (captured (nodes_meaning_in body)
        ▹ λ c. go_on c.0 (entries_meaning_in attributes
        ▹ λ all. component_meaning_in name all (Some (text c.1 here.autoescape)) span
        ▹ written_in alphabet here))
    node_meaning_in Break = visit (gives Broke)
    node_meaning_in Continue = visit (gives Continued)

    pub nodes_meaning_in : Nodes → MeaningOf C Signal
    nodes_meaning_in NoNodes = gives On
    nodes_meaning_in (MoreNodes node rest) =
        node_meaning_in node ▹ λ signal. go_on signal (nodes_meaning_in rest)

-- of texts of bytes: this is what runs
abbrev pub output : Here → Evaluated → Result site.Text Fault
output = output_in plain

abbrev pub written : Here → Evaluated → Meaning Signal
written = written_in plain

abbrev pub turns_of : Here → Heading → Evaluated → Result (List Turn) Fault
turns_of = turns_of_in plain

abbrev pub expr_meaning : Here → Oracle → Expr → Meaning Evaluated
expr_meaning = expr_meaning_in plain

abbrev pub bound_meaning : Here → Oracle → Optional → Meaning Evaluated
bound_meaning = bound_meaning_in plain

abbrev pub condition_meaning : Here → Oracle → Optional → Meaning Bool
condition_meaning = condition_meaning_in plain

abbrev pub items_meaning : Here → Oracle → Items → Meaning (List (Bool × Evaluated))
items_meaning = items_meaning_in plain

abbrev pub entries_meaning : Here → Oracle → Entries → Meaning (List (Option Key × Evaluated))
entries_meaning = entries_meaning_in plain

abbrev pub arguments_meaning : Here → Oracle → Arguments → Meaning (Named Evaluated)
arguments_meaning = arguments_meaning_in plain

abbrev pub filters_meaning : Here → Oracle → Filters → Evaluated → Meaning Evaluated
filters_meaning = filters_meaning_in plain

abbrev pub node_meaning : Here → Oracle → Node → Meaning Signal
node_meaning = node_meaning_in plain

abbrev pub nodes_meaning : Here → Oracle → Nodes → Meaning Signal
nodes_meaning = nodes_meaning_in plain
