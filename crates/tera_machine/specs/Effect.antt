-- What one instruction does.
use Rattle.std.specs.Prelude.{◌≡◌, ◌≢◌, ℕ, ◌+◌, ◌<◌, ◌^◌, Bool, true, false, not, nat_le, cond, List, [], ◌∷◌, length, reverse, take, drop, Option, Some, None, Result, Ok, Err, OnOk}
use Rattle.std.specs.List.{zip}
use Rattle.tera_errors.specs.declared.span.Span.{Span}
use Rattle.tera_errors.specs.Site as site
use Rattle.tera_errors.specs.Site.{Site, Text}
use Rattle.tera_errors.specs.Fault.{Fault, rendering_error}
use Rattle.tera_errors.specs.Answer.{SeenError}
use Rattle.tera_syntax_tree.specs.Tree.{Key}
use Rattle.tera_syntax_tree.specs.declared.expression.BinaryOperator.{BinaryOperator}
use Rattle.tera_values.specs.Alphabet.{plain}
use Rattle.tera_values.specs.Access.{truthy}
use Rattle.tera_values.specs.Val.{Val, KeyVal}
use Rattle.tera_operators.specs.Operand.{Evaluated, Outcome}
use Rattle.tera_operators.specs.Accesses.{attribute_of, item_of, slice_of}
use Rattle.tera_operators.specs.Operators.{not_of, negative_of, binary_of}
use Rattle.tera_operators.specs.Literals.{array_of, map_entries, map_of}
use Rattle.tera_operators.specs.Calls.{filter_applied_by, test_applied_by, function_called_by}
use Rattle.tera_state.specs.Scope.{Around, Turn, look, dump, assign}
use Rattle.tera_state.specs.Scopes.{around_of, coming_of, coming_around}
use Rattle.tera_components.specs.Definition.{named_arguments}
use Rattle.tera_meaning.specs.Here.{Here, filtered_at, tested_at, called_at}
use Rattle.tera_meaning.specs.Run.{ABlock, Above, AnInclude, AComponent}
use Rattle.tera_meaning.specs.Meaning.{output}
use Rattle.tera_code.specs.declared.instruction.Instruction.{Instruction}
use Rattle.tera_code.specs.declared.instruction.Instruction.TheVariants.{WriteText, WriteTop, WriteName, LoadConst, LoadName, LoadAttribute, LoadItem, Slice, Not, Negate, Binary, MakeArray, MakeMap, Jump, PopJumpIfFalse, JumpIfFalseOrPop, JumpIfTrueOrPop, Store, LoadContext, StartLoop, NextTurn, EndLoop, Keep, EndComprehension, StartCapture, EndCapture, LeaveLoop, LeaveTurn, TakeBlock, TakeSuper, TakeInclude, TakeComponent, ApplyFilter, ApplyTest, CallFunction}
use Rattle.tera_code.specs.declared.call_kind.CallKind.{CallKind}
use Rattle.tera_code.specs.declared.call_kind.CallKind.TheVariants as kind
use Rattle.tera_machine.specs.declared.configuration.Configuration.{Configuration}
use Rattle.tera_machine.specs.declared.machine.Flow as declared
use Rattle.tera_machine.specs.declared.machine.Flow.TheVariants as declared_flow
use Rattle.tera_machine.specs.Config.{Config, config_of}
use Rattle.tera_machine.specs.Flow.{Written, Pushed, On, Skip, To, Out, Ask, flow_of}
use Rattle.tera_machine.specs.Did.{Did, Goes, Faults, Sticks, holding, pushed, with_text, with_vars, outcome}
use Rattle.tera_machine.specs.Loops.{loop_started, turned, loop_ended, kept, comprehension_ended}
use Rattle.tera_machine.specs.Captures.{capture_started, capture_ended, loop_left, turn_left}

abbrev pub put_out : Result Text Fault → Config → Did
put_out (Ok text) c = Goes (with_text text c) On
put_out (Err fault) c = Faults fault

abbrev pub stored_in : Bool → site.Name → List Evaluated → Config → Did
stored_in is_global name [] c = Sticks
stored_in is_global name (a ∷ rest) c =
    Goes (with_vars (assign is_global name a.value) (holding rest c)) On

abbrev pub top_written_in : Here → List Evaluated → Config → Did
top_written_in here [] c = Sticks
top_written_in here (a ∷ rest) c = put_out (output here a) (holding rest c)

abbrev pub name_written : Here → site.Name → Span → Config → Did
name_written here name span c =
    put_out (output here (record { value = look name here.around c.run.vars; span = span })) c

abbrev pub on_one : (Evaluated → Outcome) → List Evaluated → Config → Did
on_one f [] c = Sticks
on_one f (a ∷ rest) c = outcome (f a) rest c

abbrev pub on_two : (Evaluated → Evaluated → Outcome) → List Evaluated → Config → Did
on_two f [] c = Sticks
on_two f (b ∷ []) c = Sticks
on_two f (b ∷ a ∷ rest) c = outcome (f a b) rest c

abbrev pub on_four : (Evaluated → Evaluated → Evaluated → Evaluated → Outcome) → List Evaluated
    → Config → Did
on_four f [] c = Sticks
on_four f (w ∷ []) c = Sticks
on_four f (w ∷ z ∷ []) c = Sticks
on_four f (w ∷ z ∷ y ∷ []) c = Sticks
on_four f (w ∷ z ∷ y ∷ x ∷ rest) c = outcome (f x y z w) rest c

-- the n topmost operands, the last one first, and those below
abbrev pub topmost : ℕ → List Evaluated → Option (List Evaluated × List Evaluated)
topmost n operands =
    cond (nat_le n (length operands)) (Some (reverse (take n operands), drop n operands)) None

abbrev pub made_of : (List Evaluated → Outcome) → Option (List Evaluated × List Evaluated) → Config
    → Did
made_of f None c = Sticks
made_of f (Some (all, rest)) c = outcome (f all) rest c

abbrev pub on_many : (List Evaluated → Outcome) → ℕ → List Evaluated → Config → Did
on_many f n operands c = made_of f (topmost n operands) c

-- without the topmost operand where the test goes on, and else with it or without it
abbrev pub branched : Bool → Config → ℕ → Config → Did
branched true go skip stay = Goes go On
branched false go skip stay = Goes stay (Skip skip)

abbrev pub popped_branch_in : ℕ → List Evaluated → Config → Did
popped_branch_in skip [] c = Sticks
popped_branch_in skip (a ∷ rest) c =
    branched (truthy a.value) (holding rest c) skip (holding rest c)

-- whether a truth is not this one
abbrev pub differs : Bool → Bool → Bool
differs false b = b
differs true b = not b

abbrev pub kept_if_in : Bool → ℕ → List Evaluated → Config → Did
kept_if_in truth skip [] c = Sticks
kept_if_in truth skip (a ∷ rest) c =
    branched (differs truth (truthy a.value)) (holding rest c) skip c

abbrev pub stored : Bool → site.Name → Config → Did
stored is_global name c = stored_in is_global name c.operands c

abbrev pub top_written : Here → Config → Did
top_written here c = top_written_in here c.operands c

abbrev pub text_written : Text → Config → Did
text_written text c = Goes (with_text text c) On

abbrev pub outcome_put : Outcome → Config → Did
outcome_put o c = outcome o c.operands c

abbrev pub name_loaded : Around → site.Name → Span → Config → Did
name_loaded around name span c = pushed (look name around c.run.vars) span c

abbrev pub context_loaded : Around → Span → Config → Did
context_loaded around span c = pushed (dump around c.run.vars) span c

abbrev pub attribute_loaded : site.Name → site.Name → Bool → Span → Config → Did
attribute_loaded file name optional span c =
    on_one (λ a. attribute_of file optional a name span) c.operands c

abbrev pub item_loaded : site.Name → Bool → Span → Config → Did
item_loaded file optional span c = on_two (λ a i. item_of file optional a i span) c.operands c

abbrev pub sliced : site.Name → Bool → Span → Config → Did
sliced file optional span c = on_four (λ a s e t. slice_of file optional a s e t span) c.operands c

abbrev pub denied : Config → Did
denied c = on_one (λ a. Ok (not_of a)) c.operands c

abbrev pub negated : site.Name → Config → Did
negated file c = on_one (negative_of file) c.operands c

abbrev pub operated : site.Name → BinaryOperator → Span → Config → Did
operated file operator span c = on_two (λ a b. binary_of file operator a b span) c.operands c

abbrev pub array_made : site.Name → List Bool → Span → Config → Did
array_made file spreads span c =
    on_many (λ all. array_of file (zip spreads all) span) (length spreads) c.operands c

abbrev pub map_made : site.Name → List (Option Key) → Span → Config → Did
map_made file keys span c =
    on_many (λ all. map_of file (zip keys all) span) (length keys) c.operands c

-- a call on the operand below its arguments
abbrev pub called_on : (Evaluated → List (site.Name × Evaluated) → Outcome) → List site.Name
    → Option (List Evaluated × List Evaluated) → Config → Did
called_on f names None c = Sticks
called_on f names (Some (all, [])) c = Sticks
called_on f names (Some (all, a ∷ rest)) c = outcome (f a (zip names all)) rest c

abbrev pub on_target : (Evaluated → List (site.Name × Evaluated) → Outcome) → List site.Name
    → Config → Did
on_target f names c = called_on f names (topmost (length names) c.operands) c

-- what an object sees is the variables where the instruction stands
abbrev pub filter_called : Here → site.Name → List site.Name → Span → Config → Did
filter_called here name names span c =
    on_target
    (λ a given. filter_applied_by here.file (filtered_at plain here c.run.vars name) a given span)
    names c

abbrev pub test_called : Here → site.Name → List site.Name → Span → Config → Did
test_called here name names span c =
    on_target
    (λ a given. test_applied_by here.file (tested_at plain here c.run.vars name) a given span)
    names c

abbrev pub function_answered : Here → site.Name → List site.Name → Span → Config → Did
function_answered here name names span c =
    on_many (λ all.
    function_called_by here.file (called_at plain here c.run.vars name) (zip names all) span)
    (length names) c.operands c

abbrev pub called : CallKind → Here → site.Name → List site.Name → Span → Config → Did
called kind.Function = function_answered
called kind.Filter = filter_called
called kind.Test = test_called

abbrev pub popped_branch : ℕ → Config → Did
popped_branch skip c = popped_branch_in skip c.operands c

-- an operand of this truth stays where it jumps
abbrev pub kept_if : Bool → ℕ → Config → Did
kept_if truth skip c = kept_if_in truth skip c.operands c

-- the body of a block, whose text is written
abbrev pub block_taken : site.Name → Span → Config → Did
block_taken name span c = Goes c (Ask (ABlock name span) Written)

-- the body of a template, whose text is written
abbrev pub include_taken : site.Name → Span → Config → Did
include_taken name span c = Goes c (Ask (AnInclude name span) Written)

abbrev pub above_in : Span → Option (List Evaluated × List Evaluated) → Config → Did
above_in span None c = Sticks
above_in span (Some (all, rest)) c = Goes (holding rest c) (Ask (Above span) (Pushed true span))

-- the body above the block that runs, without so many operands; its text becomes a safe operand
abbrev pub above_taken : ℕ → Span → Config → Did
above_taken arguments span c = above_in span (topmost arguments c.operands) c

-- the text that a component is handed, if it has a body, and the operands below that
abbrev pub handed : Bool → List Evaluated → Option (Option Val × List Evaluated)
handed false operands = Some (None, operands)
handed true [] = None
handed true (a ∷ rest) = Some (Some a.value, rest)

-- a component is given these entries; its text becomes an operand, safe where texts are escaped
abbrev pub component_asked : Bool → site.Name → Span → Result (List (KeyVal × Val)) Fault
    → Option (Option Val × List Evaluated) → Config → Did
component_asked safe name span given None c = Sticks
component_asked safe name span (Err fault) (Some (body, rest)) c = Faults fault
component_asked safe name span (Ok given) (Some (body, rest)) c =
    Goes (holding rest c)
    (Ask (AComponent name (named_arguments given) body span) (Pushed safe span))

abbrev pub component_given : Here → site.Name → List (Option Key) → Bool → Span
    → Option (List Evaluated × List Evaluated) → Config → Did
component_given here name keys has_body span None c = Sticks
component_given here name keys has_body span (Some (all, rest)) c =
    component_asked here.autoescape name span (map_entries here.file (zip keys all))
    (handed has_body rest) c

abbrev pub component_taken : Here → site.Name → List (Option Key) → Bool → Span → Config → Did
component_taken here name keys has_body span c =
    component_given here name keys has_body span (topmost (length keys) c.operands) c

-- next is the position behind the instruction
abbrev pub effect : Here → ℕ → Instruction → Config → Did
effect here next (WriteText text) = text_written text
effect here next WriteTop = top_written here
effect here next (WriteName name span) = name_written here name span
effect here next (LoadConst v span) = pushed v span
effect here next (LoadName name span) = name_loaded here.around name span
effect here next (LoadContext span) = context_loaded here.around span
effect here next (LoadAttribute name optional span) = attribute_loaded here.file name optional span
effect here next (LoadItem optional span) = item_loaded here.file optional span
effect here next (Slice optional span) = sliced here.file optional span
effect here next Not = denied
effect here next Negate = negated here.file
effect here next (Binary operator span) = operated here.file operator span
effect here next (MakeArray spreads span) = array_made here.file spreads span
effect here next (MakeMap keys span) = map_made here.file keys span
effect here next (Jump skip) = λ c. Goes c (Skip skip)
effect here next (PopJumpIfFalse skip) = popped_branch skip
effect here next (JumpIfFalseOrPop skip) = kept_if false skip
effect here next (JumpIfTrueOrPop skip) = kept_if true skip
effect here next (Store name is_global) = stored is_global name
effect here next (StartLoop key name counts size) = loop_started here next key name counts size
effect here next NextTurn = turned
effect here next (EndLoop skip) = loop_ended skip
effect here next Keep = kept
effect here next (EndComprehension span) = comprehension_ended span
effect here next StartCapture = capture_started
effect here next (EndCapture span) = capture_ended here.autoescape span
effect here next (LeaveLoop drops) = loop_left drops
effect here next (LeaveTurn drops) = turn_left drops
effect here next (TakeBlock name span) = block_taken name span
effect here next (TakeSuper arguments span) = above_taken arguments span
effect here next (TakeInclude name span) = include_taken name span
effect here next (TakeComponent name keys has_body span) =
    component_taken here name keys has_body span
effect here next (ApplyFilter name names span) = filter_called here name names span
effect here next (ApplyTest name names span) = test_called here name names span
effect here next (CallFunction name names span) = function_answered here name names span

-- the code did so, unless memory was refused
abbrev pub Effected : Did → Result declared.Flow SeenError → Config → Type 0
Effected d (Ok flow) c = d ≡ Goes c (flow_of flow)
Effected d (Err None) c = Unit {0}
Effected d (Err (Some fault)) c = d ≡ Faults fault

-- the operands that are needed are there
abbrev pub IsReady : (Config → Did) → Configuration → Type 0
IsReady does before = does (config_of before) ≢ Sticks

-- so far it jumps that the code can count it
abbrev pub IsSmall : Did → Type 0
IsSmall (Goes c On) = Unit {0}
IsSmall (Goes c (Skip n)) = n < 2 ^ 64
IsSmall (Goes c (To p n)) = p + n < 2 ^ 64
IsSmall (Goes c Out) = Unit {0}
IsSmall (Goes c (Ask q u)) = Unit {0}
IsSmall (Faults fault) = Unit {0}
IsSmall Sticks = Unit {0}

-- it can be done there: the operands are there, and the code can count the jump
pub record CanDo (does : Config → Did) (before : Configuration) : Type 0 where
  pub ready : IsReady does before
  pub small : IsSmall (does (config_of before))

-- the turns to come of the loops that are open around the body that runs, in its state
abbrev pub beneath_in : {A : Type 0} → List A → List (List Turn) → List (List Turn)
beneath_in places coming = drop (length places) coming

-- and in each state around that
abbrev pub beneath : Configuration → List (List (List Turn))
beneath c = beneath_in c.places (coming_of c.scopes) ∷ coming_around c.scopes

-- the code does this to a configuration; what is around its variables stays, and so do the loops
-- around the body
abbrev pub Does : (Config → Did) → Configuration → Result declared.Flow SeenError → Configuration
    → Type 0
Does does before result after =
    Effected (does (config_of before)) result (config_of after)
    × ((around_of after.scopes ≡ around_of before.scopes)
    × OnOk result (beneath after ≡ beneath before))

-- what goes on at the next instruction, unless memory was refused
abbrev pub continue_after : {E : Type 0} → Result (Unit {0}) E → Result declared.Flow SeenError
continue_after (Ok u) = Ok declared_flow.On
continue_after (Err e) = Err None

-- the same of a value, which may be undefined: that is a fault there
abbrev pub continue_if_written : {E : Type 0} → Site → Result Bool E → Result declared.Flow SeenError
continue_if_written site (Ok true) = Ok declared_flow.On
continue_if_written site (Ok false) = Err (Some (rendering_error site))
continue_if_written site (Err e) = Err None
