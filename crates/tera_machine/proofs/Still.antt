-- What an instruction does ends no block, and asks for what it takes.
use Rattle.std.proofs.Common.{◌≡◌, ℕ, Bool, true, false, List, [], ◌∷◌, Option, None, Some, Result, Ok, Err, refl, subst}
use Rattle.std.specs.Prelude.{length}
use Rattle.std.specs.List.{zip}
use Rattle.tera_errors.specs.declared.span.Span.{Span}
use Rattle.tera_errors.specs.Fault.{Fault}
use Rattle.tera_errors.specs.Site.{Name, Text}
use Rattle.tera_values.specs.Alphabet.{plain}
use Rattle.tera_state.specs.Scope.{Turn}
use Rattle.tera_meaning.specs.Here.{Here, filtered_at, tested_at, called_at}
use Rattle.tera_meaning.specs.Run.{Request, ABlock, Above, AnInclude, AComponent}
use Rattle.tera_operators.specs.Operand.{Evaluated, Outcome}
use Rattle.tera_operators.specs.Operators.{not_of}
use Rattle.tera_values.specs.Val.{Val, KeyVal}
use Rattle.tera_syntax_tree.specs.Tree.{Key}
use Rattle.tera_operators.specs.Literals.{array_of, map_entries, map_of}
use Rattle.tera_operators.specs.Calls.{filter_applied_by, test_applied_by, function_called_by}
use Rattle.tera_code.specs.Targets.{Target, TemplateNamed, ComponentNamed, target_in}
use Rattle.tera_code.specs.declared.instruction.Instruction.{Instruction}
use Rattle.tera_code.specs.declared.instruction.Instruction.TheVariants.{WriteText, WriteTop, WriteName, LoadConst, LoadName, LoadAttribute, LoadItem, Slice, Not, Negate, Binary, MakeArray, MakeMap, Jump, PopJumpIfFalse, JumpIfFalseOrPop, JumpIfTrueOrPop, Store, LoadContext, StartLoop, NextTurn, EndLoop, Keep, EndComprehension, StartCapture, EndCapture, LeaveLoop, LeaveTurn, TakeBlock, TakeSuper, TakeInclude, TakeComponent, ApplyFilter, ApplyTest, CallFunction}
use Rattle.tera_machine.specs.Config.{Config, Loop}
use Rattle.tera_machine.specs.Flow.{Flow, Use, On, Skip, To, Out, Ask}
use Rattle.tera_machine.specs.Did.{Did, Goes, Faults, Sticks, holding, outcome}
use Rattle.tera_machine.specs.Effect.{effect, put_out, stored_in, top_written_in, on_one, on_two, on_four, topmost, made_of, called_on, branched, popped_branch_in, kept_if_in, above_in, handed, component_asked, component_given}
use Rattle.tera_machine.specs.Loops.{innermost, begun_over, begun_with, started_on, went_round, round_in, ended_in, kept_in, collected_in}
use Rattle.tera_machine.specs.Captures.{captured_in, past}

-- a request is for this target, if it is for one
abbrev pub Seeks : Option Target → Request → Type 0
Seeks target (ABlock name span) = Unit {0}
Seeks target (Above span) = Unit {0}
Seeks target (AnInclude name span) = target ≡ Some (TemplateNamed name)
Seeks target (AComponent name given body span) = target ≡ Some (ComponentNamed name)

abbrev Asks : Option Target → Flow → Type 0
Asks target On = Unit {0}
Asks target (Skip count) = Unit {0}
Asks target (To place count) = Unit {0}
Asks target Out = Unit {0}
Asks target (Ask q u) = Seeks target q

-- no block more ended, and what is asked for is this target
abbrev IsStill : Option Target → Config → Did → Type 0
IsStill target c (Goes c2 flow) = (c2.run.blocks ≡ c.run.blocks) × Asks target flow
IsStill target c (Faults fault) = Unit {0}
IsStill target c Sticks = Unit {0}

outcome_still : (o : Outcome) (rest : List Evaluated) (c : Config) → IsStill None c (outcome o rest c)
outcome_still (Ok a) rest c = (refl, tt)
outcome_still (Err fault) rest c = tt

put_still : (r : Result Text Fault) (os : List Evaluated) (c : Config) → IsStill None c (put_out r (holding os c))
put_still (Ok text) os c = (refl, tt)
put_still (Err fault) os c = tt

top_still : (here : Here) (os : List Evaluated) (c : Config) → IsStill None c (top_written_in here os c)
top_still here [] c = tt
top_still here (a ∷ rest) c = put_still _ rest c

one_still : (f : Evaluated → Outcome) (os : List Evaluated) (c : Config) → IsStill None c (on_one f os c)
one_still f [] c = tt
one_still f (a ∷ rest) c = outcome_still (f a) rest c

two_still : (f : Evaluated → Evaluated → Outcome) (os : List Evaluated) (c : Config) → IsStill None c (on_two f os c)
two_still f [] c = tt
two_still f (b ∷ []) c = tt
two_still f (b ∷ a ∷ rest) c = outcome_still (f a b) rest c

four_still : (f : Evaluated → Evaluated → Evaluated → Evaluated → Outcome) (os : List Evaluated) (c : Config) → IsStill None c (on_four f os c)
four_still f [] c = tt
four_still f (w ∷ []) c = tt
four_still f (w ∷ z ∷ []) c = tt
four_still f (w ∷ z ∷ y ∷ []) c = tt
four_still f (w ∷ z ∷ y ∷ x ∷ rest) c = outcome_still (f x y z w) rest c

made_still : (f : List Evaluated → Outcome) (o : Option (List Evaluated × List Evaluated)) (c : Config) → IsStill None c (made_of f o c)
made_still f None c = tt
made_still f (Some (all, rest)) c = outcome_still (f all) rest c

called_still : (f : Evaluated → List (Name × Evaluated) → Outcome) (names : List Name) (o : Option (List Evaluated × List Evaluated)) (c : Config) → IsStill None c (called_on f names o c)
called_still f names None c = tt
called_still f names (Some (all, [])) c = tt
called_still f names (Some (all, a ∷ rest)) c = outcome_still (f a (zip names all)) rest c

branched_still : (b : Bool) (os os2 : List Evaluated) (skip : ℕ) (c : Config) → IsStill None c (branched b (holding os c) skip (holding os2 c))
branched_still true os os2 skip c = (refl, tt)
branched_still false os os2 skip c = (refl, tt)

popped_still : (skip : ℕ) (os : List Evaluated) (c : Config) → IsStill None c (popped_branch_in skip os c)
popped_still skip [] c = tt
popped_still skip (a ∷ rest) c = branched_still _ rest rest skip c

kept_if_still : (truth : Bool) (skip : ℕ) (os : List Evaluated) (c : Config) → IsStill None c (kept_if_in truth skip os c)
kept_if_still truth skip [] c = tt
kept_if_still truth skip (a ∷ rest) c = branched_still _ rest c.operands skip c

above_still : (span : Span) (o : Option (List Evaluated × List Evaluated)) (c : Config) → IsStill None c (above_in span o c)
above_still span None c = tt
above_still span (Some (all, rest)) c = (refl, tt)

asked_still : (safe : Bool) (name : Name) (span : Span) (given : Result (List (KeyVal × Val)) Fault) (o : Option (Option Val × List Evaluated)) (c : Config) → IsStill (Some (ComponentNamed name)) c (component_asked safe name span given o c)
asked_still safe name span given None c = tt
asked_still safe name span (Err fault) (Some (body, rest)) c = tt
asked_still safe name span (Ok given) (Some (body, rest)) c = (refl, refl)

given_still : (here : Here) (name : Name) (keys : List (Option Key)) (has_body : Bool) (span : Span) (o : Option (List Evaluated × List Evaluated)) (c : Config) → IsStill (Some (ComponentNamed name)) c (component_given here name keys has_body span o c)
given_still here name keys has_body span None c = tt
given_still here name keys has_body span (Some (all, rest)) c =
    asked_still here.autoescape name span (map_entries here.file (zip keys all)) (handed has_body rest) c

over_still : (next size : ℕ) (turns : List Turn) (os : List Evaluated) (c : Config) → IsStill None c (begun_over next size turns (holding os c))
over_still next size [] os c = (refl, tt)
over_still next size (t ∷ ts) os c = (refl, tt)

begun_still : (next size : ℕ) (r : Result (List Turn) Fault) (os : List Evaluated) (c : Config) → IsStill None c (begun_with next size r (holding os c))
begun_still next size (Ok turns) os c = over_still next size turns os c
begun_still next size (Err fault) os c = tt

round_still : (ts : List Turn) (l : Loop) (ls : List Loop) (c : Config) → IsStill None c (went_round ts l ls c)
round_still [] l ls c = (refl, tt)
round_still (t ∷ ts) l ls c = (refl, tt)

turned_still : (ls : List Loop) (c : Config) → IsStill None c (round_in ls c)
turned_still [] c = tt
turned_still (l ∷ ls) c = round_still l.rest l ls c

ended_still : (skip : ℕ) (ls : List Loop) (c : Config) → IsStill None c (ended_in skip ls c)
ended_still skip [] c = tt
ended_still skip (l ∷ ls) c = (refl, tt)

kept_still : (os : List Evaluated) (ls : List Loop) (c : Config) → IsStill None c (kept_in os ls c)
kept_still [] ls c = tt
kept_still (a ∷ rest) [] c = tt
kept_still (a ∷ rest) (l ∷ ls) c = (refl, tt)

collected_still : (span : Span) (ls : List Loop) (c : Config) → IsStill None c (collected_in span ls c)
collected_still span [] c = tt
collected_still span (l ∷ ls) c = (refl, tt)

captured_still : (safe : Bool) (span : Span) (ts : List Text) (c : Config) → IsStill None c (captured_in safe span ts c)
captured_still safe span [] c = tt
captured_still safe span (t ∷ ts) c = (refl, tt)

past_still : (n : ℕ) (o : Option (ℕ × ℕ)) → Asks None (past n o)
past_still n None = tt
past_still n (Some (start, size)) = tt

module _ (here : Here) (next : ℕ) where
  started_still : (os : List Evaluated) (heading : _) (size : ℕ) (c : Config) → IsStill None c (started_on here heading next size os c)
  started_still [] heading size c = tt
  started_still (a ∷ rest) heading size c = begun_still next size _ rest c

  stored_still : (is_global : Bool) (name : _) (os : List Evaluated) (c : Config) → IsStill None c (stored_in is_global name os c)
  stored_still is_global name [] c = tt
  stored_still is_global name (a ∷ rest) c = (refl, tt)

  effect_still : (i : Instruction) (c : Config) → IsStill (target_in i) c (effect here next i c)
  effect_still (WriteText text) c = (refl, tt)
  effect_still WriteTop c = top_still here c.operands c
  effect_still (WriteName name span) c = put_still _ c.operands c
  effect_still (LoadConst v span) c = (refl, tt)
  effect_still (LoadName name span) c = (refl, tt)
  effect_still (LoadContext span) c = (refl, tt)
  effect_still (LoadAttribute name optional span) c = one_still _ c.operands c
  effect_still (LoadItem optional span) c = two_still _ c.operands c
  effect_still (Slice optional span) c = four_still _ c.operands c
  effect_still Not c = one_still (λ a. Ok (not_of a)) c.operands c
  effect_still Negate c = one_still _ c.operands c
  effect_still (Binary operator span) c = two_still _ c.operands c
  effect_still (MakeArray spreads span) c =
      made_still (λ all. array_of here.file (zip spreads all) span) (topmost (length spreads) c.operands) c
  effect_still (MakeMap keys span) c =
      made_still (λ all. map_of here.file (zip keys all) span) (topmost (length keys) c.operands) c
  effect_still (Jump skip) c = (refl, tt)
  effect_still (PopJumpIfFalse skip) c = popped_still skip c.operands c
  effect_still (JumpIfFalseOrPop skip) c = kept_if_still false skip c.operands c
  effect_still (JumpIfTrueOrPop skip) c = kept_if_still true skip c.operands c
  effect_still (Store name is_global) c = stored_still is_global name c.operands c
  effect_still (StartLoop key name counts size) c = started_still c.operands _ size c
  effect_still NextTurn c = turned_still c.loops c
  effect_still (EndLoop skip) c = ended_still skip c.loops c
  effect_still Keep c = kept_still c.operands c.loops c
  effect_still (EndComprehension span) c = collected_still span c.loops c
  effect_still StartCapture c = (refl, tt)
  effect_still (EndCapture span) c = captured_still here.autoescape span c.captures c
  effect_still (LeaveLoop drops) c = (refl, past_still 1 (innermost c.loops))
  effect_still (LeaveTurn drops) c = (refl, past_still 0 (innermost c.loops))
  effect_still (TakeBlock name span) c = (refl, tt)
  effect_still (TakeSuper arguments span) c = above_still span _ c
  effect_still (TakeInclude name span) c = (refl, refl)
  effect_still (TakeComponent name keys has_body span) c =
      given_still here name keys has_body span (topmost (length keys) c.operands) c
  effect_still (ApplyFilter name names span) c =
      called_still (λ a given. filter_applied_by here.file (filtered_at plain here c.run.vars name) a given span) names (topmost (length names) c.operands) c
  effect_still (ApplyTest name names span) c =
      called_still (λ a given. test_applied_by here.file (tested_at plain here c.run.vars name) a given span) names (topmost (length names) c.operands) c
  effect_still (CallFunction name names span) c =
      made_still (λ all. function_called_by here.file (called_at plain here c.run.vars name) (zip names all) span) (topmost (length names) c.operands) c

  pub still : (i : Instruction) (c c2 : Config) (flow : Flow) → effect here next i c ≡ Goes c2 flow → c2.run.blocks ≡ c.run.blocks
  still i c c2 flow e = (subst (IsStill (target_in i) c) e (effect_still i c)).0

  -- what is asked for is what the instruction takes
  pub seeks : (i : Instruction) (c c2 : Config) (q : Request) (u : Use) → effect here next i c ≡ Goes c2 (Ask q u) → Seeks (target_in i) q
  seeks i c c2 q u e = (subst (IsStill (target_in i) c) e (effect_still i c)).1
