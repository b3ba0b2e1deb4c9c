-- The code of a tree gives what the tree means.
use Rattle.std.proofs.Common.{◌≡◌, ℕ, suc, ◌+◌, ◌≤◌, Bool, true, false, cond, List, [], ◌∷◌, ◌++◌, length, None, Some, Result, Ok, Err, refl, ap, arith, length-append}
use Rattle.std.specs.Prelude.{slice_get}
use Rattle.tera_errors.specs.declared.span.Span.{Span}
use Rattle.tera_errors.specs.Site as site
use Rattle.tera_errors.specs.Fault.{Fault}
use Rattle.tera_syntax_tree.specs.Tree.{Expr, Nothing, Boolean, Integer, Text, Name, Attribute, Index, Slice, Not, Negate, Binary, And, Or, Ternary, Array, Map, Comprehension, Super, Filter, Test, Call, Component, Node, Content, Print, If, Set, Capture, FilterSection, For, Block, Include, ComponentCall, Break, Continue, Nodes, NoNodes, MoreNodes}
use Rattle.tera_values.specs.Access.{truthy}
use Rattle.tera_state.specs.Scope.{Turn, Heading, look, dump, assign}
use Rattle.tera_operators.specs.Operand.{Evaluated}
use Rattle.tera_meaning.specs.Here.{Here}
use Rattle.tera_meaning.specs.Whole.{World, Place, here_at, whole}
use Rattle.tera_meaning.specs.Run.{Run, ABlock, AnInclude, Oracle, ◌▹◌, visit, reads, value_at, answered, writes, changes, onward}
use Rattle.tera_meaning.specs.Meaning.{output, written, turns_of, loop_or_else, node_meaning, nodes_meaning}
use Rattle.tera_code.specs.declared.instruction.Instruction.{Instruction}
use Rattle.tera_code.specs.declared.instruction.Instruction.TheVariants as instruction
use Rattle.tera_code.specs.Code.{Code, expr_code, node_code, nodes_code, choice_tail, loop_tail, print_code, is_context}
use Rattle.tera_machine.specs.Flow.{Written}
use Rattle.tera_machine.specs.Loops.{begun_with}
use Rattle.tera_machine.specs.Effect.{effect, put_out}
use Rattle.tera_machine.proofs.Places.{StandsAt, stands_front, stands_back, parts, round}
use Rattle.tera_machine.proofs.Counted.{Runs, Below, done, spend, step, first, fail, adjust, onward_runs, answered_runs, choice_runs, jump_after, asked_runs}
use Rattle.tera_machine.proofs.Arrivals.{Base, over, in_loop, captured_over, config_at, spot, writing, Fits, Arrive, arrive_at, go_on_runs, arrive_passes, leave_leads}
use Rattle.tera_machine.proofs.Turns.{begin_runs}
use Rattle.tera_machine.proofs.Expressions.{expr_runs}
use Rattle.tera_machine.proofs.Sections.{section_runs, handed_runs}

module _ (w : World) (place : Place) (code : Code) (below : Below w place) where
  abbrev here : Here
  here = here_at w place

  abbrev call : Oracle
  call = whole w place

  -- one instruction, which puts a text out
  put_out_runs : (ip : ℕ) (stack : List Evaluated) (rest : Base) (r : Run) (drops s : ℕ) (o : Result site.Text Fault) (i : Instruction) → slice_get code ip ≡ Some i → effect here (ip + 1) i (config_at (record rest { operands = stack }) r) ≡ put_out o (config_at rest r) → Runs w place code (spot ip (record rest { operands = stack }) r) (s + 1) 0 (Arrive code (ip + 1) rest drops) (onward (answered o r) writes)
  put_out_runs ip stack rest r drops s (Ok text) i at e = first w place code _ s i at e (done w place code (omega arith))
  put_out_runs ip stack rest r drops s (Err f) i at e = fail w place code {s = s} f i (omega arith) at e

  -- a value goes onto the base, and is put out from there
  print_runs : (value : Expr) (drops ip : ℕ) (base : Base) (r : Run) → StandsAt code ip (expr_code value ++ instruction.WriteTop ∷ []) → Runs w place code (spot ip base r) 0 0 (Arrive code (ip + length (expr_code value ++ instruction.WriteTop ∷ [])) base drops) (node_meaning here call (Print value) r)
  print_runs value drops ip base r has =
      let ce = expr_code value in
      let pe = ip + length ce in
      let len : pe + 1 ≡ ip + length (ce ++ instruction.WriteTop ∷ []) = omega (arith, length-append ce (instruction.WriteTop ∷ [])) in
      let i = (stands_back code ip ce (instruction.WriteTop ∷ []) has).0 in
      arrive_at w place code drops _ len (spend w place code (onward_runs w place code (omega arith) (expr_runs w place code below value ip base r (stands_front code ip ce _ has)) (λ a r1. put_out_runs pe (a ∷ base.operands) base r1 drops 8 (output here a) instruction.WriteTop i refl)))

  -- what a name stands for is put out where it lies, the map of all names from the top
  name_printed : (b : Bool) (name : site.Name) (span : Span) (drops ip : ℕ) (base : Base) (r : Run) → StandsAt code ip (print_code (cond b None (Some (name, span))) (cond b (instruction.LoadContext span ∷ []) (instruction.LoadName name span ∷ []))) → Runs w place code (spot ip base r) 0 0 (Arrive code (ip + length (print_code (cond b None (Some (name, span))) (cond b (instruction.LoadContext span ∷ []) (instruction.LoadName name span ∷ [])))) base drops) (visit (visit (reads (λ v. cond b (dump place.around v) (look name place.around v)) ▹ λ v. value_at v span) ▹ written here) r)
  name_printed true name span drops ip base r has =
      let top : Evaluated = record { value = dump place.around r.vars; span = span } in
      let len : ip + 1 + 1 ≡ ip + 2 = omega arith in
      arrive_at w place code drops _ len (spend w place code (spend w place code (first w place code _ 15 (instruction.LoadContext span) has.0 refl (put_out_runs (ip + 1) (top ∷ base.operands) base r drops 14 (output here top) instruction.WriteTop has.1.0 refl))))
  name_printed false name span drops ip base r has =
      spend w place code (spend w place code (put_out_runs ip base.operands base r drops 15 (output here (record { value = look name place.around r.vars; span = span })) (instruction.WriteName name span) has.0 refl))

  mutual
    pub node_runs : (n : Node) (drops ip : ℕ) (base : Base) (r : Run) → Fits code base.loops → StandsAt code ip (node_code n drops) → Runs w place code (spot ip base r) 0 0 (Arrive code (ip + length (node_code n drops)) base drops) (node_meaning here call n r)
    node_runs (Content t span) drops ip base r fits has =
        spend w place code (first w place code _ 7 (instruction.WriteText t) has.0 refl (done w place code (omega arith)))
    node_runs (Print (Nothing span)) drops ip base r fits has = print_runs (Nothing span) drops ip base r has
    node_runs (Print (Boolean b span)) drops ip base r fits has = print_runs (Boolean b span) drops ip base r has
    node_runs (Print (Integer z span)) drops ip base r fits has = print_runs (Integer z span) drops ip base r has
    node_runs (Print (Text t span)) drops ip base r fits has = print_runs (Text t span) drops ip base r has
    node_runs (Print (Name name span)) drops ip base r fits has =
        name_printed (is_context name) name span drops ip base r has
    node_runs (Print (Attribute target name optional span)) drops ip base r fits has = print_runs (Attribute target name optional span) drops ip base r has
    node_runs (Print (Index target index optional span)) drops ip base r fits has = print_runs (Index target index optional span) drops ip base r has
    node_runs (Print (Slice target start end step optional span)) drops ip base r fits has = print_runs (Slice target start end step optional span) drops ip base r has
    node_runs (Print (Not operand span)) drops ip base r fits has = print_runs (Not operand span) drops ip base r has
    node_runs (Print (Negate operand span)) drops ip base r fits has = print_runs (Negate operand span) drops ip base r has
    node_runs (Print (Binary operator left right span)) drops ip base r fits has = print_runs (Binary operator left right span) drops ip base r has
    node_runs (Print (And left right span)) drops ip base r fits has = print_runs (And left right span) drops ip base r has
    node_runs (Print (Or left right span)) drops ip base r fits has = print_runs (Or left right span) drops ip base r has
    node_runs (Print (Ternary value condition other span)) drops ip base r fits has = print_runs (Ternary value condition other span) drops ip base r has
    node_runs (Print (Array items span)) drops ip base r fits has = print_runs (Array items span) drops ip base r has
    node_runs (Print (Map entries span)) drops ip base r fits has = print_runs (Map entries span) drops ip base r has
    node_runs (Print (Super arguments span)) drops ip base r fits has = print_runs (Super arguments span) drops ip base r has
    node_runs (Print (Filter value name arguments span)) drops ip base r fits has = print_runs (Filter value name arguments span) drops ip base r has
    node_runs (Print (Test value name arguments span)) drops ip base r fits has = print_runs (Test value name arguments span) drops ip base r has
    node_runs (Print (Call name arguments span)) drops ip base r fits has = print_runs (Call name arguments span) drops ip base r has
    node_runs (Print (Component name attributes span)) drops ip base r fits has = print_runs (Component name attributes span) drops ip base r has
    node_runs (Print (Comprehension value key name target condition span)) drops ip base r fits has =
        print_runs (Comprehension value key name target condition span) drops ip base r has
    node_runs (If condition body other) drops ip base r fits has =
        let cc = expr_code condition in
        let cv = nodes_code body drops in
        let co = nodes_code other drops in
        let p = ip + length cc in
        let h = parts code p cv co (stands_back code ip cc (choice_tail cv co) has) in
        let end = ip + length (cc ++ choice_tail cv co) in
        let len : p + 1 + (length cv + 1) + length co ≡ end = omega (arith, length-append cc (choice_tail cv co), length-append cv (instruction.Jump (length co) ∷ co)) in
        let pass : p + 1 + length cv + 1 + length co ≡ end = omega (arith, len) in
        spend w place code (onward_runs w place code (omega arith) (expr_runs w place code below condition ip base r (stands_front code ip cc _ has)) (λ c r1. choice_runs w place code _ _ 8 (length cv + 1) (truthy c.value) (nodes_meaning here call body) (nodes_meaning here call other) r1 (instruction.PopJumpIfFalse (length cv + 1)) h.branch refl h.within (adjust w place code 8 0 (omega arith) (jump_after w place code (arrive_passes w place code (p + 1 + length cv) end (length co) base drops h.jump h.ends pass) (nodes_runs body drops (p + 1) base r1 fits h.first))) (adjust w place code 8 0 (omega arith) (arrive_at w place code drops _ len (nodes_runs other drops (p + 1 + (length cv + 1)) base r1 fits h.second)))))
    node_runs (Set name value is_global) drops ip base r fits has =
        let i = instruction.Store name is_global in
        let ce = expr_code value in
        let pe = ip + length ce in
        let len : pe + 1 ≡ ip + length (ce ++ i ∷ []) = omega (arith, length-append ce (i ∷ [])) in
        let at = (stands_back code ip ce (i ∷ []) has).0 in
        arrive_at w place code drops _ len (spend w place code (onward_runs w place code (omega arith) (expr_runs w place code below value ip base r (stands_front code ip ce _ has)) (λ a r1. first w place code _ 8 i at refl (done w place code (omega arith)))))
    node_runs (Capture name fs body is_global) drops ip base r fits has =
        let i = instruction.Store name is_global in
        section_runs w place code below fs (nodes_code body (suc drops)) (nodes_meaning here call body) i (λ a. changes (assign is_global name a.value)) drops ip base r has (λ stands. nodes_runs body (suc drops) (ip + 1) (captured_over r.text base) (writing [] r) fits stands) (λ q at a r1. first w place code _ 5 i at refl (done w place code (omega arith)))
    node_runs (FilterSection fs body) drops ip base r fits has =
        section_runs w place code below fs (nodes_code body (suc drops)) (nodes_meaning here call body) instruction.WriteTop (written here) drops ip base r has (λ stands. nodes_runs body (suc drops) (ip + 1) (captured_over r.text base) (writing [] r) fits stands) (λ q at a r1. put_out_runs q (a ∷ base.operands) base r1 drops 5 (output here a) instruction.WriteTop at refl)
    node_runs (For key name target body other) drops ip base r fits has =
        let heading : Heading = record { name = name; key = key; counts = true } in
        let ct = expr_code target in
        let cb = nodes_code body 0 in
        let co = nodes_code other drops in
        let size = length cb in
        let lo = length co in
        let start = instruction.StartLoop key name true size in
        let p = ip + length ct in
        let at = p + 1 in
        let tail = instruction.NextTurn ∷ instruction.EndLoop lo ∷ co in
        let len : at + (size + 1) + 1 + lo ≡ ip + length (ct ++ loop_tail key name cb co) = omega (arith, length-append ct (loop_tail key name cb co), length-append cb tail) in
        let h = stands_back code ip ct (loop_tail key name cb co) has in
        let g = round code at cb (instruction.EndLoop lo) co h.1 in
        let fits_body : at + (size + 1) ≤ length code = omega (arith, g.within) in
        let each = λ (ts : List Turn) (r1 : Run). nodes_runs body 0 at (in_loop at size ts [] base) r1 fits_body g.turn in
        let turn = nodes_meaning here call body in
        let otherwise = nodes_meaning here call other in
        let begins = λ (turns : Result (List Turn) Fault) (r1 : Run). begun_with at size turns (config_at base r1) in
        arrive_at w place code drops _ len (spend w place code (onward_runs w place code (omega arith) (expr_runs w place code below target ip base r (stands_front code ip ct _ has)) (λ a r1. answered_runs w place code 8 (turns_of here heading a) r1 (λ turns. loop_or_else turn otherwise turns) start (omega arith) h.0 (λ f e. ap (λ o. begins o r1) e) (λ turns e. begin_runs w place code turn size lo at base drops g.next g.over g.within each p (config_at (over a base) r1) start turns otherwise r1 refl h.0 (ap (λ o. begins o r1) e) (nodes_runs other drops (at + (size + 1) + 1) base r1 fits g.rest)))))
    node_runs (Block name body span) drops ip base r fits has =
        let q = ABlock name span in
        spend w place code (asked_runs w place code (config_at base r) 7 q Written r writes (instruction.TakeBlock name span) (call q r.vars) (omega arith) has.0 refl (below q Written (config_at base r)) (λ after. done w place code (omega arith)))
    node_runs (Include name span) drops ip base r fits has =
        let q = AnInclude name span in
        spend w place code (asked_runs w place code (config_at base r) 7 q Written r writes (instruction.TakeInclude name span) (call q r.vars) (omega arith) has.0 refl (below q Written (config_at base r)) (λ after. done w place code (omega arith)))
    node_runs (ComponentCall name attributes body span) drops ip base r fits has =
        handed_runs w place code below name attributes span (nodes_code body (suc drops)) (nodes_meaning here call body) drops ip base r has (λ stands. nodes_runs body (suc drops) (ip + 1) (captured_over r.text base) (writing [] r) fits stands) (λ q at a r1. put_out_runs q (a ∷ base.operands) base r1 drops 4 (output here a) instruction.WriteTop at refl)
    node_runs Break drops ip base r fits has =
        spend w place code (step w place code _ 7 (leave_leads w place code ip 1 drops base r (instruction.LeaveLoop drops) (omega arith) fits has.0 refl) (done w place code (omega arith)))
    node_runs Continue drops ip base r fits has =
        spend w place code (step w place code _ 7 (leave_leads w place code ip 0 drops base r (instruction.LeaveTurn drops) (omega arith) fits has.0 refl) (done w place code (omega arith)))

    pub nodes_runs : (ns : Nodes) (drops ip : ℕ) (base : Base) (r : Run) → Fits code base.loops → StandsAt code ip (nodes_code ns drops) → Runs w place code (spot ip base r) 0 0 (Arrive code (ip + length (nodes_code ns drops)) base drops) (nodes_meaning here call ns r)
    nodes_runs NoNodes drops ip base r fits has =
        let len : ip ≡ ip + 0 = omega arith in arrive_at w place code drops _ len (done w place code (omega arith))
    nodes_runs (MoreNodes n rest) drops ip base r fits has =
        let cn = node_code n drops in
        let cr = nodes_code rest drops in
        let len : ip + length cn + length cr ≡ ip + length (cn ++ cr) = omega (arith, length-append cn cr) in
        arrive_at w place code drops _ len (onward_runs w place code (omega arith) (node_runs n drops ip base r fits (stands_front code ip cn cr has)) (λ signal r1. go_on_runs w place code drops (nodes_meaning here call rest) 0 signal r1 (nodes_runs rest drops (ip + length cn) base r1 fits (stands_back code ip cn cr has))))
