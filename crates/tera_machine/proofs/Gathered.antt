-- Comprehensions: what their turns give is kept in the loop.
use Rattle.std.proofs.Common.{◌≡◌, ℕ, ◌+◌, ◌≤◌, Bool, List, [], ◌∷◌, ◌++◌, length, Some, refl, ap, subst, arith, append_assoc, append-nil}
use Rattle.std.specs.Prelude.{slice_get}
use Rattle.std.specs.List.{zip}
use Rattle.tera_errors.specs.declared.span.Span.{Span}
use Rattle.tera_values.specs.Val.{Val, array, vals}
use Rattle.tera_state.specs.Scope.{Turn, open_turn, close_turn}
use Rattle.tera_operators.specs.Operand.{Evaluated}
use Rattle.tera_operators.specs.Literals.{array_of}
use Rattle.tera_meaning.specs.Whole.{World, Place, here_at}
use Rattle.tera_meaning.specs.Run.{Run, Meaning, Gave, onward, more, gives}
use Rattle.tera_meaning.specs.Meaning.{if_kept, comprehension}
use Rattle.tera_code.specs.declared.instruction.Instruction.{Instruction}
use Rattle.tera_code.specs.declared.instruction.Instruction.TheVariants.{NextTurn, EndComprehension, MakeArray}
use Rattle.tera_code.specs.Code.{Code}
use Rattle.tera_machine.specs.Config.{Config}
use Rattle.tera_machine.specs.Loops.{begun_over}
use Rattle.tera_machine.specs.Effect.{effect, made_of}
use Rattle.tera_machine.proofs.Ends.{skip_leads}
use Rattle.tera_machine.proofs.Literals.{topmost-push_all}
use Rattle.tera_machine.proofs.Counted.{Spot, Runs, done, spend, step, first, none, adjust, onward_lent, mapped_runs, same_goal, onward-onward}
use Rattle.tera_machine.proofs.Arrivals.{Base, over, in_loop, config_at, spot, changed, Top}
use Rattle.tera_machine.proofs.Turns.{last_leads, next_leads, begin_leads, pass_leads}

-- what one turn gives
abbrev pub one_turn : Meaning Bool → Meaning Evaluated → Meaning (List Val)
one_turn test value r = onward (test r) (λ keep. if_kept keep value)

module _ (w : World) (place : Place) (code : Code) where
  module _ (test : Meaning Bool) (value : Meaning Evaluated) (span : Span) (size at : ℕ) (base : Base) (next : slice_get code (at + size) ≡ Some NextTurn) (over_at : slice_get code (at + (size + 1)) ≡ Some (EndComprehension span)) (empty : slice_get code (at + (size + 1) + 1) ≡ Some (MakeArray [] span)) (fits : at + (size + 1) + 1 + 1 ≤ length code) (each : (ts : List Turn) (kept : List Val) (r : Run) → Runs w place code (spot at (in_loop at size ts kept base) r) 2 0 (λ vs r1. spot (at + size) (in_loop at size ts (kept ++ vs) base) r1) (one_turn test value r)) where
    abbrev pub array_at : List Val → Evaluated
    array_at vs = record { value = array (vals vs); span = span }

    -- with the array of what was kept before, and these
    abbrev pub Collected : List Val → List Val → Run → Spot
    Collected kept vs r = Top (at + (size + 1) + 1 + 1) base (array_at (kept ++ vs)) r

    abbrev RestRuns : List Turn → List Val → Run → Type 0
    RestRuns ts kept r =
        Runs w place code (spot (at + size) (in_loop at size ts kept base) r) 2 0 (Collected kept) (comprehension test value ts (changed close_turn r))

    -- the loop is closed, and what was kept is on top
    closes : (kept : List Val) (r : Run) → Runs w place code (spot (at + (size + 1)) (in_loop at size [] kept base) r) 1 0 (Collected kept) (Gave [] (changed close_turn r) 0)
    closes kept r =
        let r1 : Run = changed close_turn r in
        let end = at + (size + 1) + 1 + 1 in
        step w place code (spot end (over (array_at kept) base) r1) 0 (skip_leads w place code (at + (size + 1)) 1 _ _ (EndComprehension span) over_at refl fits) (subst (λ all. Runs w place code (spot end (over (array_at all) base) r1) 0 0 (Collected kept) (Gave [] r1 0)) (append-nil kept) (done w place code (omega arith)))

    -- the values of a turn come before those of the turns to come
    joins : (ts : List Turn) (kept vs : List Val) (r : Run) → RestRuns ts (kept ++ vs) r → Runs w place code (spot (at + size) (in_loop at size ts (kept ++ vs) base) r) 2 0 (Collected kept) (onward (comprehension test value ts (changed close_turn r)) (λ rest. gives (vs ++ rest)))
    joins ts kept vs r h =
        mapped_runs w place code 2 (λ rest. vs ++ rest) (same_goal w place code (λ rest r1. ap (λ all. Top (at + (size + 1) + 1 + 1) base (array_at all) r1) (append_assoc kept vs rest)) h)

    -- a turn that is open, and those to come
    turn_runs : (ts : List Turn) (kept : List Val) (s : ℕ) → 2 ≤ s → ((kept : List Val) (r : Run) → RestRuns ts kept r) → (r : Run) → Runs w place code (spot at (in_loop at size ts kept base) r) (s + 2) 0 (Collected kept) (onward (test r) (λ keep r1. onward (if_kept keep value r1) (λ vs r2. more 0 (onward (comprehension test value ts (changed close_turn r2)) (λ rest. gives (vs ++ rest))))))
    turn_runs ts kept s l h r =
        let rest : List Val → Meaning (List Val) = λ vs r2. more 0 (onward (comprehension test value ts (changed close_turn r2)) (λ rest. gives (vs ++ rest))) in
        subst (Runs w place code (spot at (in_loop at size ts kept base) r) (s + 2) 0 (Collected kept)) (onward-onward (test r) (λ keep. if_kept keep value) rest) (onward_lent w place code 2 s (omega arith) (each ts kept r) (λ vs r2. none w place code (adjust w place code (s + 0) 0 (omega (arith, l)) (joins ts kept vs r2 (h (kept ++ vs) r2)))))

    rest_runs : (ts : List Turn) (kept : List Val) (r : Run) → RestRuns ts kept r
    rest_runs [] kept r =
        step w place code (spot (at + (size + 1)) (in_loop at size [] kept base) r) 1 (last_leads w place code at size kept base next r) (closes kept r)
    rest_runs (t ∷ ts) kept r =
        let r1 : Run = changed (λ v. open_turn t (close_turn v)) r in
        spend w place code (step w place code (spot at (in_loop at size ts kept base) r1) 9 (next_leads w place code at size kept base next (omega (arith, fits)) t ts r) (none w place code (turn_runs ts kept 7 (omega arith) (rest_runs ts) r1)))

    -- the loop is begun, where its turns are known; over nothing it gives the empty array
    pub gather_runs : (ip : ℕ) (c : Config) (i : Instruction) (ts : List Turn) (r : Run) → at ≡ ip + 1 → slice_get code ip ≡ Some i → effect (here_at w place) (ip + 1) i c ≡ begun_over at size ts (config_at base r) → Runs w place code (record { ip = ip; config = c }) 8 0 (Collected []) (comprehension test value ts r)
    gather_runs ip c i [] r e g a =
        let c1 : Config = config_at base r in
        let made = ap (λ o. made_of (λ all. array_of place.file (zip [] all) span) o c1) (topmost-push_all 0 [] base.operands refl) in
        step w place code (spot (at + (size + 1) + 1) base r) 7 (pass_leads w place code ip at size c base r i e (omega (arith, fits)) g a) (first w place code _ 6 (MakeArray [] span) empty made (done w place code (omega arith)))
    gather_runs ip c i (t ∷ ts) r e g a =
        let r1 : Run = changed (open_turn t) r in
        spend w place code (step w place code (spot at (in_loop at size ts [] base) r1) 15 (begin_leads w place code ip at size c base r i t ts e g a) (none w place code (turn_runs ts [] 13 (omega arith) (rest_runs ts) r1)))
