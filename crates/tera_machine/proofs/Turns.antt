-- Loops: a run goes from turn to turn.
use Rattle.std.proofs.Common.{◌≡◌, ℕ, ◌+◌, ◌≤◌, List, [], ◌∷◌, length, Some, refl, sym, subst, arith}
use Rattle.std.specs.Prelude.{slice_get}
use Rattle.tera_values.specs.Val.{Val}
use Rattle.tera_state.specs.Scope.{Turn, open_turn, close_turn}
use Rattle.tera_meaning.specs.Whole.{World, Place, here_at}
use Rattle.tera_meaning.specs.Run.{Run, Signal, On, Broke, Continued, Gave, Meaning, more, onward}
use Rattle.tera_meaning.specs.Meaning.{after_turn, loop, loop_or_else}
use Rattle.tera_code.specs.declared.instruction.Instruction.{Instruction}
use Rattle.tera_code.specs.declared.instruction.Instruction.TheVariants.{NextTurn, EndLoop}
use Rattle.tera_code.specs.Code.{Code}
use Rattle.tera_machine.specs.Config.{Config}
use Rattle.tera_machine.specs.Loops.{begun_over}
use Rattle.tera_machine.specs.Effect.{effect}
use Rattle.tera_machine.proofs.Ends.{on_leads, skip_leads, to_leads}
use Rattle.tera_machine.proofs.Counted.{Spot, Reaches, Runs, done, spend, step, none, adjust, onward_runs}
use Rattle.tera_machine.proofs.Arrivals.{Base, in_loop, config_at, spot, changed, Arrive}

module _ (w : World) (place : Place) (code : Code) where
  module _ (at size : ℕ) (kept : List Val) (base : Base) where
    -- the last turn is over
    pub last_leads : slice_get code (at + size) ≡ Some NextTurn → (r : Run) → Reaches w place code (spot (at + size) (in_loop at size [] kept base) r) 1 (spot (at + (size + 1)) (in_loop at size [] kept base) r)
    last_leads next r =
        let c : Config = config_at (in_loop at size [] kept base) r in
        let e : at + size + 1 ≡ at + (size + 1) = omega arith in
        subst (λ n. Reaches w place code (spot (at + size) (in_loop at size [] kept base) r) 1 (spot n (in_loop at size [] kept base) r)) e (on_leads w place code (at + size) c c NextTurn next refl)

    -- a turn is over, and the next one begins
    pub next_leads : slice_get code (at + size) ≡ Some NextTurn → at ≤ length code → (t : Turn) (ts : List Turn) (r : Run) → Reaches w place code (spot (at + size) (in_loop at size (t ∷ ts) kept base) r) 1 (spot at (in_loop at size ts kept base) (changed (λ v. open_turn t (close_turn v)) r))
    next_leads next fits t ts r =
        let r1 : Run = changed (λ v. open_turn t (close_turn v)) r in
        let e : at + 0 ≡ at = omega arith in
        let l : at + 0 ≤ length code = omega (arith, fits) in
        subst (λ n. Reaches w place code (spot (at + size) (in_loop at size (t ∷ ts) kept base) r) 1 (spot n (in_loop at size ts kept base) r1)) e (to_leads w place code (at + size) at 0 _ _ NextTurn next refl l)

  -- a loop begins
  pub begin_leads : (ip at size : ℕ) (c : Config) (base : Base) (r : Run) (i : Instruction) (t : Turn) (ts : List Turn) → at ≡ ip + 1 → slice_get code ip ≡ Some i → effect (here_at w place) (ip + 1) i c ≡ begun_over at size (t ∷ ts) (config_at base r) → Reaches w place code (record { ip = ip; config = c }) 1 (spot at (in_loop at size ts [] base) (changed (open_turn t) r))
  begin_leads ip at size c base r i t ts e g a =
      subst (λ n. Reaches w place code (record { ip = ip; config = c }) 1 (spot n (in_loop at size ts [] base) (changed (open_turn t) r))) (sym e) (on_leads w place code ip _ _ i g a)

  -- a loop over nothing is passed
  pub pass_leads : (ip at size : ℕ) (c : Config) (base : Base) (r : Run) (i : Instruction) → at ≡ ip + 1 → at + (size + 1) + 1 ≤ length code → slice_get code ip ≡ Some i → effect (here_at w place) (ip + 1) i c ≡ begun_over at size [] (config_at base r) → Reaches w place code (record { ip = ip; config = c }) 1 (spot (at + (size + 1) + 1) base r)
  pass_leads ip at size c base r i e fits g a =
      let to : ip + 1 + (size + 2) ≡ at + (size + 1) + 1 = omega (arith, e) in
      let l : ip + 1 + (size + 2) ≤ length code = omega (arith, e, fits) in
      subst (λ n. Reaches w place code (record { ip = ip; config = c }) 1 (spot n base r)) to (skip_leads w place code ip (size + 2) _ _ i g a l)

  module _ (body : Meaning Signal) (size lo at : ℕ) (base : Base) (drops : ℕ) (next : slice_get code (at + size) ≡ Some NextTurn) (over : slice_get code (at + (size + 1)) ≡ Some (EndLoop lo)) (fits : at + (size + 1) + 1 + lo ≤ length code) (each : (ts : List Turn) (r : Run) → Runs w place code (spot at (in_loop at size ts [] base) r) 0 0 (Arrive code (at + size) (in_loop at size ts [] base) 0) (body r)) where
    abbrev Over : Signal → Run → Spot
    Over = Arrive code (at + (size + 1) + 1 + lo) base drops

    -- the loop is closed
    closes : (ts : List Turn) (r : Run) → Runs w place code (spot (at + (size + 1)) (in_loop at size ts [] base) r) 1 0 Over (Gave On (changed close_turn r) 0)
    closes ts r =
        step w place code (spot (at + (size + 1) + 1 + lo) base (changed close_turn r)) 0 (skip_leads w place code (at + (size + 1)) lo _ _ (EndLoop lo) over refl fits) (done w place code (omega arith))

    abbrev LoopRuns : List Turn → Run → Type 0
    LoopRuns ts r =
        Runs w place code (spot (at + size) (in_loop at size ts [] base) r) 2 0 Over (loop body ts (changed close_turn r))

    after_runs : (ts : List Turn) (signal : Signal) (r : Run) → LoopRuns ts r → Runs w place code (Arrive code (at + size) (in_loop at size ts [] base) 0 signal r) 2 0 Over (after_turn signal (loop body ts) (changed close_turn r))
    after_runs ts On r h = h
    after_runs ts Broke r h = adjust w place code 2 0 (omega arith) (closes ts r)
    after_runs ts Continued r h =
        let e : at + size ≡ at + (size + 0) = omega arith in
        subst (λ n. Runs w place code (spot n (in_loop at size ts [] base) r) 2 0 Over (loop body ts (changed close_turn r))) e h

    -- a turn that is open, and those to come
    turn_runs : (ts : List Turn) (s : ℕ) → 2 ≤ s → ((r : Run) → LoopRuns ts r) → (r : Run) → Runs w place code (spot at (in_loop at size ts [] base) r) s 0 Over (onward (body r) (λ signal r2. more 0 (after_turn signal (loop body ts) (changed close_turn r2))))
    turn_runs ts s l h r =
        onward_runs w place code (omega arith) (each ts r) (λ signal r2. none w place code (adjust w place code (s + 0) 0 (omega (arith, l)) (after_runs ts signal r2 (h r2))))

    loop_runs : (ts : List Turn) (r : Run) → LoopRuns ts r
    loop_runs [] r =
        step w place code (spot (at + (size + 1)) (in_loop at size [] [] base) r) 1 (last_leads at size [] base next r) (closes [] r)
    loop_runs (t ∷ ts) r =
        let r1 : Run = changed (λ v. open_turn t (close_turn v)) r in
        spend w place code (step w place code (spot at (in_loop at size ts [] base) r1) 9 (next_leads at size [] base next (omega (arith, fits)) t ts r) (none w place code (turn_runs ts 9 (omega arith) (loop_runs ts) r1)))

    -- the loop is begun, where its turns are known, or the other body is taken
    pub begin_runs : (ip : ℕ) (c : Config) (i : Instruction) (ts : List Turn) (other : Meaning Signal) (r : Run) → at ≡ ip + 1 → slice_get code ip ≡ Some i → effect (here_at w place) (ip + 1) i c ≡ begun_over at size ts (config_at base r) → Runs w place code (spot (at + (size + 1) + 1) base r) 0 0 Over (other r) → Runs w place code (record { ip = ip; config = c }) 9 0 Over (loop_or_else body other ts r)
    begin_runs ip c i [] other r e g a h =
        step w place code (spot (at + (size + 1) + 1) base r) 8 (pass_leads ip at size c base r i e (omega (arith, fits)) g a) (adjust w place code 8 0 (omega arith) h)
    begin_runs ip c i (t ∷ ts) other r e g a h =
        let r1 : Run = changed (open_turn t) r in
        spend w place code (step w place code (spot at (in_loop at size ts [] base) r1) 16 (begin_leads ip at size c base r i t ts e g a) (none w place code (turn_runs ts 16 (omega arith) (loop_runs ts) r1)))
