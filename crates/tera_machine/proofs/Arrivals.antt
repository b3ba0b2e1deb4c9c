-- Where parts of a tree begin and arrive.
use Rattle.std.proofs.Common.{◌≡◌, ℕ, ◌+◌, ◌≤◌, List, [], ◌∷◌, length, drop, Some, subst, refl, arith}
use Rattle.std.specs.Prelude.{slice_get}
use Rattle.tera_errors.specs.Site.{Text}
use Rattle.tera_values.specs.Val.{Val}
use Rattle.tera_state.specs.Scope.{Variables, Turn}
use Rattle.tera_operators.specs.Operand.{Evaluated}
use Rattle.tera_meaning.specs.Whole.{World, Place, here_at}
use Rattle.tera_meaning.specs.Run.{Run, Signal, On, Broke, Continued, Answer, Meaning, go_on}
use Rattle.tera_code.specs.declared.instruction.Instruction.{Instruction}
use Rattle.tera_code.specs.declared.instruction.Instruction.TheVariants.{Jump}
use Rattle.tera_code.specs.Code.{Code}
use Rattle.tera_machine.specs.Config.{Config, Loop}
use Rattle.tera_machine.specs.Did.{Goes}
use Rattle.tera_machine.specs.Layers.{around_layers}
use Rattle.tera_machine.specs.Captures.{dropped, past_body}
use Rattle.tera_machine.specs.Effect.{effect}
use Rattle.tera_machine.proofs.Ends.{skip_leads, to_leads, out_leads}
use Rattle.tera_machine.proofs.Literals.{push_all, seconds}
use Rattle.tera_machine.proofs.Counted.{Spot, Reaches, Follows, Runs, done, reaches_none}

-- what lies beneath the operands that are looked at, and beside them
pub record Base : Type 0 where
  pub operands : List Evaluated
  pub captures : List Text
  pub loops : List Loop

-- with one operand more
abbrev pub over : Evaluated → Base → Base
over a base = record base { operands = a ∷ base.operands }

-- in one capture more, with this text around it
abbrev pub captured_over : Text → Base → Base
captured_over text base = record base { captures = text ∷ base.captures }

-- in one loop more
abbrev pub in_loop : ℕ → ℕ → List Turn → List Val → Base → Base
in_loop start size rest kept base =
    record base { loops = record { start = start; size = size; rest = rest; kept = kept } ∷ base.loops }

abbrev pub config_at : Base → Run → Config
config_at base r =
    record { operands = base.operands; captures = base.captures; loops = base.loops; run = r }

abbrev pub spot : ℕ → Base → Run → Spot
spot ip base r = record { ip = ip; config = config_at base r }

abbrev pub changed : (Variables → Variables) → Run → Run
changed f r = record r { vars = f r.vars }

abbrev pub writing : Text → Run → Run
writing text r = record r { text = text }

-- with the result on top, and with a row of results on top
abbrev pub Top : ℕ → Base → Evaluated → Run → Spot
Top ip base a r = spot ip (over a base) r

abbrev pub all_over : List Evaluated → Base → Base
all_over vs base = record base { operands = push_all vs base.operands }

abbrev pub Tops : {A : Type 0} → ℕ → Base → List (A × Evaluated) → Run → Spot
Tops ip base all r = spot ip (all_over (seconds all) base) r

-- so many instructions behind the body of the innermost loop, or the end of the code
abbrev pub past : Code → ℕ → List Loop → ℕ
past code n [] = length code
past code n (l ∷ ls) = l.start + (l.size + n)

-- the innermost loop lies within the code
abbrev pub Fits : Code → List Loop → Type 0
Fits code [] = Unit {0}
Fits code (l ∷ ls) = l.start + (l.size + 1) ≤ length code

-- the body of the innermost loop is left, out of so many captures
abbrev pub left : Code → ℕ → ℕ → Base → Run → Spot
left code n drops base r =
    spot (past code n base.loops) (record base { captures = drop drops base.captures }) (writing (around_layers drops r.text base.captures) r)

-- where a list of nodes goes on that stands in so many captures of the innermost loop
abbrev pub Arrive : Code → ℕ → Base → ℕ → Signal → Run → Spot
Arrive code ip base drops On r = spot ip base r
Arrive code ip base drops Broke r = left code 1 drops base r
Arrive code ip base drops Continued r = left code 0 drops base r

module _ (w : World) (place : Place) (code : Code) where
  pub top_at : {from : Spot} {s t ip : ℕ} {base : Base} {x : Answer Evaluated} (ip' : ℕ) → ip ≡ ip' → Runs w place code from s t (Top ip base) x → Runs w place code from s t (Top ip' base) x
  top_at {from} {s} {t} {base = base} {x = x} ip' e h = subst (λ p. Runs w place code from s t (Top p base) x) e h

  pub tops_at : {A : Type 0} {from : Spot} {s t ip : ℕ} {base : Base} {x : Answer (List (A × Evaluated))} (ip' : ℕ) → ip ≡ ip' → Runs w place code from s t (Tops ip base) x → Runs w place code from s t (Tops ip' base) x
  tops_at {from = from} {s} {t} {base = base} {x = x} ip' e h = subst (λ p. Runs w place code from s t (Tops p base) x) e h

  pub arrive_at : {from : Spot} {s t ip : ℕ} {base : Base} (drops : ℕ) {x : Answer Signal} (ip' : ℕ) → ip ≡ ip' → Runs w place code from s t (Arrive code ip base drops) x → Runs w place code from s t (Arrive code ip' base drops) x
  arrive_at {from} {s} {t} {base = base} drops {x = x} ip' e h =
      subst (λ p. Runs w place code from s t (Arrive code p base drops) x) e h

  -- what follows, unless a turn of a loop ends
  pub go_on_runs : {ip ip' : ℕ} {base : Base} (drops : ℕ) (next : Meaning Signal) (s : ℕ) (signal : Signal) (r : Run) → Runs w place code (spot ip base r) s 0 (Arrive code ip' base drops) (next r) → Runs w place code (Arrive code ip base drops signal r) s 0 (Arrive code ip' base drops) (go_on signal next r)
  go_on_runs drops next s On r h = h
  go_on_runs drops next s Broke r h = done w place code (omega arith)
  go_on_runs drops next s Continued r h = done w place code (omega arith)

  skips : (p q n : ℕ) (base : Base) (r : Run) → slice_get code p ≡ Some (Jump n) → p + 1 + n ≤ length code → p + 1 + n ≡ q → Follows w place code (spot p base r) (spot q base r)
  skips p q n base r i l e =
      (1, omega arith, subst (λ m. Reaches w place code (spot p base r) 1 (spot m base r)) e (skip_leads w place code p n _ _ (Jump n) i refl l))

  -- the jump behind the first body of a choice
  pub top_passes : (p q n : ℕ) (base : Base) → slice_get code p ≡ Some (Jump n) → p + 1 + n ≤ length code → p + 1 + n ≡ q → (a : Evaluated) (r : Run) → Follows w place code (Top p base a r) (Top q base a r)
  top_passes p q n base i l e a r = skips p q n (over a base) r i l e

  pub arrive_passes : (p q n : ℕ) (base : Base) (drops : ℕ) → slice_get code p ≡ Some (Jump n) → p + 1 + n ≤ length code → p + 1 + n ≡ q → (signal : Signal) (r : Run) → Follows w place code (Arrive code p base drops signal r) (Arrive code q base drops signal r)
  arrive_passes p q n base drops i l e On r = skips p q n base r i l e
  arrive_passes p q n base drops i l e Broke r = (0, omega arith, reaches_none w place code (left code 1 drops base r))
  arrive_passes p q n base drops i l e Continued r = (0, omega arith, reaches_none w place code (left code 0 drops base r))

  leaves : (ip n drops : ℕ) (operands : List Evaluated) (captures : List Text) (loops : List Loop) (r : Run) (i : Instruction) → n ≤ 1 → Fits code loops → slice_get code ip ≡ Some i → effect (here_at w place) (ip + 1) i (config_at (record { operands = operands; captures = captures; loops = loops }) r) ≡ Goes (dropped drops (config_at (record { operands = operands; captures = captures; loops = loops }) r)) (past_body n loops) → Reaches w place code (spot ip (record { operands = operands; captures = captures; loops = loops }) r) 1 (left code n drops (record { operands = operands; captures = captures; loops = loops }) r)
  leaves ip n drops operands captures [] r i l fits e a = out_leads w place code ip _ _ i e a
  leaves ip n drops operands captures (o ∷ ls) r i l fits e a =
      to_leads w place code ip o.start (o.size + n) _ _ i e a (omega (arith, fits, l))

  -- a way out of the innermost loop's body
  pub leave_leads : (ip n drops : ℕ) (base : Base) (r : Run) (i : Instruction) → n ≤ 1 → Fits code base.loops → slice_get code ip ≡ Some i → effect (here_at w place) (ip + 1) i (config_at base r) ≡ Goes (dropped drops (config_at base r)) (past_body n base.loops) → Reaches w place code (spot ip base r) 1 (left code n drops base r)
  leave_leads ip n drops base r i l fits e a =
      leaves ip n drops base.operands base.captures base.loops r i l fits e a
