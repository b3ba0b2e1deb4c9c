-- What the instructions of captures do, and how a turn is left out of them.
use Rattle.std.specs.Prelude.{ℕ, ◌+◌, Bool, Option, Some, None, List, [], ◌∷◌, drop}
use Rattle.tera_errors.specs.declared.span.Span.{Span}
use Rattle.tera_errors.specs.Site.{Text}
use Rattle.tera_values.specs.Val.{text}
use Rattle.tera_machine.specs.Layers.{around_layers}
use Rattle.tera_machine.specs.Config.{Config, Loop}
use Rattle.tera_machine.specs.Flow.{Flow, On, To, Out}
use Rattle.tera_machine.specs.Did.{Did, Goes, Sticks}
use Rattle.tera_machine.specs.Loops.{innermost}

abbrev pub capture_started : Config → Did
capture_started c =
    Goes (record c { captures = c.run.text ∷ c.captures; run = record c.run { text = [] } }) On

-- the captured text as an operand, and the text around it goes on
abbrev pub captured_in : Bool → Span → List Text → Config → Did
captured_in safe span [] c = Sticks
captured_in safe span (t ∷ ts) c =
    Goes (record c {
      operands = record { value = text c.run.text safe; span = span } ∷ c.operands;
      captures = ts;
      run = record c.run { text = t };
    }) On

abbrev pub capture_ended : Bool → Span → Config → Did
capture_ended safe span c = captured_in safe span c.captures c

-- so many captures are dropped
abbrev pub dropped : ℕ → Config → Config
dropped k c =
    record c {
      captures = drop k c.captures;
      run = record c.run { text = around_layers k c.run.text c.captures };
    }

-- so many instructions behind the body of the innermost loop, or the end where none is open
abbrev pub past : ℕ → Option (ℕ × ℕ) → Flow
past n None = Out
past n (Some (start, size)) = To start (size + n)

abbrev pub past_body : ℕ → List Loop → Flow
past_body n loops = past n (innermost loops)

-- out of so many captures: the loop is left at its end, and the turn at the one instruction before
-- that
abbrev pub loop_left : ℕ → Config → Did
loop_left drops c = Goes (dropped drops c) (past_body 1 c.loops)

abbrev pub turn_left : ℕ → Config → Did
turn_left drops c = Goes (dropped drops c) (past_body 0 c.loops)
