-- What the instructions of a loop do.
use Rattle.std.specs.Prelude.{◌≡◌, ℕ, ◌+◌, Bool, Option, Some, None, List, [], ◌∷◌, ◌++◌, Result, Ok, Err}
use Rattle.tera_errors.specs.declared.span.Span.{Span}
use Rattle.tera_errors.specs.Site.{Name}
use Rattle.tera_errors.specs.Fault.{Fault}
use Rattle.tera_values.specs.Val.{Val, array, vals}
use Rattle.tera_operators.specs.Operand.{Evaluated}
use Rattle.tera_state.specs.Scope.{Turn, Heading, open_turn, close_turn}
use Rattle.tera_meaning.specs.Here.{Here}
use Rattle.tera_meaning.specs.Meaning.{turns_of}
use Rattle.tera_machine.specs.Config.{Config, Loop}
use Rattle.tera_machine.specs.Flow.{On, Skip, To}
use Rattle.tera_machine.specs.Did.{Did, Goes, Faults, Sticks, holding, with_vars}

-- the first turn is opened, or the body and the end of the loop are passed; the body starts at the
-- next position
abbrev pub begun_over : ℕ → ℕ → List Turn → Config → Did
begun_over next size [] c = Goes c (Skip (size + 2))
begun_over next size (t ∷ ts) c =
    Goes (with_vars (open_turn t)
    (record c
    { loops = record { start = next; size = size; rest = ts; kept = [] } ∷ c.loops })) On

abbrev pub begun_with : ℕ → ℕ → Result (List Turn) Fault → Config → Did
begun_with next size (Ok turns) c = begun_over next size turns c
begun_with next size (Err fault) c = Faults fault

abbrev pub started_on : Here → Heading → ℕ → ℕ → List Evaluated → Config → Did
started_on here heading next size [] c = Sticks
started_on here heading next size (a ∷ rest) c =
    begun_with next size (turns_of here heading a) (holding rest c)

abbrev pub loop_started : Here → ℕ → Option Name → Name → Bool → ℕ → Config → Did
loop_started here next key name counts size c =
    started_on here (record { name = name; key = key; counts = counts }) next size c.operands c

-- the next turn in the place of the last, or on where that was all
abbrev pub went_round : List Turn → Loop → List Loop → Config → Did
went_round [] l ls c = Goes c On
went_round (t ∷ ts) l ls c =
    Goes (with_vars (λ v. open_turn t (close_turn v))
    (record c { loops = record l { rest = ts } ∷ ls })) (To l.start 0)

abbrev pub round_in : List Loop → Config → Did
round_in [] c = Sticks
round_in (l ∷ ls) c = went_round l.rest l ls c

abbrev pub turned : Config → Did
turned c = round_in c.loops c

-- where the body of the innermost loop starts, and its size
abbrev pub innermost : List Loop → Option (ℕ × ℕ)
innermost [] = None
innermost (l ∷ ls) = Some (l.start, l.size)

-- the innermost loop is over
abbrev pub without_loop : List Loop → Config → Config
without_loop outer c = with_vars close_turn (record c { loops = outer })

-- a loop is closed that kept this
abbrev pub ClosesIn : List Loop → Config → List Val → Config → Type 0
ClosesIn [] before kept after = ⊥
ClosesIn (l ∷ ls) before kept after = (kept ≡ l.kept) × (after ≡ without_loop ls before)

abbrev pub Closes : Config → List Val → Config → Type 0
Closes before kept after = ClosesIn before.loops before kept after

abbrev pub ended_in : ℕ → List Loop → Config → Did
ended_in skip [] c = Sticks
ended_in skip (l ∷ ls) c = Goes (without_loop ls c) (Skip skip)

abbrev pub loop_ended : ℕ → Config → Did
loop_ended skip c = ended_in skip c.loops c

abbrev pub kept_in : List Evaluated → List Loop → Config → Did
kept_in [] ls c = Sticks
kept_in (a ∷ rest) [] c = Sticks
kept_in (a ∷ rest) (l ∷ ls) c =
    Goes (holding rest (record c { loops = record l { kept = l.kept ++ a.value ∷ [] } ∷ ls })) On

abbrev pub kept : Config → Did
kept c = kept_in c.operands c.loops c

-- the array of what was kept on top; the empty array behind it is passed
abbrev pub collected_in : Span → List Loop → Config → Did
collected_in span [] c = Sticks
collected_in span (l ∷ ls) c =
    Goes (without_loop ls
    (holding (record { value = array (vals l.kept); span = span } ∷ c.operands) c)) (Skip 1)

abbrev pub comprehension_ended : Span → Config → Did
comprehension_ended span c = collected_in span c.loops c
