-- What a list of instructions does, one after another, and the bodies that they take.
use Rattle.std.specs.Prelude.{◌≡◌, ℕ, zero, suc, ◌+◌, ◌≤◌, nat_le, cond, List, [], ◌∷◌, ◌++◌, length, Option, Some, None, Result, Ok, Err, slice_get}
use Rattle.tera_errors.specs.Site.{Text}
use Rattle.tera_errors.specs.Fault.{Fault}
use Rattle.tera_errors.specs.Answer.{SeenError}
use Rattle.tera_values.specs.Val.{text}
use Rattle.tera_state.specs.Scope.{Variables}
use Rattle.tera_meaning.specs.Run.{Run, Request, begun}
use Rattle.tera_meaning.specs.Whole.{World, Place, Way, Refuses, Takes, way, left_of, here_at}
use Rattle.tera_code.specs.declared.instruction.Instruction.{Instruction}
use Rattle.tera_code.specs.Code.{Code, nodes_code}
use Rattle.tera_machine.specs.Config.{Config, Loop}
use Rattle.tera_machine.specs.Flow.{Use, Written, Pushed, On, Skip, To, Out, Ask}
use Rattle.tera_machine.specs.Did.{Did, Goes, Faults, Sticks}
use Rattle.tera_machine.specs.Effect.{effect}

-- how a run ends, and after how many instructions
pub data End : Type 0 where
  Finished : (config : Config) (count : ℕ) → End
  Broken : (fault : Fault) (count : ℕ) → End
  Unfinished : End
  Stuck : End

-- with so many instructions before
abbrev pub after : ℕ → End → End
after k (Finished c n) = Finished c (k + n)
after k (Broken f n) = Broken f (k + n)
after k Unfinished = Unfinished
after k Stuck = Stuck

abbrev pub then_on : End → (Config → End) → End
then_on (Finished c n) go = after n (go c)
then_on (Broken f n) go = Broken f n
then_on Unfinished go = Unfinished
then_on Stuck go = Stuck

-- what runs code in a place from an instruction on
abbrev pub Runner : Type 0
Runner = Place → Code → ℕ → Config → End

-- where a body begins: what waits in the one that takes it stays beneath, and its loops are its own
abbrev pub entered : Variables → Config → Config
entered v c =
    record { operands = c.operands; captures = c.run.text ∷ c.captures; loops = []; run = begun v }

-- what goes on where a body's text was made
abbrev pub used : Use → Run → Config → Config
used Written done c =
    record c {
      run = record {
        vars = done.vars;
        text = c.run.text ++ done.text;
        blocks = c.run.blocks ++ done.blocks;
      };
    }
used (Pushed safe span) done c = record c {
  operands = record { value = text done.text safe; span = span } ∷ c.operands;
  run = record { vars = done.vars; text = c.run.text; blocks = c.run.blocks ++ done.blocks };
}

-- how a body is left, by its open loops and the texts around it, from the configurations before it
-- and at its end
abbrev pub left_in : List Loop → List Text → Request → Use → Config → Config → Option Config
left_in (l ∷ ls) captures q u c c' = None
left_in [] [] q u c c' = None
left_in [] (t ∷ ts) q u c c' =
    Some (used u (left_of q c.run.vars c'.run)
    (record {
      operands = c'.operands;
      captures = ts;
      loops = c.loops;
      run = record c.run { text = t };
    }))

abbrev pub left : Request → Use → Config → Config → Option Config
left q u c c' = left_in c'.loops c'.captures q u c c'

abbrev pub back : Option Config → ℕ → End
back None n = Stuck
back (Some c) n = Finished c n

abbrev pub leaving : Request → Use → Config → End → End
leaving q u c (Finished c' n) = back (left q u c c') n
leaving q u c (Broken f n) = Broken f n
leaving q u c Unfinished = Unfinished
leaving q u c Stuck = Stuck

-- a body that a request takes, where runs of code are given
abbrev pub taken : Runner → Request → Use → Config → Way → End
taken go q u c (Refuses f) = Broken f 0
taken go q u c (Takes place vars body) =
    leaving q u c (go place (nodes_code body 0) 0 (entered vars c))

-- a position past the end of the code sticks
abbrev pub within_code : ℕ → (ℕ → Config → End) → ℕ → Config → End
within_code len go ip c = cond (nat_le ip len) (go ip c) Stuck

abbrev pub follow : ℕ → (Request → Use → Config → End) → (ℕ → Config → End) → ℕ → Did → End
follow len body go ip (Goes c On) = go (ip + 1) c
follow len body go ip (Goes c (Skip n)) = within_code len go (ip + 1 + n) c
follow len body go ip (Goes c (To p n)) = within_code len go (p + n) c
follow len body go ip (Goes c Out) = go len c
follow len body go ip (Goes c (Ask q u)) = then_on (body q u c) (go (ip + 1))
follow len body go ip (Faults f) = Broken f 0
follow len body go ip Sticks = Stuck

module _ (w : World) where
  abbrev pub body_by : Runner → Place → Request → Use → Config → End
  body_by go p q u c = taken go q u c (way w p q c.run.vars)

  abbrev pub fetched : Runner → Place → Code → Option Instruction → ℕ → Config → End
  fetched go p code None ip c = Finished c 0
  fetched go p code (Some i) ip c =
      after 1 (follow (length code) (body_by go p) (go p code) ip
      (effect (here_at w p) (ip + 1) i c))

  -- from this instruction on, with fewer than so many on the way
  unfoldable pub exec : ℕ → Runner
  exec zero p code ip c = Unfinished
  exec (suc n) p code ip c = fetched (exec n) p code (slice_get code ip) ip c

abbrev pub Within : ℕ → End → Type 0
Within m (Finished c k) = k ≤ m
Within m (Broken f k) = k ≤ m
Within m Unfinished = ⊥
Within m Stuck = ⊥

-- a run that is over
abbrev pub IsOver : End → Type 0
IsOver (Finished c n) = Unit {0}
IsOver (Broken f n) = Unit {0}
IsOver Unfinished = ⊥
IsOver Stuck = Unit {0}

-- the machine ends by itself, after at most m instructions
pub record EndsWithin (w : World) (p : Place) (code : Code) (ip : ℕ) (c : Config)
    (m : ℕ) : Type 0 where
  pub depth : ℕ
  pub within : Within m (exec w depth p code ip c)

-- the machine ends so
pub record Ends (w : World) (p : Place) (code : Code) (ip : ℕ) (c : Config) (o : End) : Type 0 where
  pub depth : ℕ
  pub is : exec w depth p code ip c ≡ o

-- a request's body ends so
pub record BodyEnds (w : World) (p : Place) (q : Request) (u : Use) (c : Config)
    (o : End) : Type 0 where
  pub depth : ℕ
  pub is : body_by w (exec w depth) p q u c ≡ o

-- the code ended as the machine does, after so many instructions, unless memory was refused
abbrev pub Ran : {A : Type 0} → World → Place → Code → Config → Result A SeenError → Config →
    ℕ → Type 0
Ran w p code c (Ok a) c' k = Ends w p code 0 c (Finished c' k)
Ran w p code c (Err None) c' k = Unit {0}
Ran w p code c (Err (Some f)) c' k = Ends w p code 0 c (Broken f k)
