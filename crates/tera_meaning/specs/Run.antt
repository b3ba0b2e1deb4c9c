-- What a tree gives, and what it does on the way.
use Rattle.std.specs.Prelude.{ℕ, ◌+◌, Bool, true, false, List, [], ◌++◌, Option, Result, Ok, Err}
use Rattle.tera_errors.specs.declared.span.Span.{Span}
use Rattle.tera_errors.specs.Site.{Name}
use Rattle.tera_errors.specs.Fault.{Fault}
use Rattle.tera_values.specs.Val.{ValOf}
use Rattle.tera_operators.specs.Operand.{EvaluatedOf}
use Rattle.tera_state.specs.Scope.{VariablesOf}

-- what was done so far: the variables, the text that was written, and the blocks that ended,
-- each with its text
pub record RunOf (C : Type 0) : Type 0 where
  pub vars : VariablesOf C
  pub text : List C
  pub blocks : List (Name × List C)

abbrev pub Run : Type 0
Run = RunOf ℕ

-- nothing was done yet
abbrev pub begun : {C : Type 0} → VariablesOf C → RunOf C
begun vars = record { vars = vars; text = []; blocks = [] }

-- how a list of nodes ends: to its end, or where `break` or `continue` ends the turn
-- that it stands in
pub data Signal : Type 0 where
  On : Signal
  Broke : Signal
  Continued : Signal

-- a fault, or a result and what was done; and how many visits that took
pub data AnswerOf (C A : Type 0) : Type 0 where
  Failed : (fault : Fault) (visits : ℕ) → AnswerOf C A
  Gave : (result : A) (run : RunOf C) (visits : ℕ) → AnswerOf C A

abbrev pub Answer : Type 0 → Type 0
Answer = AnswerOf ℕ

abbrev pub MeaningOf : Type 0 → Type 0 → Type 0
MeaningOf C A = RunOf C → AnswerOf C A

abbrev pub Meaning : Type 0 → Type 0
Meaning = MeaningOf ℕ

abbrev pub more : {C A : Type 0} → ℕ → AnswerOf C A → AnswerOf C A
more n (Failed fault m) = Failed fault (n + m)
more n (Gave a r m) = Gave a r (n + m)

abbrev pub onward : {C A B : Type 0} → AnswerOf C A → (A → MeaningOf C B) → AnswerOf C B
onward (Failed fault n) go = Failed fault n
onward (Gave a r n) go = more n (go a r)

-- one and then the other, up to the first fault
infixr 4 ◌▹◌
abbrev pub ◌▹◌ : {C A B : Type 0} → MeaningOf C A → (A → MeaningOf C B) → MeaningOf C B
m ▹ go = λ r. onward (m r) go

-- counted as a visit
abbrev pub visit : {C A : Type 0} → MeaningOf C A → MeaningOf C A
visit m r = more 1 (m r)

abbrev pub gives : {C A : Type 0} → A → MeaningOf C A
gives a r = Gave a r 0

abbrev pub fails : {C A : Type 0} → Fault → MeaningOf C A
fails fault r = Failed fault 0

-- what was answered, or its fault
abbrev pub answered : {C A : Type 0} → Result A Fault → MeaningOf C A
answered (Ok a) = gives a
answered (Err fault) = fails fault

-- what is answered where these are the variables, or its fault
abbrev pub answered_at : {C A : Type 0} → (VariablesOf C → Result A Fault) → MeaningOf C A
answered_at f r = answered (f r.vars) r

abbrev pub value_at : {C : Type 0} → ValOf C → Span → MeaningOf C (EvaluatedOf C)
value_at v span = gives (record { value = v; span = span })

abbrev pub if_else : {C A : Type 0} → Bool → MeaningOf C A → MeaningOf C A → MeaningOf C A
if_else true m n = m
if_else false m n = n

-- what is read of the variables
abbrev pub reads : {C A : Type 0} → (VariablesOf C → A) → MeaningOf C A
reads f r = Gave (f r.vars) r 0

-- what becomes of the variables
abbrev pub changes : {C : Type 0} → (VariablesOf C → VariablesOf C) → MeaningOf C Signal
changes f r = Gave On (record r { vars = f r.vars }) 0

abbrev pub writes : {C : Type 0} → List C → MeaningOf C Signal
writes text r = Gave On (record r { text = r.text ++ text }) 0

-- what follows, unless a turn of a loop ends
abbrev pub go_on : {C : Type 0} → Signal → MeaningOf C Signal → MeaningOf C Signal
go_on On next = next
go_on Broke next = gives Broke
go_on Continued next = gives Continued

-- the text of before is there again, and that of the body is handed out
abbrev pub put_back : {C : Type 0} → List C → AnswerOf C Signal → AnswerOf C (Signal × List C)
put_back before (Failed fault n) = Failed fault n
put_back before (Gave signal r n) = Gave (signal, r.text) (record r { text = before }) n

-- the text of a body, which is not written
abbrev pub captured : {C : Type 0} → MeaningOf C Signal → MeaningOf C (Signal × List C)
captured body r = put_back r.text (body (record r { text = [] }))

-- what is asked of a body that stands elsewhere
pub data RequestOf (C : Type 0) : Type 0 where
  -- a block, at the span of its name
  ABlock : (name : Name) (span : Span) → RequestOf C
  -- what the next template above makes of the block that runs, at the span of the call
  Above : (span : Span) → RequestOf C
  -- the template to which a name resolves, at the span of the name
  AnInclude : (name : Name) (span : Span) → RequestOf C
  -- a component with these arguments in their order, and at will the body that it is handed,
  -- at the span of the call
  AComponent : (name : Name) (given : List (Name × ValOf C)) (body : Option (ValOf C)) (span : Span)
      → RequestOf C

abbrev pub Request : Type 0
Request = RequestOf ℕ

-- the answer to a request: the text that was made, the variables after it,
-- and the blocks that ended in it
abbrev pub OracleOf : Type 0 → Type 0
OracleOf C = RequestOf C → VariablesOf C → AnswerOf C Signal

abbrev pub Oracle : Type 0
Oracle = OracleOf ℕ

-- what was done, and behind it what a body did, whose text is handed out
abbrev pub joined : {C : Type 0} → RunOf C → RunOf C → RunOf C
joined r done = record { vars = done.vars; text = r.text; blocks = r.blocks ++ done.blocks }

abbrev pub joined_answer : {C : Type 0} → RunOf C → AnswerOf C Signal → AnswerOf C (List C)
joined_answer r (Failed fault n) = Failed fault n
joined_answer r (Gave signal done n) = Gave done.text (joined r done) n

-- the text of a body that stands elsewhere, which is not written
abbrev pub asks : {C : Type 0} → OracleOf C → RequestOf C → MeaningOf C (List C)
asks call q r = joined_answer r (call q r.vars)

-- how many visits an answer took
abbrev pub visits_of : {C A : Type 0} → AnswerOf C A → ℕ
visits_of (Failed fault n) = n
visits_of (Gave a r n) = n
