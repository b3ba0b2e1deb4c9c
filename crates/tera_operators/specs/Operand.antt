-- Values that were evaluated, as plain data.
use Rattle.std.specs.Prelude.{ℕ, Option, Some, None, Result, Ok, Err, refl}
use Rattle.std.specs.Coded.{Coded, code_by, coded×, coded_ℕ}
use Rattle.tera_errors.specs.declared.span.Span.{Span}
use Rattle.tera_errors.specs.Site.{Name}
use Rattle.tera_errors.specs.Fault.{Fault, rendering_error}
use Rattle.tera_errors.specs.Answer.{SeenError, Lacks, Tells}
use Rattle.tera_values.specs.Val.{Val, ValOf}
use Rattle.tera_values.specs.Coding.{val_coding}

-- a value, and the span at which a fault in it is reported
pub record EvaluatedOf (C : Type 0) : Type 0 where
  pub value : ValOf C
  pub span : Span

abbrev pub Evaluated : Type 0
Evaluated = EvaluatedOf ℕ

abbrev pub evaluated_coding : Coded Evaluated
evaluated_coding =
    code_by (Val × (ℕ × ℕ)) (coded× val_coding (coded× coded_ℕ coded_ℕ))
    (λ o. (o.value, (o.span.start, o.span.end)))
    (λ p. record { value = p.0; span = record { start = p.1.0; end = p.1.1 } }) (λ _. refl)

-- what an operator answers
abbrev pub OutcomeOf : Type 0 → Type 0
OutcomeOf C = Result (EvaluatedOf C) Fault

abbrev pub Outcome : Type 0
Outcome = OutcomeOf ℕ

abbrev pub at_span : {C : Type 0} → ValOf C → Span → Result (EvaluatedOf C) Fault
at_span v span = Ok (record { value = v; span = span })

-- from the start of the left operand to the end of the right one
abbrev pub spanning : {C : Type 0} → EvaluatedOf C → EvaluatedOf C → Span
spanning a b = record { start = a.span.start; end = b.span.end }

-- a fault at this span of the file
abbrev pub fault_at : {A : Type 0} → Name → Span → Result A Fault
fault_at file span = Err (rendering_error (record { file = file; span = span }))

-- what is there, or a fault at this span
abbrev pub known : {A : Type 0} → Name → Option A → Span → Result A Fault
known file None span = fault_at file span
known file (Some a) span = Ok a

-- one and then the other, up to the first fault
abbrev pub then : {A B : Type 0} → Result A Fault → (A → Result B Fault) → Result B Fault
then (Ok a) go = go a
then (Err f) go = Err f

-- what is answered, where any fault is one at this span
abbrev pub placed : {A : Type 0} → Name → Result A Fault → Span → Result A Fault
placed file (Ok a) span = Ok a
placed file (Err f) span = fault_at file span

-- an error told as this fault; want of memory stays want of memory
abbrev pub Retells : SeenError → SeenError → Fault → Type 0
Retells None told fault = Lacks told
Retells (Some refused) told fault = Tells told fault
