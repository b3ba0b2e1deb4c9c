-- What an attribute, an index and a slice give.
use Rattle.std.specs.Prelude.{ℤ, Bool, true, false, cond, Option, Some, None, Result, Ok, Err, IsErr, ◌≡◌}
use Rattle.tera_errors.specs.declared.span.Span.{Span}
use Rattle.tera_errors.specs.Site.{Name}
use Rattle.tera_errors.specs.Fault.{Fault}
use Rattle.tera_errors.specs.Answer.{SeenError, Says}
use Rattle.tera_values.specs.Alphabet.{Alphabet, plain}
use Rattle.tera_values.specs.Val.{ValOf, undefined, none, int}
use Rattle.tera_values.specs.Access.{attr, is_undefined}
use Rattle.tera_values.specs.Items.{get_item_in, or_undefined}
use Rattle.tera_values.specs.Slices.{slice_in}
use Rattle.tera_operators.specs.Operand.{Evaluated, EvaluatedOf, Outcome, OutcomeOf, at_span, fault_at, known, placed, spanning, then}

abbrev pub is_missing : {C : Type 0} → ValOf C → Bool
is_missing undefined = true
is_missing none = true
is_missing other = false

-- a part of a value that is not undefined; the optional form gives undefined for undefined and none
abbrev pub part_of : {C : Type 0} → Name → Bool → EvaluatedOf C → Span → OutcomeOf C → OutcomeOf C
part_of file false target span part =
    cond (is_undefined target.value) (fault_at file target.span) part
part_of file true target span part = cond (is_missing target.value) (at_span undefined span) part

-- whatever the part is: whether the answer is undefined without it, or a fault without it; if
-- neither, the part is the answer
abbrev pub Decides : Result Bool SeenError → (Span → Outcome → Outcome) → Type 0
Decides (Ok true) meant = (span : Span) (part : Outcome) → meant span part ≡ at_span undefined span
Decides (Ok false) meant = (span : Span) (part : Outcome) → meant span part ≡ part
Decides (Err e) meant =
    (span : Span) (part : Outcome) → IsErr (meant span part) × Says e (meant span part)

-- the value at a text key of a map, and undefined of anything else
abbrev pub attribute_of : {C : Type 0} → Name → Bool → EvaluatedOf C → Name → Span → OutcomeOf C
attribute_of file optional target name span =
    part_of file optional target span (at_span (or_undefined (attr name target.value)) span)

-- what stands at an index
abbrev pub item_in : {C : Type 0} → Alphabet C → Name → Bool → EvaluatedOf C → EvaluatedOf C → Span
    → OutcomeOf C
item_in a file optional target index span =
    part_of file optional target span
    (then (placed file (get_item_in a target.value index.value) index.span) (λ v.
    at_span v (spanning target index)))

-- an integer bounds a slice, and none leaves it open
abbrev pub bound_of : {C : Type 0} → ValOf C → Option (Option ℤ)
bound_of none = Some None
bound_of (int z) = Some (Some z)
bound_of other = None

abbrev pub bound_at : {C : Type 0} → Name → EvaluatedOf C → Result (Option ℤ) Fault
bound_at file a = known file (bound_of a.value) a.span

-- the part between two bounds, in steps
abbrev pub sliced_in : {C : Type 0} → Alphabet C → Name → Bool → EvaluatedOf C → EvaluatedOf C
    → EvaluatedOf C → EvaluatedOf C → Span → OutcomeOf C
sliced_in a file optional target start end step span =
    part_of file optional target span
    (then (bound_at file start) (λ s.
    then (bound_at file end) (λ e.
    then (bound_at file step) (λ t.
    then (placed file (slice_in a s e t target.value) target.span) (λ v.
    at_span v target.span)))))

-- of texts of bytes
abbrev pub item_of : Name → Bool → Evaluated → Evaluated → Span → Outcome
item_of = item_in plain

abbrev pub slice_of : Name → Bool → Evaluated → Evaluated → Evaluated → Evaluated → Span → Outcome
slice_of = sliced_in plain
