-- What is made of two integers.
use Rattle.std.proofs.Common.{◌≡◌, ℕ, ℤ, Bool, true, false, cond, not, Result, Ok, Err, pos, refl, ap, sym, int_lt, Less, Equal, Greater, ap₂, ◌∙◌, arith}
use Rattle.std.proofs.lemmas.Bool.{false_from_ne_true}
use Rattle.std.proofs.lemmas.Int.{ints}
use Rattle.std.specs.declared.cmp.Ordering.{Ordering}
use Rattle.std.specs.Int.{int_div_euclid, int_rem_euclid}
use Rattle.std.specs.Ordering.{int_cmp, int_eq, is_lt, is_gt, is_le, is_ge}
use Rattle.tera_errors.specs.declared.span.Span.{Span}
use Rattle.tera_errors.specs.Site.{Name}
use Rattle.tera_errors.specs.Fault.{Fault, message}
use Rattle.tera_syntax_tree.specs.declared.expression.BinaryOperator.{BinaryOperator}
use Rattle.tera_syntax_tree.specs.declared.expression.BinaryOperator.TheVariants as op
use Rattle.tera_values.specs.Val.{Val, int}
use Rattle.tera_values.specs.Number.{sum, difference, product, quotient, remainder, within}
use Rattle.tera_operators.specs.Operand.{Evaluated, Outcome, at_span, fault_at, placed, spanning, then}
use Rattle.tera_operators.specs.Operators.{Makes, binary_of}

-- what an operator makes of two values is made of operands that have them
pub binary_of-made : (operator : BinaryOperator) (v w made : Val) (left right : Evaluated) → Makes operator v w made → left.value ≡ v → right.value ≡ w
    → (file : Name) (span : Span) → binary_of file operator left right span ≡ at_span made (spanning left right)
binary_of-made operator v w made left right makes l r file span =
    ap₂ (λ (a b : Val). binary_of file operator (record { value = a; span = left.span }) (record { value = b; span = right.span }) span) l r ∙ makes file left.span right.span span

pub sum_is_made : (a b : ℤ) (v : Val) → sum a b ≡ Ok v → Makes op.Add (int a) (int b) v
sum_is_made a b v h file left right span =
    let whole : Span = record { start = left.start; end = right.end } in
    ap (λ (r : Result Val Fault). then (placed file r whole) (λ w. at_span w whole)) h

pub difference_is_made : (a b : ℤ) (v : Val) → difference a b ≡ Ok v → Makes op.Subtract (int a) (int b) v
difference_is_made a b v h file left right span =
    let whole : Span = record { start = left.start; end = right.end } in
    ap (λ (r : Result Val Fault). then (placed file r whole) (λ w. at_span w whole)) h

pub product_is_made : (a b : ℤ) (v : Val) → product a b ≡ Ok v → Makes op.Multiply (int a) (int b) v
product_is_made a b v h file left right span =
    let whole : Span = record { start = left.start; end = right.end } in
    ap (λ (r : Result Val Fault). then (placed file r whole) (λ w. at_span w whole)) h

-- a quotient or a remainder by a number that is not zero
abbrev divided : Bool → Name → ℤ → Result Val Fault → Span → Span → Outcome
divided is_zero file b answer right whole =
    then (cond is_zero (fault_at file right) (Ok b)) (λ n. then (placed file (cond is_zero (Err message) answer) whole) (λ w. at_span w whole))

abbrev answers : Result Val Fault → ℕ
answers (Ok v) = 1
answers (Err f) = 0

is_divided : (is_zero : Bool) (file : Name) (b : ℤ) (answer : Result Val Fault) (right whole : Span) (v : Val) → cond is_zero (Err message) answer ≡ Ok v → divided is_zero file b answer right whole ≡ at_span v whole
is_divided true file b answer right whole v h =
    let wrong : 0 ≡ 1 = ap answers h in
    absurd (omega (arith, wrong))
is_divided false file b answer right whole v h =
    ap (λ (r : Result Val Fault). then (placed file r whole) (λ w. at_span w whole)) h

pub quotient_is_made : (a b : ℤ) (v : Val) → quotient a b ≡ Ok v → Makes op.FloorDivide (int a) (int b) v
quotient_is_made a b v h file left right span =
    let whole : Span = record { start = left.start; end = right.end } in
    is_divided (int_eq b (pos 0)) file b (within (int_div_euclid a b)) right whole v h

pub remainder_is_made : (a b : ℤ) (v : Val) → remainder a b ≡ Ok v → Makes op.Remainder (int a) (int b) v
remainder_is_made a b v h file left right span =
    let whole : Span = record { start = left.start; end = right.end } in
    is_divided (int_eq b (pos 0)) file b (within (int_rem_euclid a b)) right whole v h

-- how two numbers stand to one another, by the two tests that a machine makes
abbrev stands : Bool → Bool → Ordering
stands less greater = cond less Less (cond greater Greater Equal)

both_ways : (a b : ℤ) → int_lt a b ≡ true → int_lt b a ≡ false
both_ways a b h = false_from_ne_true (int_lt b a) (λ g. omega (arith, ints, h, g))

pub tells_less : (a b : ℤ) → is_lt (int_cmp a b) ≡ int_lt a b
tells_less a b = by (int_lt a b) (int_lt b a)
  where
    by : (l g : Bool) → is_lt (stands l g) ≡ l
    by true g = refl
    by false true = refl
    by false false = refl

pub tells_greater_or_equal : (a b : ℤ) → is_ge (int_cmp a b) ≡ not (int_lt a b)
tells_greater_or_equal a b = by (int_lt a b) (int_lt b a)
  where
    by : (l g : Bool) → is_ge (stands l g) ≡ not l
    by true g = refl
    by false true = refl
    by false false = refl

pub tells_greater : (a b : ℤ) → is_gt (int_cmp a b) ≡ int_lt b a
tells_greater a b = by (int_lt a b) (int_lt b a) (both_ways a b)
  where
    by : (l g : Bool) → (l ≡ true → g ≡ false) → is_gt (stands l g) ≡ g
    by true g h = sym (h refl)
    by false true h = refl
    by false false h = refl

pub tells_less_or_equal : (a b : ℤ) → is_le (int_cmp a b) ≡ not (int_lt b a)
tells_less_or_equal a b = by (int_lt a b) (int_lt b a) (both_ways a b)
  where
    by : (l g : Bool) → (l ≡ true → g ≡ false) → is_le (stands l g) ≡ not g
    by true g h = ap not (sym (h refl))
    by false true h = refl
    by false false h = refl
