-- Calls answer operands that stand to each other for operands that do.
use Rattle.std.proofs.Common.{◌≡◌, ℕ, List, map, Result}
use Rattle.tera_errors.specs.declared.span.Span.{Span}
use Rattle.tera_errors.specs.Site.{Name}
use Rattle.tera_errors.specs.Fault.{Fault}
use Rattle.tera_values.specs.Alphabet.{Marked, plain, marking}
use Rattle.tera_values.specs.Escape.{escape_html}
use Rattle.tera_state.specs.View.{View}
use Rattle.tera_state.specs.Engine.{Engine, filter_at, function_at}
use Rattle.tera_state.specs.Calling.{filtered_by, tested_by, called_by}
use Rattle.tera_operators.specs.Operand.{EvaluatedOf}
use Rattle.tera_operators.specs.Calls.{by_name, placed_call, filter_applied_by, test_applied_by, function_called_by}
use Rattle.tera_meaning.proofs.Marks.Claim.{Claim, FilterHolds, FunctionHolds}
use Rattle.tera_meaning.proofs.Marks.Each.{Each, none, more}
use Rattle.tera_meaning.proofs.Marks.Standing.{Stands, ResultStands, answers, refuses}
use Rattle.tera_meaning.proofs.Marks.Around.{Binds, put_all-stands}
use Rattle.tera_meaning.proofs.Marks.Given.{NamedStand, Equals}
use Rattle.tera_meaning.proofs.Marks.Operating.{Operand, Listed, Outcome, then-stands, at-stands, has-stands, placed-stands}
use Rattle.tera_meaning.proofs.Marks.Objects.{filtered-stands, tested-stands, called-stands}

module _ {K : Claim} where
  values-stand : {given : List (Name × EvaluatedOf Marked)} {others : List (Name × EvaluatedOf ℕ)} → Each (Listed K) given others → Each (Binds K) (map (λ g. (g.0, g.1.value)) given) (map (λ g. (g.0, g.1.value)) others)
  values-stand none = none
  values-stand (more k ks) = more (k.0, k.1.value) (values-stand ks)

  by_name-stands : {given : List (Name × EvaluatedOf Marked)} {others : List (Name × EvaluatedOf ℕ)} → Each (Listed K) given others → NamedStand K (by_name given) (by_name others)
  by_name-stands ks = put_all-stands (values-stand ks) none

placed_call-stands : {A B : Type 0} (S : A → B → Type 0) (file : Name) (value call : Span) {x : Result A Fault} {y : Result B Fault} → ResultStands S x y → ResultStands S (placed_call file x value call) (placed_call file y value call)
placed_call-stands S file value call (answers s) = answers s
placed_call-stands S file value call (refuses fault) = refuses _

module _ {K : Claim} where
  -- where an object sees the same in both
  module _ (file : Name) (engine : Engine) (name : Name) (span : Span) {given : List (Name × EvaluatedOf Marked)} {others : List (Name × EvaluatedOf ℕ)} (ks : Each (Listed K) given others) {view other : View} (same : view ≡ other) where
    pub filter-stands : FilterHolds K (filter_at engine name) → other.escape ≡ escape_html → {a : EvaluatedOf Marked} {b : EvaluatedOf ℕ} → Operand K a b → Outcome K (filter_applied_by file (filtered_by marking engine view name) a given span) (filter_applied_by file (filtered_by plain engine other name) b others span)
    filter-stands h by_html s =
        rw same (rw s.span (then-stands (Operand K) (placed_call-stands (Stands K) file _ span (filtered-stands other (by_name-stands ks) engine by_html s.value name h)) (λ v w k. at-stands span k)))

    pub test-stands : {a : EvaluatedOf Marked} {b : EvaluatedOf ℕ} → Operand K a b → Outcome K (test_applied_by file (tested_by marking engine view name) a given span) (test_applied_by file (tested_by plain engine other name) b others span)
    test-stands s =
        rw same (rw s.span (then-stands (Operand K) (placed_call-stands Equals file _ span (tested-stands other (by_name-stands ks) engine s.value name)) (λ m n p. has-stands span p)))

    pub function-stands : FunctionHolds K (function_at engine name) → Outcome K (function_called_by file (called_by marking engine view name) given span) (function_called_by file (called_by plain engine other name) others span)
    function-stands h =
        rw same (then-stands (Operand K) (placed-stands (Stands K) file span (called-stands other (by_name-stands ks) engine name h)) (λ v w k. at-stands span k))
