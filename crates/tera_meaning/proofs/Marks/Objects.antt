-- What names stand for, with marked values: an object of the caller is handed the same at marked characters and at bytes.
use mathlib.Core.Path.{fun_ext}
use Rattle.std.proofs.Common.{◌≡◌, ℕ, Bool, ◌∷◌, true, false, refl, ap, ap₂, Option, Some, None, Result, Ok, Err}
use Rattle.tera_errors.specs.Site.{Name}
use Rattle.tera_errors.specs.Fault.{Fault, message}
use Rattle.tera_values.specs.Alphabet.{Marked, plain, marking, marked_safe, outside, vouched_for, from_outside, answer_from_outside}
use Rattle.tera_values.specs.Escape.{escape_html}
use Rattle.tera_values.specs.Named.{Named}
use Rattle.tera_values.specs.Val.{Val, ValOf, text}
use Rattle.tera_built_ins.specs.declared.built_in_filter.BuiltInFilter.{BuiltInFilter}
use Rattle.tera_built_ins.specs.declared.built_in_test.BuiltInTest.{BuiltInTest}
use Rattle.tera_built_ins.specs.declared.built_in_function.BuiltInFunction.{BuiltInFunction}
use Rattle.tera_state.specs.Scope.{AroundOf, VariablesOf}
use Rattle.tera_state.specs.View.{View, escaping_in}
use Rattle.tera_state.specs.Engine.{Engine, OwnFilter, OwnTest, OwnFunction, Callee, own, built_in, filter_at, test_at, function_at, built_in_filters}
use Rattle.tera_state.specs.Calling.{answer_in, seen_in, all_bare, filter_called, test_called, function_called, filtered_by, tested_by, called_by, answer_of}
use Rattle.tera_meaning.proofs.Marks.Claim.{Claim, SafeTextsHold, AnswerHolds, FilterHolds, FunctionHolds}
use Rattle.tera_meaning.proofs.Marks.Each.{none, more}
use Rattle.tera_meaning.proofs.Marks.Standing.{Stands, bare-is, ResultStands, answers, refuses, answers-stand, texts, seen-is, bearing-each, unsafe-each, from_outside-stands}
use Rattle.tera_meaning.proofs.Marks.Around.{VariablesStand, AroundStands, look-stands}
use Rattle.tera_meaning.proofs.Marks.Given.{NamedStand, Equals, same-stands}
use Rattle.tera_meaning.proofs.Marks.Tables.{filter-stands, test-stands, function-stands}
use Rattle.tera_values.specs.Access.{marked}
use Rattle.tera_meaning.specs.Marks.Sources.{safe_texts}

module _ {K : Claim} where
  -- what an object sees of a rendering
  pub seen-same : (engine : Engine) (autoescape : Bool) {a : AroundOf Marked} {b : AroundOf ℕ} {v : VariablesOf Marked} {w : VariablesOf ℕ} → AroundStands K a b → VariablesStand K v w
      → seen_in marking engine a v autoescape ≡ seen_in plain engine b w autoescape
  seen-same engine autoescape around vs =
      ap (λ (look : Name → Val). record { look = look; autoescape = autoescape; escape = engine.escape; filters = built_in_filters engine })
      (fun_ext (λ name. bare-is (look-stands name around vs)))

  -- and the arguments that it is handed
  bare-same : {given : Named (ValOf Marked)} {others : Named (ValOf ℕ)} → NamedStand K given others → all_bare marking given ≡ all_bare plain others
  bare-same none = refl
  bare-same (more {x = v} {y = w} {xs = vs} {ys = ws} k ks) =
      ap₂ (λ (e : Name × Val) (es : Named Val). e ∷ es) (ap₂ (λ (n : Name) (u : Val). (n, u)) k.0 (bare-is k.1)) (bare-same ks)

  -- what an object answers, for whose text it vouches or not
  vouched-stands : (v : Val) → SafeTextsHold K (safe_texts (marked v)) → Stands K (marked (vouched_for (from_outside v))) (marked v)
  vouched-stands (text t true) h = texts true (bearing-each marked_safe t h.0)
  vouched-stands (text t false) h = rw (seen-is {K = K} false (unsafe-each outside t)) (texts true (bearing-each marked_safe t h.0))
  vouched-stands v h = from_outside-stands v h

  answer-stands : (safe : Bool) (r : Result Val Fault) → AnswerHolds K (answer_of safe r) → ResultStands (Stands K) (answer_in marking safe (answer_from_outside r)) (answer_in plain safe r)
  answer-stands true (Ok v) h = answers (vouched-stands v h)
  answer-stands true (Err fault) h = refuses fault
  answer-stands false r h = answers-stand r h

  module _ (view : View) {given : Named (ValOf Marked)} {others : Named (ValOf ℕ)} (ns : NamedStand K given others) where
    module _ {v : ValOf Marked} {w : ValOf ℕ} (s : Stands K v w) where
      filter_called-stands : view.escape ≡ escape_html → (f : Option (Callee OwnFilter BuiltInFilter)) → FilterHolds K f → ResultStands (Stands K) (filter_called marking view f v given) (filter_called plain view f w others)
      filter_called-stands by_html None h = refuses message
      filter_called-stands by_html (Some (own o)) h =
          rw (bare-is s) (rw (bare-same ns) (answer-stands o.safe (o.meaning w (all_bare plain others) view) (h w (all_bare plain others) view)))
      filter_called-stands by_html (Some (built_in f)) h = filter-stands ns (escaping_in view) by_html s f h

      test_called-stands : (t : Option (Callee OwnTest BuiltInTest)) → ResultStands Equals (test_called marking view t v given) (test_called plain view t w others)
      test_called-stands None = refuses message
      test_called-stands (Some (own o)) = rw (bare-is s) (rw (bare-same ns) (same-stands (o.meaning w (all_bare plain others) view)))
      test_called-stands (Some (built_in t)) = test-stands ns s t

    function_called-stands : (f : Option (Callee OwnFunction BuiltInFunction)) → FunctionHolds K f → ResultStands (Stands K) (function_called marking view f given) (function_called plain view f others)
    function_called-stands None h = refuses message
    function_called-stands (Some (own o)) h = rw (bare-same ns) (answer-stands o.safe (o.meaning (all_bare plain others) view) (h (all_bare plain others) view))
    function_called-stands (Some (built_in f)) h = function-stands ns f

    -- by names
    module _ (engine : Engine) where
      -- where texts are escaped for HTML
      pub filtered-stands : view.escape ≡ escape_html → {v : ValOf Marked} {w : ValOf ℕ} → Stands K v w → (n : Name) → FilterHolds K (filter_at engine n) → ResultStands (Stands K) (filtered_by marking engine view n v given) (filtered_by plain engine view n w others)
      filtered-stands by_html s n h = filter_called-stands s by_html (filter_at engine n) h

      pub tested-stands : {v : ValOf Marked} {w : ValOf ℕ} → Stands K v w → (n : Name) → ResultStands Equals (tested_by marking engine view n v given) (tested_by plain engine view n w others)
      tested-stands s n = test_called-stands s (test_at engine n)

      pub called-stands : (n : Name) → FunctionHolds K (function_at engine n) → ResultStands (Stands K) (called_by marking engine view n given) (called_by plain engine view n others)
      called-stands n h = function_called-stands (function_at engine n) h
