-- A claim on marked characters, and when it holds of what a rendering is made of.
use Rattle.std.proofs.Common.{◌≡◌, ℕ, false, IsTrue, List, Option, Some, None, Result}
use Rattle.std.specs.List.{AllByRecursion}
use Rattle.tera_errors.specs.Site.{Text}
use Rattle.tera_errors.specs.Fault.{Fault}
use Rattle.tera_syntax_tree.specs.Tree.{Nodes}
use Rattle.tera_syntax_tree.specs.Calls as called
use Rattle.tera_syntax_tree.specs.Calls.{AFilter, ATest, AFunction, AComponent, ATemplate, calls}
use Rattle.tera_values.specs.Alphabet.{Mark, template, marked_safe, escaped, made, Marked}
use Rattle.tera_values.specs.Named.{Named}
use Rattle.tera_values.specs.Val.{Val}
use Rattle.tera_built_ins.specs.declared.built_in_filter.BuiltInFilter.{BuiltInFilter}
use Rattle.tera_built_ins.specs.declared.built_in_function.BuiltInFunction.{BuiltInFunction}
use Rattle.tera_state.specs.View.{View}
use Rattle.tera_state.specs.Engine.{Engine, OwnFilter, OwnFunction, Callee, own, built_in, filter_at, function_at}
use Rattle.tera_state.specs.Calling.{answer_of}
use Rattle.tera_meaning.specs.Marks.Origin.{is_markup}
use Rattle.tera_meaning.specs.Marks.Sources.{contents, safe_texts, safe_texts_of_answer, is_safe_filter, Sources}

-- it holds of all that the engine makes itself, which is no markup
pub record Claim : Type 1 where
  pub holds : Marked → Type 0
  pub of_escaped : (b : ℕ) → is_markup b ≡ false → holds (b, escaped)
  pub of_made : (b : ℕ) → is_markup b ≡ false → holds (b, made)

-- of each byte of a text with this mark, of a value's safe texts, and of those that an object
-- answers whatever it is given
abbrev pub TextHolds : Claim → Mark → Text → Type 0
TextHolds K mark t = AllByRecursion (λ b. K.holds (b, mark)) t

abbrev pub SafeTextsHold : Claim → List Text → Type 0
SafeTextsHold K ts = AllByRecursion (TextHolds K marked_safe) ts

abbrev pub ValueHolds : Claim → Val → Type 0
ValueHolds K v = SafeTextsHold K (safe_texts v)

abbrev pub NamesHold : Claim → Named Val → Type 0
NamesHold K vs = AllByRecursion (λ v. ValueHolds K v.1) vs

abbrev pub AnswerHolds : Claim → Result Val Fault → Type 0
AnswerHolds K answer = SafeTextsHold K (safe_texts_of_answer answer)

-- the filter `safe` marks any byte safe
abbrev pub FilterHolds : Claim → Option (Callee OwnFilter BuiltInFilter) → Type 0
FilterHolds K None = Unit {0}
FilterHolds K (Some (own o)) =
    (v : Val) (given : Named Val) (view : View) → AnswerHolds K (answer_of o.safe (o.meaning v given view))
FilterHolds K (Some (built_in f)) =
    IsTrue (is_safe_filter (Some (built_in f))) → (b : ℕ) → K.holds (b, marked_safe)

abbrev pub FunctionHolds : Claim → Option (Callee OwnFunction BuiltInFunction) → Type 0
FunctionHolds K None = Unit {0}
FunctionHolds K (Some (own o)) =
    (given : Named Val) (view : View) → AnswerHolds K (answer_of o.safe (o.meaning given view))
FunctionHolds K (Some (built_in f)) = Unit {0}

abbrev pub CalleeHolds : Claim → Engine → called.Callee → Type 0
CalleeHolds K engine (AFilter name) = FilterHolds K (filter_at engine name)
CalleeHolds K engine (AFunction name) = FunctionHolds K (function_at engine name)
CalleeHolds K engine (ATest name) = Unit {0}
CalleeHolds K engine (AComponent name) = Unit {0}
CalleeHolds K engine (ATemplate name) = Unit {0}

abbrev pub CallsHold : Claim → Engine → List called.Callee → Type 0
CallsHold K engine cs = AllByRecursion (CalleeHolds K engine) cs

-- of the texts of a body, and of what it calls
pub record BodyHolds (K : Claim) (engine : Engine) (body : Nodes) : Type 0 where
  pub texts : AllByRecursion (TextHolds K template) (contents body)
  pub calls_hold : CallsHold K engine (calls body)

pub record SourcesHold (K : Claim) (s : Sources) : Type 0 where
  pub bodies_hold : AllByRecursion (BodyHolds K s.engine) s.bodies
  pub values_hold : AllByRecursion (ValueHolds K) s.values
