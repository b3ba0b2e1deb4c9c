-- All markup of a rendering is trusted, whatever the rendering is made of.
use Rattle.std.proofs.Common.{◌≡◌, ℕ, true, false, IsTrue, List, refl, sym, subst, Option, Some, None, Result}
use Rattle.std.specs.List.{AllByRecursion}
use Rattle.tera_errors.specs.Site.{Name, Text}
use Rattle.tera_errors.specs.Fault.{Fault}
use Rattle.tera_syntax_tree.specs.Tree.{Nodes}
use Rattle.tera_syntax_tree.specs.Calls as called
use Rattle.tera_syntax_tree.specs.Calls.{AFilter, ATest, AFunction, AComponent, ATemplate, calls}
use Rattle.tera_values.specs.Alphabet.{Mark, template, marked_safe, escaped, made, Marked}
use Rattle.tera_built_ins.specs.declared.built_in_filter.BuiltInFilter.{BuiltInFilter}
use Rattle.tera_built_ins.specs.declared.built_in_function.BuiltInFunction.{BuiltInFunction}
use Rattle.tera_state.specs.Engine.{Engine, OwnFilter, OwnFunction, Callee, own, built_in, filter_at, function_at}
use Rattle.tera_meaning.specs.Registry.{Entry, Registry}
use Rattle.tera_meaning.specs.Resolve.{resolve}
use Rattle.tera_meaning.specs.Rendering.{autoescapes}
use Rattle.tera_meaning.specs.Marks.Origin.{is_markup, is_trusted, IsTrusted, Traces, MarkupIsTraced, TemplatesAreTraced, BlocksAreTraced, ComponentsAreTraced}
use Rattle.tera_state.specs.Calling.{answer_of}
use Rattle.tera_meaning.specs.Marks.Sources.{contents, safe_texts, safe_texts_of_answer, Sources}
use Rattle.tera_meaning.specs.Marks.Renderings.{of_text, of_template, of_block, of_component, found_escapes, sources}
use Rattle.tera_meaning.proofs.Marks.All.{all-always}
use Rattle.tera_meaning.proofs.Marks.Claim.{Claim, TextHolds, SafeTextsHold, ValueHolds, FilterHolds, FunctionHolds, CalleeHolds, BodyHolds, SourcesHold}
use Rattle.tera_meaning.proofs.Marks.Each.{Each, none, more}
use Rattle.tera_meaning.proofs.Marks.Standing.{Bears, seen-is, answers, refuses}
use Rattle.tera_meaning.proofs.Marks.Renderings.{TextStands, rendering-stands}

-- what is no markup may have any mark
no_markup : (mark : Mark) (b : ℕ) → is_markup b ≡ false → IsTrusted (b, mark)
no_markup mark b h = λ i. absurd (differ i)
  where
    differ : IsTrue (is_markup b) → ⊥
    differ i = cc

-- and a trusted mark may be at any byte
trusted_mark : (mark : Mark) → IsTrue (is_trusted mark) → (b : ℕ) → IsTrusted (b, mark)
trusted_mark mark h b = λ i. h

abbrev trusted : Claim
trusted = record { holds = IsTrusted; of_escaped = no_markup escaped; of_made = no_markup made }

texts-hold : (mark : Mark) → IsTrue (is_trusted mark) → (t : Text) → TextHolds trusted mark t
texts-hold mark h t = all-always (λ b. IsTrusted (b, mark)) (trusted_mark mark h) t

safe_texts-hold : (ts : List Text) → SafeTextsHold trusted ts
safe_texts-hold ts = all-always (TextHolds trusted marked_safe) (texts-hold marked_safe refl) ts

filter-holds : (o : Option (Callee OwnFilter BuiltInFilter)) → FilterHolds trusted o
filter-holds None = tt
filter-holds (Some (own o)) = λ v given view. safe_texts-hold (safe_texts_of_answer (answer_of o.safe (o.meaning v given view)))
filter-holds (Some (built_in f)) = λ i b. trusted_mark marked_safe refl b

function-holds : (o : Option (Callee OwnFunction BuiltInFunction)) → FunctionHolds trusted o
function-holds None = tt
function-holds (Some (own o)) = λ given view. safe_texts-hold (safe_texts_of_answer (answer_of o.safe (o.meaning given view)))
function-holds (Some (built_in f)) = tt

callee-holds : (engine : Engine) (c : called.Callee) → CalleeHolds trusted engine c
callee-holds engine (AFilter name) = filter-holds (filter_at engine name)
callee-holds engine (ATest name) = tt
callee-holds engine (AFunction name) = function-holds (function_at engine name)
callee-holds engine (AComponent name) = tt
callee-holds engine (ATemplate name) = tt

body-holds : (engine : Engine) (body : Nodes) → BodyHolds trusted engine body
body-holds engine body = record {
  texts = all-always (TextHolds trusted template) (texts-hold template refl) (contents body);
  calls_hold = all-always (CalleeHolds trusted engine) (callee-holds engine) (calls body);
}

sources-hold : (s : Sources) → SourcesHold trusted s
sources-hold s = record {
  bodies_hold = all-always (BodyHolds trusted s.engine) (body-holds s.engine) s.bodies;
  values_hold = all-always (ValueHolds trusted) (λ v. safe_texts-hold (safe_texts v)) s.values;
}

all-trusted : {t : List Marked} {u : List ℕ} → Each (Bears trusted true) t u → AllByRecursion IsTrusted t
all-trusted none = tt
all-trusted (more r rs) = (r.claimed, all-trusted rs)

traces : {x : Result (List Marked) Fault} {y : Result Text Fault} → TextStands trusted x y → Traces x y
traces (answers rs) = record { same = seen-is true rs; trusted = all-trusted rs }
traces (refuses fault) = refl

pub markup_is_traced : MarkupIsTraced
markup_is_traced r reading context by_html =
    let call = of_text reading context true in
    traces (rendering-stands trusted r call by_html refl (sources-hold (sources r call)))

found : (r : Registry) (name : Name) (t : Entry) → resolve r name ≡ Some t → IsTrue (autoescapes r t.0) → IsTrue (found_escapes r (resolve r name))
found r name t there on = subst (λ o. IsTrue (found_escapes r o)) (sym there) on

pub templates_are_traced : TemplatesAreTraced
templates_are_traced r name context t by_html there on =
    let call = of_template name context in
    traces (rendering-stands trusted r call by_html (found r name t there on) (sources-hold (sources r call)))

pub blocks_are_traced : BlocksAreTraced
blocks_are_traced r name block context t by_html there on =
    let call = of_block name block context in
    traces (rendering-stands trusted r call by_html (found r name t there on) (sources-hold (sources r call)))

pub components_are_traced : ComponentsAreTraced
components_are_traced r name given implicits body by_html =
    let call = of_component name given implicits body true in
    traces (rendering-stands trusted r call by_html refl (sources-hold (sources r call)))
