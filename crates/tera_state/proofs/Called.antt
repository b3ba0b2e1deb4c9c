-- Calls with values of bytes.
use Rattle.std.proofs.Common.{◌≡◌, ◌||◌, is_some, Bool, false, List, [], ◌∷◌, Option, Some, None, option_map, Result, Err, refl, sym, ap, ap₂, subst, ◌∙◌}
use Rattle.tera_errors.specs.Fault.{Fault, message}
use Rattle.tera_errors.specs.Answer.{SeenError, Says, Tells, Gives}
use Rattle.tera_values.specs.Alphabet.{plain}
use Rattle.tera_values.specs.Escape.{escape_html}
use Rattle.tera_errors.specs.Site.{Name, Text}
use Rattle.tera_values.specs.Named.{Named, at_name}
use Rattle.tera_values.specs.Val.{Val}
use Rattle.tera_built_ins.specs.declared.built_in_filter.BuiltInFilter.{BuiltInFilter}
use Rattle.tera_built_ins.specs.declared.built_in_test.BuiltInTest.{BuiltInTest}
use Rattle.tera_built_ins.specs.declared.built_in_function.BuiltInFunction.{BuiltInFunction}
use Rattle.tera_built_ins.specs.Escaping.{escape_or_html}
use Rattle.tera_state.specs.Scope.{Around, Variables}
use Rattle.tera_state.specs.Scopes.{around_of, variables_of}
use Rattle.tera_state.specs.View.{View, NamedFilters, view_at, filters_left}
use Rattle.tera_state.specs.Calling.{answer_of, all_bare, filter_called, test_called, function_called}
use Rattle.tera_state.specs.Called.{seen, filtered, tested, called}
use Rattle.tera_state.specs.declared.objects.object_call.ObjectCall.{ObjectCall}
use Rattle.tera_state.specs.Engine.{Engine, OwnFilter, OwnTest, OwnFunction, Callee, own, built_in, own_or_built_in, filter_at, test_at, function_at}
use Rattle.tera_state.specs.Kept.{Meanings, each, engine_of}
use Rattle.tera_state.specs.Stored.{callee_of, filter_answer, test_answer, function_answer, is_marked}
use Rattle.tera_state.specs.declared.objects.stored.Stored.{Stored}
use Rattle.tera_state.specs.declared.objects.stored.Stored.TheVariants.{BuiltIn, Own}
use Rattle.tera_state.specs.Table.{listed}
use Rattle.tera_state.specs.declared.objects.caller_objects.ObjectsOver.{ObjectsOver}
use Rattle.tera_state.proofs.Each.{at-each, is_some-map}
use Rattle.tera_state.proofs.Registered.{engine}
use Rattle.tera_state.proofs.Taken.{left}

-- values of bytes have no marks
pub all_bare-plain : (given : Named Val) → all_bare plain given ≡ given
all_bare-plain [] = refl
all_bare-plain (e ∷ es) = ap (λ (l : Named Val). e ∷ l) (all_bare-plain es)

-- what is stored answers what is called
bare-given : {A : Type 0} (f : Named Val → A) (given : Named Val) → f given ≡ f (all_bare plain given)
bare-given f given = ap f (sym (all_bare-plain given))

module _ {X : Type 0} (view : View) (given : Named Val) where
  pub filter-answers : (filter : X → OwnFilter) (f : Stored BuiltInFilter X) (v : Val)
      → answer_of (is_marked (λ x. (filter x).safe) f) (filter_answer (λ x. (filter x).meaning) view f v given) ≡ filter_called plain view (Some (callee_of filter f)) v given
  filter-answers filter (BuiltIn b) v = refl
  filter-answers filter (Own x) v = bare-given (λ l. answer_of (filter x.now).safe ((filter x.now).meaning v l view)) given

  pub test-answers : (test : X → OwnTest) (t : Stored BuiltInTest X) (v : Val) → test_answer (λ x. (test x).meaning) view t v given ≡ test_called plain view (Some (callee_of test t)) v given
  test-answers test (BuiltIn b) v = refl
  test-answers test (Own x) v = bare-given (λ l. (test x.now).meaning v l view) given

  pub function-answers : (function : X → OwnFunction) (f : Stored BuiltInFunction X)
      → answer_of (is_marked (λ x. (function x).safe) f) (function_answer (λ x. (function x).meaning) view f given) ≡ function_called plain view (Some (callee_of function f)) given
  function-answers function (BuiltIn b) = refl
  function-answers function (Own x) = bare-given (λ l. answer_of (function x.now).safe ((function x.now).meaning l view)) given

-- whether a name stands for something
pub either-there : {O B : Type 0} (o : Option O) (b : Option B) → is_some (own_or_built_in o b) ≡ (is_some b || is_some o)
either-there (Some o) (Some b) = refl
either-there (Some o) None = refl
either-there None (Some b) = refl
either-there None None = refl

pub known-by : {A O B : Type 0} (meaning : A → O) (n : Name) (here : Named A) (b : Option B) → is_some (own_or_built_in (at_name n (each meaning here)) b) ≡ (is_some b || is_some (at_name n here))
known-by meaning n here b =
    either-there (at_name n (each meaning here)) b
    ∙ ap (λ t. is_some b || t) (ap is_some (at-each meaning n here) ∙ is_some-map meaning (at_name n here))

-- a refusal in words
told-says : {Y : Type 0} (e : SeenError) (meant : Result Y Fault) → Tells e message → Err message ≡ meant → Says e meant
told-says None meant told is = tt
told-says (Some fault) meant told is = sym is ∙ ap Err (sym told)

-- what a name stands for
without-own : {O B : Type 0} (b : Option B) → own_or_built_in {O = O} None b ≡ option_map built_in b
without-own None = refl
without-own (Some x) = refl

module _ {A O B : Type 0} (meaning : A → O) (n : Name) (here : Named A) (b : Option B) where
  pub finds-own : (a : A) → Some a ≡ at_name n here → Some (own (meaning a)) ≡ own_or_built_in (at_name n (each meaning here)) b
  finds-own a is = ap (λ (o : Option O). own_or_built_in o b) (ap (option_map meaning) is ∙ sym (at-each meaning n here))

  pub finds-built_in : (r : Option B) → r ≡ b → None ≡ at_name n here → option_map built_in r ≡ own_or_built_in (at_name n (each meaning here)) b
  finds-built_in r same absent =
      ap (option_map built_in) same ∙ sym (without-own b)
      ∙ ap (λ (o : Option O). own_or_built_in o b) (ap (option_map meaning) absent ∙ sym (at-each meaning n here))

-- where objects have no box, texts are escaped by `escape_html`
html : {E : Type 0} (kept : Option E) → escape_or_html (λ (e : E). escape_html) kept ≡ escape_html
html None = refl
html (Some e) = refl

-- what such an object is lent, where the names that are taken are those that are kept
pub lent-html : {E : Type 0} (around : Around) (variables : Variables) (autoescape : Bool) (kept : Option E) (lent taken : List Name) → lent ≡ taken
    → view_at around variables autoescape escape_html (filters_left (Some lent)) ≡ view_at around variables autoescape (escape_or_html (λ (e : E). escape_html) kept) (filters_left (Some taken))
lent-html around variables autoescape kept lent taken names =
    ap₂ (λ (e : Text → Text) (ns : List Name). view_at around variables autoescape e (filters_left (Some ns))) (sym (html kept)) names

-- what a call answers
module _ {E F T G : Type 0} (escape : E → Text → Text) (filter : F → OwnFilter) (o : ObjectsOver E F T G) (call : ObjectCall) where
  -- an engine whose escape and filters are those that are kept, which mean this
  abbrev engine_with : Named OwnTest → Named OwnFunction → Engine
  engine_with tests functions =
      engine (escape_or_html escape o.escape) (each filter (listed o.filters.table)) tests functions

  -- the view there, of which tests and functions are no part
  abbrev here : View
  here = seen (engine_with [] []) call

  -- and as it is lent
  abbrev lent_with : NamedFilters → View
  lent_with filters =
      view_at (around_of call.scopes.now) (variables_of call.scopes.now) call.autoescape (escape_or_html escape o.escape) filters

  abbrev lent : View
  lent = lent_with (filters_left (Some o.filters.taken.items))

  lent-here : {s : View} → s ≡ lent → s ≡ here
  lent-here same =
      same
      ∙ ap lent_with (left filter o.filters.taken.items (listed o.filters.table) o.filters.are_taken)

  -- what the caller has of the other kinds, of which nothing is asked
  abbrev any_test : T → OwnTest
  any_test t = record { meaning = λ v given view. Err message }

  abbrev any_function : G → OwnFunction
  any_function g = record { meaning = λ given view. Err message; safe = false }

  module _ (v : Val) (r : Option (Stored BuiltInFilter F))
      (found : (m : Meanings E F T G) → option_map (callee_of m.filter) r ≡ filter_at (engine_of m o) call.name.now) where
    abbrev filter-at : option_map (callee_of filter) r ≡ filter_at (engine_with [] []) call.name.now
    filter-at = found (record { escape = escape; filter = filter; test = any_test; function = any_function })

    pub filter-stored : (result : Result Val SeenError) {s : View} {f : Stored BuiltInFilter F} {b : Bool} → s ≡ lent → r ≡ Some f → b ≡ is_marked (λ x. (filter x).safe) f
        → Gives (λ (a : Val). a) result (answer_of b (filter_answer (λ x. (filter x).meaning) s f v call.arguments)) → Gives (λ (a : Val). a) result (filtered (engine_with [] []) call v)
    filter-stored result {s} {f} same is marks gives =
        subst (λ (meant : Result Val Fault). Gives (λ (a : Val). a) result meant)
        (ap₂ (λ (b : Bool) (w : View). answer_of b (filter_answer (λ x. (filter x).meaning) w f v call.arguments)) marks (lent-here same)
        ∙ filter-answers here call.arguments filter f v
        ∙ ap (λ (c : Option (Callee OwnFilter BuiltInFilter)). filter_called plain here c v call.arguments) (sym (ap (option_map (callee_of filter)) is) ∙ filter-at))
        gives

    pub no-filter : (e : SeenError) → r ≡ None → Tells e message → Says e (filtered (engine_with [] []) call v)
    no-filter e is told =
        told-says e (filtered (engine_with [] []) call v) told
        (ap (λ (c : Option (Callee OwnFilter BuiltInFilter)). filter_called plain here c v call.arguments) (sym (ap (option_map (callee_of filter)) is) ∙ filter-at))

  module _ (test : T → OwnTest) (v : Val) (r : Option (Stored BuiltInTest T))
      (found : (m : Meanings E F T G) → option_map (callee_of m.test) r ≡ test_at (engine_of m o) call.name.now) where
    abbrev tests : Named OwnTest
    tests = each test (listed o.tests)

    abbrev test-at : option_map (callee_of test) r ≡ test_at (engine_with tests []) call.name.now
    test-at = found (record { escape = escape; filter = filter; test = test; function = any_function })

    pub test-stored : (result : Result Bool SeenError) {s : View} {t : Stored BuiltInTest T} → s ≡ lent → r ≡ Some t
        → Gives (λ (b : Bool). b) result (test_answer (λ x. (test x).meaning) s t v call.arguments) → Gives (λ (b : Bool). b) result (tested (engine_with tests []) call v)
    test-stored result {s} {t} same is gives =
        subst (λ (meant : Result Bool Fault). Gives (λ (b : Bool). b) result meant)
        (ap (λ (w : View). test_answer (λ x. (test x).meaning) w t v call.arguments) (lent-here same)
        ∙ test-answers here call.arguments test t v
        ∙ ap (λ (c : Option (Callee OwnTest BuiltInTest)). test_called plain here c v call.arguments) (sym (ap (option_map (callee_of test)) is) ∙ test-at))
        gives

    pub no-test : (e : SeenError) → r ≡ None → Tells e message → Says e (tested (engine_with tests []) call v)
    no-test e is told =
        told-says e (tested (engine_with tests []) call v) told
        (ap (λ (c : Option (Callee OwnTest BuiltInTest)). test_called plain here c v call.arguments) (sym (ap (option_map (callee_of test)) is) ∙ test-at))

  module _ (function : G → OwnFunction) (r : Option (Stored BuiltInFunction G))
      (found : (m : Meanings E F T G) → option_map (callee_of m.function) r ≡ function_at (engine_of m o) call.name.now) where
    abbrev functions : Named OwnFunction
    functions = each function (listed o.functions)

    abbrev function-at : option_map (callee_of function) r ≡ function_at (engine_with [] functions) call.name.now
    function-at = found (record { escape = escape; filter = filter; test = any_test; function = function })

    pub function-stored : (result : Result Val SeenError) {s : View} {f : Stored BuiltInFunction G} {b : Bool} → s ≡ lent → r ≡ Some f → b ≡ is_marked (λ x. (function x).safe) f
        → Gives (λ (a : Val). a) result (answer_of b (function_answer (λ x. (function x).meaning) s f call.arguments)) → Gives (λ (a : Val). a) result (called (engine_with [] functions) call)
    function-stored result {s} {f} same is marks gives =
        subst (λ (meant : Result Val Fault). Gives (λ (a : Val). a) result meant)
        (ap₂ (λ (b : Bool) (w : View). answer_of b (function_answer (λ x. (function x).meaning) w f call.arguments)) marks (lent-here same)
        ∙ function-answers here call.arguments function f
        ∙ ap (λ (c : Option (Callee OwnFunction BuiltInFunction)). function_called plain here c call.arguments) (sym (ap (option_map (callee_of function)) is) ∙ function-at))
        gives

    pub no-function : (e : SeenError) → r ≡ None → Tells e message → Says e (called (engine_with [] functions) call)
    no-function e is told =
        told-says e (called (engine_with [] functions) call) told
        (ap (λ (c : Option (Callee OwnFunction BuiltInFunction)). function_called plain here c call.arguments) (sym (ap (option_map (callee_of function)) is) ∙ function-at))
