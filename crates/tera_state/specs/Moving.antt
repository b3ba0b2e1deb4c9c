-- What is moved from one engine to another.
use Rattle.std.specs.Prelude.{◌≡◌, ℕ, take, is_some}
use Rattle.tera_values.specs.Named.{Named}
use Rattle.tera_built_ins.specs.Filters.{filter_named}
use Rattle.tera_built_ins.specs.TestTable.{test_named}
use Rattle.tera_built_ins.specs.FunctionTable.{function_named}
use Rattle.tera_state.specs.Engine.{Engine, OwnFilter, OwnTest, OwnFunction}
use Rattle.tera_state.specs.Table.{moved}

-- filters whose names stand for no filter here
abbrev pub with_filters : Named OwnFilter → Engine → Engine
with_filters others engine =
    record engine { filters = moved (λ n. is_some (filter_named n)) engine.filters others }

abbrev pub with_tests : Named OwnTest → Engine → Engine
with_tests others engine =
    record engine { tests = moved (λ n. is_some (test_named n)) engine.tests others }

abbrev pub with_functions : Named OwnFunction → Engine → Engine
with_functions others engine =
    record engine { functions = moved (λ n. is_some (function_named n)) engine.functions others }

-- all that are not here: filters, then tests, then functions, each in byte order of the names
abbrev pub with_those_of : Engine → Engine → Engine
with_those_of other engine =
    with_functions other.functions (with_tests other.tests (with_filters other.filters engine))

-- Want of memory may leave the first of them moved, up to some filter, some test or some function.
pub data MovedInPart (other engine left : Engine) : Type 0 where
  to_a_filter : (k : ℕ) → left ≡ with_filters (take k other.filters) engine
      → MovedInPart other engine left
  to_a_test : (k : ℕ) → left ≡ with_tests (take k other.tests) (with_filters other.filters engine)
      → MovedInPart other engine left
  to_a_function : (k : ℕ)
      → left ≡ with_functions (take k other.functions)
      (with_tests other.tests (with_filters other.filters engine))
      → MovedInPart other engine left
