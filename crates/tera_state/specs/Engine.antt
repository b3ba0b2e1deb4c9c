-- What an engine gives to every rendering: by what texts are escaped, and what filters, tests and
-- functions there are.
use Rattle.std.specs.Prelude.{Bool, [], Option, Some, None, is_some, Result}
use Rattle.tera_errors.specs.Site.{Name, Text}
use Rattle.tera_errors.specs.Fault.{Fault}
use Rattle.tera_values.specs.Escape.{escape_html}
use Rattle.tera_values.specs.Named.{Named, at_name, put}
use Rattle.tera_values.specs.Val.{Val}
use Rattle.tera_built_ins.specs.declared.built_in_filter.BuiltInFilter.{BuiltInFilter}
use Rattle.tera_built_ins.specs.declared.built_in_test.BuiltInTest.{BuiltInTest}
use Rattle.tera_built_ins.specs.declared.built_in_function.BuiltInFunction.{BuiltInFunction}
use Rattle.tera_built_ins.specs.Filters.{filter_named}
use Rattle.tera_built_ins.specs.TestTable.{test_named}
use Rattle.tera_built_ins.specs.FunctionTable.{function_named}
use Rattle.tera_state.specs.View.{View, NamedFilters}

-- a filter of the caller: what it makes of a value and arguments, where it sees this of the
-- rendering, and whether its texts are marked safe
pub record OwnFilter : Type 0 where
  pub meaning : Val → Named Val → View → Result Val Fault
  pub safe : Bool

-- a test of the caller: whether it holds
pub record OwnTest : Type 0 where
  pub meaning : Val → Named Val → View → Result Bool Fault

-- a function of the caller
pub record OwnFunction : Type 0 where
  pub meaning : Named Val → View → Result Val Fault
  pub safe : Bool

-- the escape, and what the caller registered by name, over what is built in
pub record Engine : Type 0 where
  pub escape : Text → Text
  pub filters : Named OwnFilter
  pub tests : Named OwnTest
  pub functions : Named OwnFunction

-- an engine to which nothing was registered
abbrev pub standard_engine : Engine
standard_engine = record { escape = escape_html; filters = []; tests = []; functions = [] }

-- what a name stands for: an object of the caller, or something built in
pub data Callee (O B : Type 0) : Type 0 where
  own : O → Callee O B
  built_in : B → Callee O B

-- the caller's own goes before what is built in
abbrev pub own_or_built_in : {O B : Type 0} → Option O → Option B → Option (Callee O B)
own_or_built_in (Some o) b = Some (own o)
own_or_built_in None (Some b) = Some (built_in b)
own_or_built_in None None = None

abbrev pub filter_at : Engine → Name → Option (Callee OwnFilter BuiltInFilter)
filter_at engine name = own_or_built_in (at_name name engine.filters) (filter_named name)

abbrev pub test_at : Engine → Name → Option (Callee OwnTest BuiltInTest)
test_at engine name = own_or_built_in (at_name name engine.tests) (test_named name)

abbrev pub function_at : Engine → Name → Option (Callee OwnFunction BuiltInFunction)
function_at engine name = own_or_built_in (at_name name engine.functions) (function_named name)

abbrev pub has_filter : Engine → Name → Bool
has_filter engine name = is_some (filter_at engine name)

abbrev pub has_test : Engine → Name → Bool
has_test engine name = is_some (test_at engine name)

abbrev pub has_function : Engine → Name → Bool
has_function engine name = is_some (function_at engine name)

-- what a name stands for where it is built in, and no filter of the caller has the name
abbrev pub built_in_unless : {O B : Type 0} → Option O → Option B → Option B
built_in_unless (Some o) b = None
built_in_unless None b = b

-- the names that stand for built-in filters
abbrev pub built_in_filters : Engine → NamedFilters
built_in_filters engine name = built_in_unless (at_name name engine.filters) (filter_named name)

-- a filter is registered at a name, in place of what the name stood for
abbrev pub with_filter : Name → OwnFilter → Engine → Engine
with_filter name filter engine = record engine { filters = put name filter engine.filters }

abbrev pub with_test : Name → OwnTest → Engine → Engine
with_test name test engine = record engine { tests = put name test engine.tests }

abbrev pub with_function : Name → OwnFunction → Engine → Engine
with_function name function engine =
    record engine { functions = put name function engine.functions }

abbrev pub with_escape : (Text → Text) → Engine → Engine
with_escape escape engine = record engine { escape = escape }
