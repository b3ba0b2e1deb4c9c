-- What an object of the caller sees of a rendering, and what that makes of a value.
use Rattle.std.specs.Prelude.{Bool, if◌then◌else◌, List, Option, Some, None, option_map, unwrap_or, Result, Ok, Err}
use Rattle.std.specs.Borrow.{Bor}
use Rattle.std.specs.List.{list_any}
use Rattle.std.specs.Str.{bytes_eq}
use Rattle.tera_errors.specs.Site.{Name, Text}
use Rattle.tera_errors.specs.Fault.{Fault}
use Rattle.tera_values.specs.Val.{Val, undefined}
use Rattle.tera_values.specs.Named.{Named, at_name}
use Rattle.tera_values.specs.Access.{is_undefined}
use Rattle.tera_values.specs.Arguments.{unless_undefined}
use Rattle.tera_built_ins.specs.declared.built_in_filter.BuiltInFilter.{BuiltInFilter}
use Rattle.tera_built_ins.specs.Escaping.{Escaping, escape_or_html}
use Rattle.tera_built_ins.specs.Filters.{filter_named}
use Rattle.tera_state.specs.FoundNames.{names_in, found_among, found_names, IsMapOf}
use Rattle.tera_state.specs.Rendered.{rendered}
use Rattle.tera_state.specs.Scope.{Around, Variables, look}
use Rattle.tera_state.specs.Scopes.{around_of, variables_of}
use Rattle.tera_state.specs.declared.state.StateSource.{StateSource}
use Rattle.tera_state.specs.declared.state.StateSource.TheVariants.{Context, Scopes}
use Rattle.tera_state.specs.declared.state.StateOver.{StateOver}

-- names with the built-in filters that they stand for
abbrev pub NamedFilters : Type 0
NamedFilters = Name → Option BuiltInFilter

-- the look-up, which gives undefined where nothing binds the name; whether text is escaped; the
-- escape; and the built-in filters
pub record View : Type 0 where
  pub look : Name → Val
  pub autoescape : Bool
  pub escape : Text → Text
  pub filters : NamedFilters

-- the view where these are the variables, with this around them
abbrev pub view_at : Around → Variables → Bool → (Text → Text) → NamedFilters → View
view_at around variables autoescape escape filters =
    record {
      look = λ name. look name around variables;
      autoescape = autoescape;
      escape = escape;
      filters = filters;
    }

-- the built-in filters without those whose names are taken; none at all where there are no filters
abbrev pub filters_left : Option (List Name) → NamedFilters
filters_left None name = None
filters_left (Some taken) name = if list_any (bytes_eq name) taken then None else filter_named name

-- what a name stands for in a context alone, or in the scopes of a rendering
abbrev pub look_in_source : StateSource → Name → Val
look_in_source (Context context) name = unwrap_or (at_name name context.now) undefined
look_in_source (Scopes scopes) name = look name (around_of scopes.now) (variables_of scopes.now)

-- the names that are found there, each with its value
abbrev pub names_in_source : StateSource → Named Val
names_in_source (Context context) =
    found_among (look_in_source (Context context)) (names_in context.now)
names_in_source (Scopes scopes) = found_names (around_of scopes.now) (variables_of scopes.now)

-- what a state finds by name is a finite map
abbrev pub StateNamesAreAMap : Type 0
StateNamesAreAMap = (source : StateSource) → IsMapOf (look_in_source source) (names_in_source source)

abbrev pub lent_names : Option (Bor (List Name)) → Option (List Name)
lent_names = option_map (λ names. names.now)

-- the view of a state, where escapes have these meanings
abbrev pub view_of : {E : Type 0} → (E → Text → Text) → StateOver E → View
view_of meaning s =
    record {
      look = look_in_source s.source;
      autoescape = s.autoescape;
      escape = escape_or_html meaning s.escape;
      filters = filters_left (lent_names s.taken);
    }

-- what a built-in sees of it
abbrev pub escaping_in : View → Escaping
escaping_in view = record { autoescape = view.autoescape; escape = view.escape }

abbrev pub written : View → Val → Text
written view v = rendered view.autoescape view.escape v

-- the same of a value that is defined; undefined is refused
abbrev pub escaped_if_needed : View → Val → Result Text Fault
escaped_if_needed view v = unless_undefined (written view) v

abbrev pub some_of : {A : Type 0} → Result A Fault → Result (Option A) Fault
some_of (Ok a) = Ok (Some a)
some_of (Err fault) = Err fault

-- undefined is read as none
abbrev pub read_defined : (Val → Result Val Fault) → Val → Result (Option Val) Fault
read_defined reading v = if is_undefined v then Ok None else some_of (reading v)
