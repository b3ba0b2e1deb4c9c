-- Filters that are built in.
use Rattle.std.proofs.Common.{◌≡◌, Bool, None, Some, sym, ap₂}
use Rattle.tera_errors.specs.Site.{Name}
use Rattle.tera_values.specs.Alphabet.{plain}
use Rattle.tera_values.specs.Named.{Named, at_name}
use Rattle.tera_values.specs.Val.{Val}
use Rattle.tera_built_ins.specs.declared.built_in_filter.BuiltInFilter.{BuiltInFilter}
use Rattle.tera_built_ins.specs.Filters.{filter_named, filter_of}
use Rattle.tera_state.specs.Scope.{Around, Variables}
use Rattle.tera_state.specs.BuiltIn.{escaping_by}
use Rattle.tera_state.specs.Calling.{filter_called, filtered_by, seen_in}
use Rattle.tera_state.specs.Engine.{Engine, own_or_built_in}

-- what the name of one stands for where the caller registered no other
pub filtered_is : (engine : Engine) (around : Around) (vars : Variables) (autoescape : Bool) (name : Name) (filter : BuiltInFilter) (v : Val) (given : Named Val) → at_name name engine.filters ≡ None → filter_named name ≡ Some filter
    → filter_of plain (escaping_by engine autoescape) filter v given ≡ filtered_by plain engine (seen_in plain engine around vars autoescape) name v given
filtered_is engine around vars autoescape name filter v given lone named =
    ap₂ (λ own b. filter_called plain (seen_in plain engine around vars autoescape) (own_or_built_in own b) v given) (sym lone) (sym named)
