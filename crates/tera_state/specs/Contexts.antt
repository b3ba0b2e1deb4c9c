-- What is known of the names of contexts.
use Rattle.std.specs.Prelude.{◌≡◌, Option, Some, None, option_copied}
use Rattle.std.specs.Option.{option_or}
use Rattle.tera_values.specs.Val.{Val}
use Rattle.tera_values.specs.Named.{Named, at_name}
use Rattle.tera_state.specs.declared.contexts.CachedName.{CachedName}

-- what is kept in a slot is what the context has, or else the global one
abbrev pub IsCached : Named Val → Named Val → Option CachedName → Type 0
IsCached context global None = Unit {0}
IsCached context global (Some k) =
    option_copied k.value ≡ option_or (at_name k.name context) (at_name k.name global)
