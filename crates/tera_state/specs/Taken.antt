-- The names of built-in filters that filters of the caller took.
use Rattle.std.specs.Prelude.{◌≡◌, Bool, true, List, is_some}
use Rattle.std.specs.List.{list_any}
use Rattle.std.specs.Str.{bytes_eq}
use Rattle.tera_errors.specs.Site.{Name}
use Rattle.tera_values.specs.Named.{Named, at_name}
use Rattle.tera_built_ins.specs.Filters.{filter_named}

-- the name of a built-in filter
abbrev pub is_built_in : Name → Bool
is_built_in n = is_some (filter_named n)

-- Of the names of built-in filters these are the ones at which something stands.
abbrev pub AreTaken : {F : Type 0} → List Name → Named F → Type 0
AreTaken taken here =
    (n : Name) → is_built_in n ≡ true → list_any (bytes_eq n) taken ≡ is_some (at_name n here)
