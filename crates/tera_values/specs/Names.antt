-- The entries of a map from names, in byte order of these.
use Rattle.std.specs.Prelude.{[], ◌∷◌}
use Rattle.tera_values.specs.Named.{Named, put}

-- the entries put one by one
abbrev pub by_name : {A : Type 0} → Named A → Named A
by_name [] = []
by_name (e ∷ es) = put e.0 e.1 (by_name es)
