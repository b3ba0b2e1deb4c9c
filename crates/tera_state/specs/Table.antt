-- Things by name, as they are kept.
use Rattle.std.specs.Prelude.{Bool, [], ◌∷◌, map, is_some, if◌then◌else◌, ◌||◌, string_bytes}
use Rattle.tera_errors.specs.Site.{Name}
use Rattle.tera_values.specs.Named.{Named, at_name, put}
use Rattle.tera_state.specs.declared.objects.table.ObjectTable.{ObjectTable}

-- the names with what stands at them, in byte order
abbrev pub listed : {X : Type 0} → ObjectTable X → Named X
listed t = map (λ e. (string_bytes e.0, e.1)) t.entries.entries

-- where these names stand for something without it
module _ {A : Type 0} (stands : Name → Bool) where
  -- one more, unless its name stands for something already
  abbrev pub more : Named A → Name × A → Named A
  more here e = if stands e.0 || is_some (at_name e.0 here) then here else put e.0 e.1 here

  -- each of the others in their order, unless its name stands for something already
  abbrev pub moved : Named A → Named A → Named A
  moved here [] = here
  moved here (e ∷ es) = moved (more here e) es
