use Rattle.std.proofs.Common.{◌≡◌, drop}
use Rattle.std.specs.Option.{option_or}
use Rattle.tera_errors.specs.Site.{Name}
use Rattle.tera_registry.specs.Components.{kept_names}
use Rattle.tera_registry.specs.Places.{stands, place_from}
use Rattle.tera_registry.proofs.places.component_places.Given as goal

abbrev pub invariant-loop-position : goal.invariant-loop-position
invariant-loop-position l = (q : Name)
    → option_or (stands l.places q) (place_from q l.position (drop l.position (kept_names l.components))) ≡ place_from q 0 (kept_names l.components)
