use Rattle.std.proofs.Common.{◌≡◌, drop, map}
use Rattle.std.specs.Option.{option_or}
use Rattle.tera_errors.specs.Site.{Name}
use Rattle.tera_registry.specs.Places.{stands, place_from}
use Rattle.tera_registry.proofs.places.block_places.Given as goal

abbrev pub invariant-loop-position : goal.invariant-loop-position
invariant-loop-position l = (q : Name)
    → option_or (stands l.places q) (place_from q l.position (drop l.position (map (λ b. b.name) l.blocks))) ≡ place_from q 0 (map (λ b. b.name) l.blocks)
