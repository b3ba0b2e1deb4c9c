use Rattle.tera_value_types.specs.Val.{map, entries}
use Rattle.tera_value_types.proofs.Same.{plain_from_same, same_from_plain, finds_from_plain, plain_from_finds}
use Rattle.tera_value_types.proofs.laws.maps_are_finite.Goals as goal

pub returns : goal.returns
returns c = λ es fs. (λ h. finds_from_plain es fs (plain_from_same (map (entries es)) (map (entries fs)) h), λ h. same_from_plain (map (entries es)) (map (entries fs)) (plain_from_finds es fs h))
