-- What code takes that stands elsewhere, by the positions of its instructions.
use Rattle.std.specs.Prelude.{◌≡◌, ◌≢◌, ◌<◌, ℕ, suc, false, true, List, [], ◌∷◌, slice_get, Option, Some, None, option_map}
use Rattle.std.specs.List.{cons_option}
use Rattle.tera_code.specs.Code as in_chunk
use Rattle.tera_code.specs.Targets.{Target, TemplateNamed, ComponentNamed, target_in}
use Rattle.tera_registry.specs.declared.code.Take.{Take}

abbrev pub take_of : ℕ → Target → Take
take_of at (TemplateNamed name) = record { at = at; is_component = false; name = name }
take_of at (ComponentNamed name) = record { at = at; is_component = true; name = name }

-- what code takes whose first instruction stands at a position
abbrev pub takes_from : ℕ → in_chunk.Code → List Take
takes_from at [] = []
takes_from at (i ∷ code) =
    cons_option (option_map (take_of at) (target_in i)) (takes_from (suc at) code)

abbrev pub takes_of : in_chunk.Code → List Take
takes_of = takes_from 0

-- each stands before those behind it
abbrev pub Ascends : List Take → Type 0
Ascends takes =
    (j k : ℕ) (s t : Take) → j < k → slice_get takes j ≡ Some s → slice_get takes k ≡ Some t
    → s.at < t.at

-- which of them stands at a position, if one does
abbrev pub IsRank : List Take → ℕ → Option ℕ → Type 0
IsRank takes at None = (k : ℕ) (t : Take) → slice_get takes k ≡ Some t → t.at ≢ at
IsRank takes at (Some k) = (t : Take) × (slice_get takes k ≡ Some t) × (t.at ≡ at)
