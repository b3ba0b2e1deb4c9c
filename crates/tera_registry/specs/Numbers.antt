-- Blocks by the numbers of their bodies. A lineage is a list of such numbers.
use Rattle.std.specs.Prelude.{◌≡◌, ◌+◌, ℕ, suc, true, is_some, List, [], ◌∷◌, ◌++◌, length, map, get_or, bytes_eq, Option, Some, None, option_map, if◌then◌else◌}
use Rattle.std.specs.List.{filter_map, flat_map}
use Rattle.tera_errors.specs.Site.{Name}
use Rattle.tera_syntax_tree.specs.Tree.{Nodes}
use Rattle.tera_meaning.specs.Registry.{Entry, Registry}
use Rattle.tera_meaning.specs.Resolve.{entry_at}
use Rattle.tera_meaning.specs.Lineage.{Definer, ancestors, definers_in}
use Rattle.tera_registry.specs.declared.definers.BlockAt.{BlockAt}
use Rattle.tera_registry.specs.declared.body_table.LinkedBody.{LinkedBody as Linked}
use Rattle.tera_registry.specs.Bodies.{codes_of, start}
use Rattle.tera_registry.specs.Definers.{blocks_of, names_of}
use Rattle.tera_registry.specs.Places.{place_from}

-- the number of the body of the first block of a name in the template of a name
abbrev pub number_of : List Entry → Name → Name → Option ℕ
number_of [] template block = None
number_of (t ∷ ts) template block =
    if bytes_eq template t.0 then option_map suc (place_from block 0 (names_of t))
    else option_map (λ n. length (codes_of t) + n) (number_of ts template block)

-- the numbers of the bodies of a block in those of these templates that define it
abbrev pub lineage : Registry → Name → List Entry → List ℕ
lineage r block = filter_map (λ t. number_of r.templates t.0 block)

abbrev pub first_of : List ℕ → Option ℕ
first_of [] = None
first_of (n ∷ ns) = Some n

abbrev pub lineage_from : Registry → Name → Option Entry → List ℕ
lineage_from r block None = []
lineage_from r block (Some t) = lineage r block (t ∷ ancestors r t)

-- the number of the body with which the lineage of a block begins for a template
abbrev pub first_number : Registry → Name → Name → Option ℕ
first_number r template block = first_of (lineage_from r block (entry_at template r.templates))

-- a block with the template in whose text it stands
abbrev pub Standing : Type 0
Standing = Entry × (Name × Nodes)

abbrev pub name_of : Standing → Name
name_of p = p.1.0

-- whose bodies a template has: its own, then those of its blocks, then those of its components
abbrev pub blocks_in : Entry → List (Option Standing)
blocks_in t =
    None ∷ (map (λ b. Some (t, b)) (blocks_of t) ++ map (λ d. None) t.1.tree.definitions)

-- the block whose body has this number
abbrev pub block_at : List Entry → ℕ → Option Standing
block_at es n = get_or (flat_map blocks_in es) n None

abbrev pub IsBlock : List Entry → ℕ → Type 0
IsBlock es n = is_some (block_at es n) ≡ true

-- the number of a block that stands there
abbrev pub number_at : List Entry → BlockAt → ℕ
number_at es at = start es at.template + suc at.block

abbrev pub from_standing : Registry → Option Standing → List Definer
from_standing r None = []
from_standing r (Some p) =
    record { file = p.0.0; body = p.1.1 } ∷ definers_in p.1.0 (ancestors r p.0)

-- those who define a block, from the one on whose body has this number
abbrev pub from_number : Registry → ℕ → List Definer
from_number r n = from_standing r (block_at r.templates n)

-- nobody, where there is no number
abbrev pub from_first : Registry → Option ℕ → List Definer
from_first r None = []
from_first r (Some n) = from_number r n

-- the number of the next body above that defines the block
abbrev pub above_in : Registry → Option Standing → Option ℕ
above_in r None = None
above_in r (Some p) = first_of (lineage r p.1.0 (ancestors r p.0))

abbrev pub above_of : Linked → Option ℕ
above_of e = e.above

-- of each body the number of the next one above
abbrev pub aboves : Registry → List (Option ℕ)
aboves r = map (above_in r) (flat_map blocks_in r.templates)
