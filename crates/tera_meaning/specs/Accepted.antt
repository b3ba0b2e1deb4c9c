-- Whether the templates of a registry go together.
use Rattle.std.specs.Prelude.{ℕ, zero, suc, Bool, true, false, ◌&&◌, ◌||◌, List, [], ◌∷◌, ◌++◌, length, Option, Some, None, is_some, Result, Ok, Err, if◌then◌else◌}
use Rattle.std.specs.List.{list_any, filter_map}
use Rattle.std.specs.Option.{option_or}
use Rattle.tera_errors.specs.Site.{Name}
use Rattle.tera_errors.specs.Fault.{Fault, message, circular_include}
use Rattle.tera_syntax_tree.specs.Blocks.{top_blocks}
use Rattle.tera_syntax_tree.specs.Calls.{Callee}
use Rattle.tera_meaning.specs.Registry.{Entry, Registry}
use Rattle.tera_meaning.specs.Resolve.{resolve, parents}
use Rattle.tera_meaning.specs.Known.{is_known, lacks_a_callee, included_names}
use Rattle.tera_meaning.specs.Components.{definer_of, has_a_tie}
use Rattle.tera_meaning.specs.Lineage.{Definer, ancestors, definers_in}

abbrev pub fault_of_parents : Result (List Entry) Fault → Option Fault
fault_of_parents (Ok ts) = None
fault_of_parents (Err fault) = Some fault

-- the templates that a template includes, as far as they are there
abbrev pub includes_of : Registry → Entry → List Entry
includes_of r t = filter_map (resolve r) (included_names t.1.tree)

-- whether so many includes lead from a template, each to the next
unfoldable pub can_walk : Registry → ℕ → Entry → Bool
can_walk r zero t = true
can_walk r (suc n) t = list_any (can_walk r n) (includes_of r t)

-- A walk of as many includes as there are templates meets one a second time.
abbrev pub leads_into_a_circle : Registry → Entry → Bool
leads_into_a_circle r t = can_walk r (length r.templates) t

abbrev pub fault_if : Bool → Fault → Option Fault
fault_if true fault = Some fault
fault_if false fault = None

-- the first fault of a template behind these: that of its parents, then that of its includes,
-- then that of its components
unfoldable pub template_fault : Registry → List Entry → Entry → Option Fault
template_fault r before t =
    option_or (fault_of_parents (parents r t))
    (option_or (fault_if (leads_into_a_circle r t) circular_include)
    (fault_if (has_a_tie r before t) message))

-- the first fault, template by template, behind these
unfoldable pub first_fault : Registry → List Entry → List Entry → Option Fault
first_fault r before [] = None
first_fault r before (t ∷ rest) =
    option_or (template_fault r before t) (first_fault r (before ++ t ∷ []) rest)

abbrev pub is_none_left : List Definer → Bool
is_none_left [] = true
is_none_left (d ∷ ds) = false

-- a block that no template above defines is never put out
abbrev pub is_lost : Registry → Entry → Name → Bool
is_lost r t block = is_none_left (definers_in block (ancestors r t))

-- whether a template extends another and has such a block, inside no other block
abbrev pub loses_a_block : Registry → Entry → Bool
loses_a_block r t = is_some t.1.tree.parent && list_any (is_lost r t) (top_blocks t.1.tree.nodes)

abbrev pub is_component : Registry → Name → Bool
is_component r name = is_some (definer_of r name)

abbrev pub is_template : Registry → Name → Bool
is_template r name = is_some (resolve r name)

-- whether what a template of a registry calls is there
abbrev pub knows : Registry → Callee → Bool
knows r = is_known r.engine (is_component r) (is_template r)

-- whether a template names what is not there
abbrev pub lacks_something : Registry → Entry → Bool
lacks_something r t = loses_a_block r t || lacks_a_callee (knows r) t.1.tree

-- what is not there of what templates name
unfoldable pub missing : Registry → Option Fault
missing r = if list_any (lacks_something r) r.templates then Some message else None

-- none where the registry is accepted
unfoldable pub fault : Registry → Option Fault
fault r = option_or (first_fault r [] r.templates) (missing r)
