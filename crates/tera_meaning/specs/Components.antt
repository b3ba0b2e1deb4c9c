-- Which template defines a component.
use Rattle.std.specs.Prelude.{◌≡◌, ℕ, suc, Bool, nat_lt, nat_eq, ◌&&◌, not, List, [], ◌∷◌, filter, Option, Some, None, is_some, option_map, option_and_then, unwrap_or, bytes_eq, codes, if◌then◌else◌}
use Rattle.std.specs.List.{list_any, starts_with, position}
use Rattle.std.specs.List.Sorted.{IsStrictlySortedBy}
use Rattle.tera_errors.specs.Site.{Name}
use Rattle.tera_syntax_tree.specs.Tree.{Signature, Nodes}
use Rattle.tera_syntax_tree.specs.Blocks.{is_among}
use Rattle.tera_syntax_tree.specs.Definitions.{component_names}
use Rattle.tera_values.specs.Named.{name_cmp}
use Rattle.tera_meaning.specs.Registry.{Entry, Registry}

-- a component as one template defines it: the template in whose text it stands, what it is given,
-- and its body
pub record Component : Type 0 where
  pub file : Name
  pub signature : Signature
  pub body : Nodes

-- that of this name among those that a template defines
abbrev pub component_named : Name → Name → List (Signature × Nodes) → Option Component
component_named file name [] = None
component_named file name (d ∷ ds) =
    if bytes_eq name d.0.name then Some (record { file = file; signature = d.0; body = d.1 })
    else component_named file name ds

abbrev pub component_in : Name → Entry → Option Component
component_in name t = component_named t.0 name t.1.tree.definitions

abbrev pub defines : Name → Entry → Bool
defines name t = is_among name (component_names t.1.tree.definitions)

-- 0 where no prefix begins the name of a template, else 1 and the place of the first that does;
-- less is better
abbrev pub priority : Registry → Name → ℕ
priority r name =
    unwrap_or (option_map suc (position (λ p. starts_with nat_eq name p) r.prefixes)) 0

abbrev pub is_better : Registry → Entry → Entry → Bool
is_better r t s = nat_lt (priority r t.0) (priority r s.0)

abbrev pub better : Registry → Option Entry → Entry → Option Entry
better r None t = Some t
better r (Some s) t = if is_better r t s then Some t else Some s

-- the best of all, and of those that are equally good the first
abbrev pub best_from : Registry → Option Entry → List Entry → Option Entry
best_from r best [] = best
best_from r best (t ∷ ts) = best_from r (better r best t) ts

-- the template whose definition of a component is taken
abbrev pub definer_of : Registry → Name → Option Entry
definer_of r name = best_from r None (filter (defines name) r.templates)

-- the component of a name
abbrev pub component : Registry → Name → Option Component
component r name = option_and_then (component_in name) (definer_of r name)

-- the names of all components, in byte order, each once
pub record AreComponentNames (r : Registry) (names : List Name) : Type 0 where
  pub ascending : IsStrictlySortedBy name_cmp names
  pub those : (name : Name) → is_among name names ≡ is_some (definer_of r name)

abbrev pub is_as_good : Registry → Entry → Entry → Bool
is_as_good r t s = nat_eq (priority r s.0) (priority r t.0)

-- one of the templates before this one defines a component as well, is as good,
-- and none of them is better
abbrev pub is_tie : Registry → List Entry → Entry → Name → Bool
is_tie r before t name =
    let ds = filter (defines name) before in
    list_any (is_as_good r t) ds && not (list_any (λ s. is_better r s t) ds)

abbrev pub has_a_tie : Registry → List Entry → Entry → Bool
has_a_tie r before t = list_any (is_tie r before t) (component_names t.1.tree.definitions)

-- the name of a text that is rendered beside the registry
abbrev pub one_off_name : Name
one_off_name = codes "__tera_one_off"
