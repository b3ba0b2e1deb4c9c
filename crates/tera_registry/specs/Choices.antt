-- Which definition of each component is taken, by position. No public contract speaks of it.
use Rattle.std.specs.Prelude.{◌≡◌, ℕ, suc, Bool, true, false, nat_lt, nat_eq, bytes_eq, List, [], ◌∷◌, take, Option, Some, None, if◌then◌else◌, String}
use Rattle.std.specs.declared.alloc.Global.{Global}
use Rattle.std.specs.declared.collections.BTreeMap.{BTreeMap}
use Rattle.std.specs.BTreeMap.{get_by_text}
use Rattle.tera_errors.specs.Site.{Name}
use Rattle.tera_syntax_tree.specs.Definitions.{component_names}
use Rattle.tera_meaning.specs.Registry.{Entry, Registry}
use Rattle.tera_meaning.specs.Components.{priority, has_a_tie}
use Rattle.tera_registry.specs.First.{IsFirstOne}
use Rattle.tera_registry.specs.declared.component_table.ComponentAt.{ComponentAt}
use Rattle.tera_registry.specs.declared.components.Component.{Component}
use Rattle.tera_registry.specs.Components.{kept_names}

-- what stands at a name
abbrev pub chosen : BTreeMap (String Global) ComponentAt Global → Name → Option ComponentAt
chosen = get_by_text

-- it is what stands at some name
pub record IsTaken (choices : BTreeMap (String Global) ComponentAt Global)
    (choice : ComponentAt) : Type 0 where
  pub name : Name
  pub is : chosen choices name ≡ Some choice

-- whether definitions of this priority are better than one that was taken
abbrev pub improves : Option ComponentAt → ℕ → Bool
improves None p = true
improves (Some old) p = nat_lt p old.priority

-- the better of one that was taken and a further one; the first where they are as good
abbrev pub better_choice : Option ComponentAt → ComponentAt → Option ComponentAt
better_choice old new = if improves old new.priority then Some new else old

-- whether one was taken that is as good as definitions of this priority
abbrev pub is_tied : Option ComponentAt → ℕ → Bool
is_tied None p = false
is_tied (Some old) p = nat_eq old.priority p

-- what is taken of a name after these definitions of the template at a position, the first of which
-- has this number
abbrev pub chosen_in : Name → ℕ → ℕ → ℕ → List Name → Option ComponentAt → Option ComponentAt
chosen_in name position p k [] old = old
chosen_in name position p k (n ∷ ns) old =
    chosen_in name position p (suc k) ns
    (if bytes_eq name n
    then better_choice old (record { template = position; component = k; priority = p })
    else old)

-- what is taken of a name after all these components of the template at a position
abbrev pub chosen_among : Name → ℕ → ℕ → List Component → Option ComponentAt → Option ComponentAt
chosen_among name position p components = chosen_in name position p 0 (kept_names components)

-- what is taken of a name after these templates, the first of which stands at this position
abbrev pub chosen_from : Registry → Name → ℕ → List Entry → Option ComponentAt → Option ComponentAt
chosen_from r name position [] old = old
chosen_from r name position (t ∷ ts) old =
    chosen_from r name (suc position) ts
    (chosen_in name position (priority r t.0) 0 (component_names t.1.tree.definitions) old)

-- what is taken of a name
abbrev pub chosen_of : Registry → Name → Option ComponentAt
chosen_of r name = chosen_from r name 0 r.templates None

-- at each name stands what is taken of it
abbrev pub AreChosen : Registry → BTreeMap (String Global) ComponentAt Global → Type 0
AreChosen r choices = (name : Name) → chosen choices name ≡ chosen_of r name

-- whether a template at this position has a component as good as the best of those before it
abbrev pub ties_at : Registry → ℕ → Entry → Bool
ties_at r position t = has_a_tie r (take position r.templates) t

-- there stands the first template that has one, or nowhere where none does
abbrev pub IsFirstTie : Registry → Option ℕ → Type 0
IsFirstTie r = IsFirstOne r (ties_at r)
