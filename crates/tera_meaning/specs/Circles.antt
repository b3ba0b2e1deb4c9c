-- Circles of templates, in words that count no steps.
use Rattle.std.specs.Prelude.{◌≡◌, ◌≢◌, ◌↔◌, true, List, [], ◌∷◌, Some, Err}
use Rattle.std.specs.List.{Contains}
use Rattle.tera_errors.specs.Site.{Name}
use Rattle.tera_errors.specs.Fault.{circular_extend}
use Rattle.tera_meaning.specs.Registry.{Entry, Registry}
use Rattle.tera_meaning.specs.Resolve.{entry_at, resolve, parents, last_of}
use Rattle.tera_meaning.specs.Accepted.{includes_of, leads_into_a_circle}
use Rattle.tera_meaning.specs.Laws.{IsAccepted}

-- one template extends another, and includes another
abbrev pub Extends : Registry → Entry → Entry → Type 0
Extends r t u = (name : Name) × (t.1.tree.parent ≡ Some name) × (resolve r name ≡ Some u)

abbrev pub Includes : Registry → Entry → Entry → Type 0
Includes r t u = Contains (includes_of r t) u

-- templates, each of which leads to the next one
abbrev pub IsWalk : (Entry → Entry → Type 0) → Entry → List Entry → Type 0
IsWalk Leads t [] = Unit {0}
IsWalk Leads t (u ∷ us) = Leads t u × IsWalk Leads u us

-- a walk of one step or more that ends where it began
pub record IsCircle (Leads : Entry → Entry → Type 0) (t : Entry) (us : List Entry) : Type 0 where
  pub walk : IsWalk Leads t us
  pub goes : us ≢ []
  pub back : last_of t us ≡ t

-- a walk, of no step or more, and a circle where it ends
pub record LeadsIntoACircle (Leads : Entry → Entry → Type 0) (t : Entry) : Type 0 where
  pub way : List Entry
  pub walk : IsWalk Leads t way
  pub circle : List Entry
  pub is : IsCircle Leads (last_of t way) circle

-- Of the template that has a name, the counts of steps tell exactly whether following what
-- templates extend, or include, leads into a circle.
pub record CountsTellCircles : Type 0 where
  pub extends : (r : Registry) (t : Entry) → entry_at t.0 r.templates ≡ Some t
      → (parents r t ≡ Err circular_extend) ↔ LeadsIntoACircle (Extends r) t
  pub includes : (r : Registry) (t : Entry) → entry_at t.0 r.templates ≡ Some t
      → (leads_into_a_circle r t ≡ true) ↔ LeadsIntoACircle (Includes r) t

-- In a registry that is accepted no templates extend one another in a circle, and none include one
-- another in a circle.
pub record NoCircles : Type 0 where
  pub extends : (r : Registry) → IsAccepted r
      → (t : Entry) (us : List Entry) → IsCircle (Extends r) t us → ⊥
  pub includes : (r : Registry) → IsAccepted r
      → (t : Entry) (us : List Entry) → IsCircle (Includes r) t us → ⊥
