-- The names that a template wants to be given.
use Rattle.std.specs.Prelude.{◌≡◌, ℕ, zero, suc, not, ◌&&◌, nat_eq, List, ◌∷◌, length, codes, Option, Some, None, Result, Ok, Err}
use Rattle.std.specs.List.{list_any, starts_with}
use Rattle.std.specs.List.Sorted.{IsStrictlySortedBy}
use Rattle.tera_errors.specs.Site.{Name}
use Rattle.tera_errors.specs.Fault.{Fault, template_not_found}
use Rattle.tera_syntax_tree.specs.Blocks.{is_among}
use Rattle.tera_values.specs.Named.{name_cmp}
use Rattle.tera_meaning.specs.Registry.{Entry, Registry}
use Rattle.tera_meaning.specs.Lineage.{ancestors}
use Rattle.tera_meaning.specs.Accepted.{includes_of}
use Rattle.tera_syntax_tree.specs.Free.{Names, nobody, ◌∪◌, free}

-- a name is free in one of these
abbrev pub in_one_of : {A : Type 0} → (A → Names) → List A → Names
in_one_of names as' n = list_any (λ a. names a n) as'

-- the names that are free in the text of a template, or in one to which fewer than so many
-- includes lead from it
unfoldable pub free_within : Registry → ℕ → Entry → Names
free_within r zero t = nobody
free_within r (suc k) t = free t.1.tree.nodes ∪ in_one_of (free_within r k) (includes_of r t)

-- Whether a caller can give a value by this name. The others are the engine's own.
abbrev pub given : Names
given n = not (starts_with nat_eq n (codes "__tera_"))

abbrev pub if_given : Names → Names
if_given names n = given n && names n

-- those of the names that are free in the text of a template
abbrev pub given_in : Entry → Names
given_in t = if_given (free t.1.tree.nodes)

-- The names that are free in a template, in its parents, and in all that these include. A walk of
-- as many includes as there are templates meets one a second time, so that none of an accepted
-- registry has as many.
abbrev pub variables : Registry → Entry → Names
variables r t = if_given (in_one_of (free_within r (length r.templates)) (t ∷ ancestors r t))

-- these are the names, each once, in byte order
pub record AreVariables (r : Registry) (t : Entry) (names : List Name) : Type 0 where
  pub ascending : IsStrictlySortedBy name_cmp names
  pub those : (n : Name) → is_among n names ≡ variables r t n

-- what may be answered of the template to which a name resolves
abbrev pub AnswersVariables : Registry → Option Entry → Result (List Name) Fault → Type 0
AnswersVariables r None answer = answer ≡ Err template_not_found
AnswersVariables r (Some t) (Ok names) = AreVariables r t names
AnswersVariables r (Some t) (Err fault) = ⊥
