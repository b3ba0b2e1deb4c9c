-- What names resolve to, and which templates stand above one.
use Rattle.std.specs.Prelude.{ℕ, zero, suc, List, [], ◌∷◌, ◌++◌, length, map, Option, Some, None, Result, Ok, Err, cond}
use Rattle.std.specs.Option.{option_or}
use Rattle.std.specs.Str.{bytes_eq}
use Rattle.tera_errors.specs.Site.{Name}
use Rattle.tera_errors.specs.Fault.{Fault, circular_extend, missing_parent}
use Rattle.tera_values.specs.Named.{Named}
use Rattle.tera_meaning.specs.Registry.{Template, Entry, Registry}

-- what stands at a name, with its name
abbrev pub entry_at : {A : Type 0} → Name → Named A → Option (Name × A)
entry_at n [] = None
entry_at n (e ∷ es) = cond (bytes_eq n e.0) (Some e) (entry_at n es)

-- the template of the first of these names that is there
abbrev pub first_there : Named Template → List Name → Option Entry
first_there ts [] = None
first_there ts (n ∷ ns) = option_or (entry_at n ts) (first_there ts ns)

-- a name resolves to itself, else to the first prefix whose joined name is there
abbrev pub resolve : Registry → Name → Option Entry
resolve r n = first_there r.templates (n ∷ map (λ p. p ++ n) r.prefixes)

abbrev pub onto : {A : Type 0} → A → Result (List A) Fault → Result (List A) Fault
onto t (Ok ts) = Ok (t ∷ ts)
onto t (Err fault) = Err fault

abbrev pub or_missing : Option Entry → (Entry → Result (List Entry) Fault)
    → Result (List Entry) Fault
or_missing None go = Err missing_parent
or_missing (Some t) go = go t

-- the way up from the name that a template extends, within so many steps,
-- where names resolve like this
abbrev pub up : (Name → Option Entry) → ℕ → Option Name → Result (List Entry) Fault
up find left None = Ok []
up find zero (Some n) = Err circular_extend
up find (suc left) (Some n) = or_missing (find n) (λ t. onto t (up find left t.1.tree.parent))

-- The parents of a template, nearest first. A way up with more steps than there are templates
-- meets one a second time.
abbrev pub parents : Registry → Entry → Result (List Entry) Fault
parents r t = up (resolve r) (length r.templates) t.1.tree.parent

abbrev pub or_none : Result (List Entry) Fault → List Entry
or_none (Ok ts) = ts
or_none (Err fault) = []

abbrev pub last_of : Entry → List Entry → Entry
last_of t [] = t
last_of t (p ∷ ps) = last_of p ps

-- the template whose nodes a rendering begins with: the last of the parents,
-- or the template itself where it has none
abbrev pub root : Registry → Entry → Entry
root r t = last_of t (or_none (parents r t))
