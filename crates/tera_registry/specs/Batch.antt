-- What an adding call may do.
use Rattle.std.specs.Prelude.{◌≡◌, ℕ, List, [], ◌∷◌, map, Result, Ok, Err}
use Rattle.std.specs.Borrow.{Bor}
use Rattle.tera_errors.specs.Site.{Name, Text}
use Rattle.tera_errors.specs.Fault.{Fault}
use Rattle.tera_errors.specs.Answer.{SeenError, SaysOneOf}
use Rattle.tera_values.specs.Named.{Named}
use Rattle.tera_syntax_tree.specs.Tree.{Tree}
use Rattle.tera_syntax_tree.specs.Delimiters.{Delims}
use Rattle.tera_syntax.specs.Reads.{Reads}
use Rattle.tera_meaning.specs.Registry.{Template, Registry}
use Rattle.tera_meaning.specs.Resolve.{onto}
use Rattle.tera_meaning.specs.Adding.{added}

-- names, each with the text of its template
abbrev pub pairs_of : List (Bor (List ℕ) × Bor (List ℕ)) → List (Name × Text)
pairs_of = map (λ p. (p.0.now, p.1.now))

-- what reading a batch may answer: its templates in their order, or the fault of the first text
-- that spells no tree
pub data ReadsBatch (d : Delims) : List (Name × Text) → Result (Named Template) Fault → Type 0 where
  none : ReadsBatch d [] (Ok [])
  stops : (name : Name) (text : Text) (rest : List (Name × Text)) (fault : Fault)
      → Reads name d text (Err fault) → ReadsBatch d ((name, text) ∷ rest) (Err fault)
  more : (name : Name) (text : Text) (rest : List (Name × Text))
      (tree : Tree) (reading : Result (Named Template) Fault)
      → Reads name d text (Ok tree) → ReadsBatch d rest reading
      → ReadsBatch d ((name, text) ∷ rest)
      (onto (name, record { text = text; tree = tree }) reading)

-- what an adding call may answer: the registry that the batch makes of this one, or the fault that
-- refuses it. Only the positions of syntax errors are left open
pub record Adds (r : Registry) (batch : List (Name × Text))
    (answer : Result Registry Fault) : Type 0 where
  pub reading : Result (Named Template) Fault
  pub read : ReadsBatch r.delimiters batch reading
  pub is : answer ≡ added r reading

-- how a call ends that changes a registry: with one that is meant,
-- or with a refusal and the one of before
abbrev pub ConfiguresOneOf : Result (Unit {0}) SeenError → (Result Registry Fault → Type 0)
    → Registry → Registry → Type 0
ConfiguresOneOf (Ok u) Meant old new = Meant (Ok new)
ConfiguresOneOf (Err e) Meant old new = SaysOneOf e Meant × (new ≡ old)
