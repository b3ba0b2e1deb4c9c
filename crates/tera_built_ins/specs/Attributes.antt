-- What an attribute is of each item.
use Rattle.std.specs.Prelude.{List, [], ◌∷◌, Option, Some, None, Result, Ok, Err}
use Rattle.tera_errors.specs.Fault.{Fault, message}
use Rattle.tera_errors.specs.Site.{Text}
use Rattle.tera_values.specs.Alphabet.{Alphabet}
use Rattle.tera_values.specs.Val.{Val}
use Rattle.tera_values.specs.Paths.{from_path}
use Rattle.tera_built_ins.specs.Arguments.{◌▸◌, GivenOf}

-- what each of them gives, or the first fault
abbrev pub all_of : {A B : Type 0} → (A → Result B Fault) → List A → Result (List B) Fault
all_of f [] = Ok []
all_of f (x ∷ xs) = f x ▸ λ y. all_of f xs ▸ λ ys. Ok (y ∷ ys)

abbrev pub or_refused : {A : Type 0} → Option A → Result A Fault
or_refused None = Err message
or_refused (Some x) = Ok x

-- what stands at the end of a path
abbrev pub attribute_of : Text → Val → Result Val Fault
attribute_of path v = or_refused (from_path path v)

-- the same, and the value itself where no path is given
abbrev pub attribute_or_itself : {C : Type 0} → Alphabet C → Option (GivenOf C) → Val
    → Result Val Fault
attribute_or_itself alphabet None v = Ok v
attribute_or_itself alphabet (Some path) v = attribute_of (alphabet.seen path.text) v
