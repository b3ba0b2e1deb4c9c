-- What a built-in is given: a value, and arguments by name.
use Rattle.std.specs.Prelude.{ℕ, ℤ, pos, negsuc, Bool, cond, nat_lt, List, Option, Some, None, Result, Ok, Err}
use Rattle.tera_errors.specs.Site.{Name}
use Rattle.tera_errors.specs.Fault.{Fault, invalid_argument, missing_argument}
use Rattle.tera_values.specs.Alphabet.{Alphabet}
use Rattle.tera_values.specs.Val.{ValOf, KeyVal, bool, int, text, array, map, list_of}
use Rattle.tera_values.specs.Access.{pairs}
use Rattle.tera_values.specs.Named.{Named, at_name}

-- one and then the other, up to the first fault
infixr 4 ◌▸◌
abbrev pub ◌▸◌ : {A B : Type 0} → Result A Fault → (A → Result B Fault) → Result B Fault
Ok x ▸ go = go x
Err fault ▸ go = Err fault

-- a text, and whether it is safe
pub record GivenOf (C : Type 0) : Type 0 where
  pub text : List C
  pub safe : Bool

abbrev pub Given : Type 0
Given = GivenOf ℕ

-- an integer from 0 to below the limit
abbrev pub below : ℕ → ℤ → Result ℕ Fault
below limit (pos n) = cond (nat_lt n limit) (Ok n) (Err invalid_argument)
below limit (negsuc n) = Err invalid_argument

module _ {C : Type 0} where
  -- a text, and no other kind
  abbrev pub as_text : ValOf C → Result (GivenOf C) Fault
  as_text (text t s) = Ok (record { text = t; safe = s })
  as_text v = Err invalid_argument

  -- the bytes of a text
  abbrev pub as_bytes : Alphabet C → ValOf C → Result (List ℕ) Fault
  as_bytes alphabet v = as_text v ▸ λ g. Ok (alphabet.seen g.text)

  abbrev pub as_array : ValOf C → Result (List (ValOf C)) Fault
  as_array (array vs) = Ok (list_of vs)
  as_array v = Err invalid_argument

  abbrev pub as_map : ValOf C → Result (List (KeyVal × ValOf C)) Fault
  as_map (map es) = Ok (pairs es)
  as_map v = Err invalid_argument

  abbrev pub as_integer : ValOf C → Result ℤ Fault
  as_integer (int z) = Ok z
  as_integer v = Err invalid_argument

  abbrev pub as_bool : ValOf C → Result Bool Fault
  as_bool (bool b) = Ok b
  as_bool v = Err invalid_argument

  -- such an integer, and no other value
  abbrev pub as_natural : ℕ → ValOf C → Result ℕ Fault
  as_natural limit v = as_integer v ▸ below limit

  abbrev pub as_any : ValOf C → Result (ValOf C) Fault
  as_any v = Ok v

abbrev pub some_of : {A : Type 0} → Result A Fault → Result (Option A) Fault
some_of (Ok a) = Ok (Some a)
some_of (Err fault) = Err fault

abbrev pub optional_of : {A B : Type 0} → (A → Result B Fault) → Option A → Result (Option B) Fault
optional_of reading None = Ok None
optional_of reading (Some v) = some_of (reading v)

abbrev pub needed_of : {A B : Type 0} → (A → Result B Fault) → Option A → Result B Fault
needed_of reading None = Err missing_argument
needed_of reading (Some v) = reading v

abbrev pub default_of : {A B : Type 0} → B → (A → Result B Fault) → Option A → Result B Fault
default_of default reading None = Ok default
default_of default reading (Some v) = reading v

module _ {C A : Type 0} (reading : ValOf C → Result A Fault) (name : Name)
    (given : Named (ValOf C)) where
  -- an argument that may be left out
  abbrev pub optional : Result (Option A) Fault
  optional = optional_of reading (at_name name given)

  -- an argument that must be there
  abbrev pub needed : Result A Fault
  needed = needed_of reading (at_name name given)

-- an argument with what it is where it is left out
abbrev pub or_default : {C A : Type 0} → A → (ValOf C → Result A Fault) → Name → Named (ValOf C)
    → Result A Fault
or_default default reading name given = default_of default reading (at_name name given)
