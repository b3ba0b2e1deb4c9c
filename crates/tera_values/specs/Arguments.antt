-- What arguments are read as.
use Rattle.std.specs.Prelude.{ℕ, pos, Bool, false, cond, if◌then◌else◌, nat_lt, Option, Some, None, is_some, Result, Ok, Err}
use Rattle.tera_errors.specs.Fault.{Fault, invalid_argument, message, missing_argument}
use Rattle.tera_value_types.specs.Val.{Val, bool, int, text, array, map}
use Rattle.tera_value_types.specs.Access.{is_undefined, text_of}

abbrev pub Reading : Type 0
Reading = Val → Result Val Fault

abbrev pub as_bool : Reading
as_bool (bool b) = Ok (bool b)
as_bool v = Err invalid_argument

abbrev pub as_int : Reading
as_int (int z) = Ok (int z)
as_int v = Err invalid_argument

-- an integer from 0 to below the limit
abbrev pub as_natural : ℕ → Reading
as_natural limit (int (pos n)) = cond (nat_lt n limit) (Ok (int (pos n))) (Err invalid_argument)
as_natural limit v = Err invalid_argument

-- a text without its mark
abbrev pub as_text : Reading
as_text (text t s) = Ok (text t false)
as_text v = Err invalid_argument

-- a text with its mark
abbrev pub as_marked_text : Reading
as_marked_text (text t s) = Ok (text t s)
as_marked_text v = Err invalid_argument

abbrev pub as_array : Reading
as_array (array vs) = Ok (array vs)
as_array v = Err invalid_argument

abbrev pub as_map : Reading
as_map (map es) = Ok (map es)
as_map v = Err invalid_argument

abbrev pub given : Result Val Fault → Result (Option Val) Fault
given (Ok v) = Ok (Some v)
given (Err fault) = Err fault

-- an argument that may be absent
abbrev pub read : Reading → Option Val → Result (Option Val) Fault
read reading None = Ok None
read reading (Some v) = given (reading v)

-- an argument that must be there
abbrev pub read_needed : Reading → Option Val → Result Val Fault
read_needed reading None = Err missing_argument
read_needed reading (Some v) = reading v

abbrev pub is_text : Val → Bool
is_text v = is_some (text_of v)

-- what is made of a value that is defined; undefined is refused in words
abbrev pub unless_undefined : {A : Type 0} → (Val → A) → Val → Result A Fault
unless_undefined f v = if is_undefined v then Err message else Ok (f v)
