-- What a number of JSON is for a template.
use Rattle.std.specs.Prelude.{ℤ, false, ◌&&◌, length, nat_lt, if◌then◌else◌, Option, Some, None, Result, Ok, Err}
use Rattle.std.specs.Str.{all_ascii_digits}
use Rattle.std.specs.Str.Parse.{signed_digits_value, without_leading_sign}
use Rattle.tera_errors.specs.Prelude.{Fault, message, Text}
use Rattle.tera_values.specs.Number.{in_range}
use Rattle.tera_value_types.specs.Val.{Val, int, text}
use Rattle.tera_data.specs.declared.number.Floats.{Floats}
use Rattle.tera_data.specs.declared.number.Floats.TheVariants as floats

-- the integer of 128 bits that the text spells: digits, behind a sign or none
unfoldable pub integer_of : Text → Option ℤ
integer_of t =
    let digits = without_leading_sign t in
    let number = signed_digits_value 10 t in
    if (nat_lt 0 (length digits) && all_ascii_digits digits) && in_range number
    then Some number else None

-- any other number, as the caller chooses: a fault, or its text
abbrev pub of_other : Floats → Text → Result Val Fault
of_other floats.Refuse t = Err message
of_other floats.Text t = Ok (text t false)

-- an integer, if the text spells one
abbrev pub of_number : Floats → Text → Option ℤ → Result Val Fault
of_number f t (Some number) = Ok (int number)
of_number f t None = of_other f t
