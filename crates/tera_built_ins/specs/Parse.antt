-- Texts read as integers.
use Rattle.std.specs.Prelude.{ℕ, ◌^◌, Bool, cond, ◌&&◌, ◌||◌, nat_eq, nat_lt, List, [], length, Result, Ok, Err, codes}
use Rattle.std.specs.Char.{is_digit}
use Rattle.std.specs.List.{list_all}
use Rattle.std.specs.Str.{trim}
use Rattle.std.specs.Str.Parse.{without_leading_sign, signed_digits_value}
use Rattle.tera_errors.specs.Fault.{Fault, message}
use Rattle.tera_values.specs.Val.{ValOf, int, text}
use Rattle.tera_values.specs.Alphabet.{Alphabet, plain}
use Rattle.tera_values.specs.Named.{Named}
use Rattle.tera_built_ins.specs.Arguments.{◌▸◌, as_natural, or_default}
use Rattle.tera_built_ins.specs.Numbers.{kept}
use Rattle.tera_built_ins.specs.Pieces.{trimmed_start}

-- one digit or more in a base, and nothing else
abbrev pub is_numeral : ℕ → List ℕ → Bool
is_numeral base ds = nat_lt 0 (length ds) && list_all (λ d. is_digit d base) ds

-- the number of a numeral, behind a sign or none
abbrev pub signed_numeral : {C : Type 0} → ℕ → List ℕ → Result (ValOf C) Fault
signed_numeral base t =
    cond (is_numeral base (without_leading_sign t)) (kept (signed_digits_value base t))
    (Err message)

-- what tells the base in front of a numeral
abbrev pub prefix : ℕ → List ℕ
prefix base =
    cond (nat_eq base 2) (codes "0b")
    (cond (nat_eq base 8) (codes "0o") (cond (nat_eq base 16) (codes "0x") []))

-- white space at both ends goes first, and then all such prefixes
abbrev pub numeral_in : ℕ → List ℕ → List ℕ
numeral_in base t = trimmed_start plain.code (prefix base) (trim t)

module _ {C : Type 0} (alphabet : Alphabet C) where
  abbrev pub integer_of : ℕ → ValOf C → Result (ValOf C) Fault
  integer_of base (int z) = Ok (int z)
  integer_of base (text t s) = signed_numeral base (numeral_in base (alphabet.seen t))
  integer_of base v = Err message

  abbrev pub int_of : ValOf C → Named (ValOf C) → Result (ValOf C) Fault
  int_of v given =
      or_default 10 (as_natural (2 ^ 32)) (codes "base") given ▸ λ base.
      cond (nat_lt base 2 || nat_lt 36 base) (Err message) (integer_of base v)
