-- The value that a constant stands for.
use Rattle.std.specs.Prelude.{ℤ, pos, negsuc, ◌^◌, Bool, nat_lt, cond, Option, Some, None}
use Rattle.tera_values.specs.Val as val
use Rattle.tera_code.specs.declared.constant.Kept.{Kept}
use Rattle.tera_code.specs.declared.constant.Kept.TheVariants as kept

abbrev pub value_of : Kept → val.Val
value_of kept.None = val.none
value_of (kept.Bool b) = val.bool b
value_of (kept.Int z) = val.int z
value_of (kept.Shared value) = value.now

-- has at most 64 bits with its sign
abbrev pub is_small : ℤ → Bool
is_small (pos n) = nat_lt n (2 ^ 63)
is_small (negsuc n) = nat_lt n (2 ^ 63)

-- the integer that a value is, if it is a small one
abbrev pub small_integer : val.Val → Option ℤ
small_integer (val.int z) = cond (is_small z) (Some z) None
small_integer other = None
