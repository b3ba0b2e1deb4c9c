-- The order of keys: booleans, then integers, then texts by their bytes.
use Rattle.std.specs.Prelude.{ℕ, ℤ, pos, Bool, false, List, []}
use Rattle.std.specs.declared.cmp.Ordering.{Ordering}
use Rattle.std.specs.Ordering.{nat_cmp, int_cmp, bool_cmp, on, then_cmp}
use Rattle.std.specs.Cmp.Lexicographic.{slice_cmp}
use Rattle.tera_value_types.specs.Val.{KeyVal, kbool, kint, ktext}

abbrev pub key_rank : KeyVal → ℕ
key_rank (kbool b) = 0
key_rank (kint z) = 1
key_rank (ktext t) = 2

-- what a key of each kind holds, and one fixed thing for the other kinds
abbrev pub key_bool : KeyVal → Bool
key_bool (kbool b) = b
key_bool (kint z) = false
key_bool (ktext t) = false

abbrev pub key_number : KeyVal → ℤ
key_number (kbool b) = pos 0
key_number (kint z) = z
key_number (ktext t) = pos 0

abbrev pub key_bytes : KeyVal → List ℕ
key_bytes (kbool b) = []
key_bytes (kint z) = []
key_bytes (ktext t) = t

abbrev pub key_cmp : KeyVal → KeyVal → Ordering
key_cmp =
    then_cmp (on key_rank nat_cmp)
    (then_cmp (on key_bool bool_cmp)
    (then_cmp (on key_number int_cmp) (on key_bytes (slice_cmp nat_cmp))))
