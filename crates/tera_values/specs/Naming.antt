-- What is known of a name beside its text.
use Rattle.std.specs.Prelude.{◌≡◌, ℕ, ◌+◌, ◌*◌, ◌/◌, ◌%◌, ◌^◌, nat_lt, length, Option, Some, None, cond, codes, IsTrue}
use Rattle.std.proofs.Common.{ap}
use Rattle.std.specs.Cmp.Lexicographic.{bytes_decides}
use Rattle.std.specs.List.{fold}
use Rattle.std.specs.Str.{bytes_eq}
use Rattle.std.specs.Int.Digits.{number_from_digits_after}
use Rattle.std.specs.Hash as fed
use Rattle.std.specs.Hash.FoldHasher as folding
use Rattle.tera_errors.specs.Site.{Name}
use Rattle.tera_values.specs.declared.counter.Counter.{Counter}
use Rattle.tera_values.specs.declared.counter.Counter.TheVariants as counter

-- a short text as a number: its bytes as the digits behind a 1
abbrev pub packed : Name → ℕ
packed n = number_from_digits_after 256 1 n

-- a short text's hash: the number, and for maps of few positions a remainder in the low bits, to
-- which each byte adds
abbrev pub short_hash : Name → ℕ
short_hash n = packed n * 64 + packed n % 63

-- a long text's hash, which is greater than any short text's
abbrev pub long_hash : Name → ℕ
long_hash n = 2 ^ 63 + folding.finish (fold folding.write folding.initial (fed.str n)) / 2

-- what is kept of a text, to tell it from others: of a short one it tells the whole text
unfoldable pub name_hash : Name → ℕ
name_hash n = cond (nat_lt (length n) 8) (short_hash n) (long_hash n)

-- what a map that hashes a name takes in: its hash alone
abbrev pub hashed : Name → fed.HashWrites
hashed n = fed.u64 (name_hash n)

-- the same for the same text
pub same_hashed : (a b : Name) → IsTrue (bytes_eq a b) → hashed a ≡ hashed b
same_hashed a b h = ap hashed ((bytes_decides a b).0 h)

-- what a loop counts under this name
abbrev pub counter_of : Name → Option Counter
counter_of n =
    cond (bytes_eq n (codes "__tera_loop_index")) (Some counter.Index)
    (cond (bytes_eq n (codes "__tera_loop_index0")) (Some counter.Index0)
    (cond (bytes_eq n (codes "__tera_loop_first")) (Some counter.First)
    (cond (bytes_eq n (codes "__tera_loop_last")) (Some counter.Last)
    (cond (bytes_eq n (codes "__tera_loop_length")) (Some counter.Length) None))))

-- what is kept of the name is that
abbrev pub IsOf : Name → ℕ → Option Counter → Type 0
IsOf n hash counts = (hash ≡ name_hash n) × (counts ≡ counter_of n)
