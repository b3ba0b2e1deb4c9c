-- Levels of precedence: what binds tighter has a greater number.
use Rattle.std.specs.Prelude.{ℕ}

-- `a if c else b`, and so any expression
abbrev pub choice : ℕ
choice = 0

abbrev pub or : ℕ
or = 1

abbrev pub and : ℕ
and = 2

abbrev pub not : ℕ
not = 3

-- `==` and its like, `in` and `is`
abbrev pub comparison : ℕ
comparison = 4

-- `~`
abbrev pub concatenation : ℕ
concatenation = 5

-- `+` and `-` between operands
abbrev pub sum : ℕ
sum = 6

-- `*`, `/`, `//` and `%`
abbrev pub product : ℕ
product = 7

-- `-` before an operand
abbrev pub minus : ℕ
minus = 8

-- `**`
abbrev pub power : ℕ
power = 9

-- `|`
abbrev pub filter : ℕ
filter = 10

-- what stands by itself, with its attributes and indexes
abbrev pub operand : ℕ
operand = 11

-- above each level: no expression goes on
abbrev pub nothing : ℕ
nothing = 12
