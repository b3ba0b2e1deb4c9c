-- The words of a text.
use Rattle.std.specs.Prelude.{ℕ, Bool, true, false, pos, List, [], ◌∷◌, Result, Ok}
use Rattle.std.specs.List.{count_by, slice_split}
use Rattle.std.specs.Char.{is_whitespace}
use Rattle.std.specs.Str.{chars}
use Rattle.tera_errors.specs.Site.{Text}
use Rattle.tera_errors.specs.Fault.{Fault}
use Rattle.tera_values.specs.Alphabet.{Alphabet}
use Rattle.tera_values.specs.Val.{ValOf, int}
use Rattle.tera_built_ins.specs.Arguments.{◌▸◌, as_text}

abbrev pub has_some : {A : Type 0} → List A → Bool
has_some [] = false
has_some (x ∷ xs) = true

-- of the pieces between white space, those that are not empty
abbrev pub word_count : Text → ℕ
word_count t = count_by has_some (slice_split is_whitespace (chars t))

abbrev pub wordcount_of : {C : Type 0} → Alphabet C → ValOf C → Result (ValOf C) Fault
wordcount_of alphabet v = as_text v ▸ λ g. Ok (int (pos (word_count (alphabet.seen g.text))))
