-- The words of a text, and texts cut short behind so many of them.
use Rattle.std.specs.Prelude.{ℕ, ◌^◌, Bool, false, if◌then◌else◌, nat_lt, List, ◌++◌, length, take, map, filter, codes, encode_utf8_all, Result, Ok}
use Rattle.std.specs.List.{slice_split, join_by}
use Rattle.std.specs.Char.{is_whitespace}
use Rattle.std.specs.Str.{chars}
use Rattle.tera_errors.specs.Prelude.{Text, Fault}
use Rattle.tera_values.specs.Prelude.{Val, text, Named, plain}
use Rattle.tera_built_ins.specs.Arguments.{◌▸◌, as_bytes, as_natural, as_text, needed, or_default}
use Rattle.tera_built_ins.specs.Truncate.{ellipsis}
use Rattle.tera_built_ins.specs.Words.{has_some}

-- of the pieces between white space, those that are not empty: `wordcount` counts them
abbrev pub words_of : Text → List Text
words_of t = map encode_utf8_all (filter has_some (slice_split is_whitespace (chars t)))

-- whether there are more than n words
abbrev pub has_more : ℕ → Text → Bool
has_more n t = nat_lt n (length (words_of t))

-- the first n words, with single spaces between them
abbrev pub first_words : ℕ → Text → Text
first_words n t = join_by (λ w. w) (codes " ") (take n (words_of t))

-- of more than n words the first n and an end, and else the text
abbrev pub truncated : ℕ → Text → Text → Text
truncated n end t = if has_more n t then first_words n t ++ end else t

-- where a text is cut there may be half a tag, so the answer is never safe
abbrev pub truncate_words_of : Val → Named Val → Result Val Fault
truncate_words_of v given =
    as_text v ▸ λ g.
    needed (as_natural (2 ^ 64)) (codes "length") given ▸ λ n.
    or_default ellipsis (as_bytes plain) (codes "end") given ▸ λ end.
    Ok (text (truncated n end g.text) false)
