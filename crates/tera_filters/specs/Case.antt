-- Texts in upper and in lower case.
use Rattle.std.specs.Prelude.{[], ◌∷◌, ◌++◌, List, ℕ, flat_map, encode_utf8_all, Result}
use Rattle.std.specs.Char.{encode_utf8}
use Rattle.std.specs.Str.{chars}
use Rattle.std.specs.StrCase.Upper.{str_to_uppercase}
use Rattle.std.specs.StrCase.Lower.{str_to_lowercase}
use Rattle.unicode_segmentation.specs.Word.{word_bounds}
use Rattle.tera_errors.specs.Prelude.{Text, Fault}
use Rattle.tera_values.specs.Prelude.{Val}
use Rattle.tera_filters.specs.Texts.{with_its_mark}

-- the first character in upper case, and the others in lower case
abbrev pub capitalized_chars : List ℕ → Text
capitalized_chars [] = []
capitalized_chars (c ∷ cs) =
    str_to_uppercase (encode_utf8 c) ++ str_to_lowercase (encode_utf8_all cs)

abbrev pub capitalized : Text → Text
capitalized t = capitalized_chars (chars t)

-- each piece between the boundaries of words
abbrev pub titled : Text → Text
titled t = flat_map capitalized (word_bounds t)

abbrev pub upper_of : Val → Result Val Fault
upper_of = with_its_mark str_to_uppercase

abbrev pub lower_of : Val → Result Val Fault
lower_of = with_its_mark str_to_lowercase

abbrev pub capitalize_of : Val → Result Val Fault
capitalize_of = with_its_mark capitalized

abbrev pub title_of : Val → Result Val Fault
title_of = with_its_mark titled
