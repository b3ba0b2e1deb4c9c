-- Texts as they stand in readable URLs.
use Rattle.std.specs.Prelude.{ℕ, not, List, filter, Result, codes}
use Rattle.std.specs.Char.{is_ascii, is_ascii_alphanumeric}
use Rattle.std.specs.List.{join_by, slice_split}
use Rattle.std.specs.Str.{chars, encode_utf8_all, str_to_ascii_lowercase}
use Rattle.unicode_normalization.specs.Forms.{nfkd}
use Rattle.tera_errors.specs.Fault.{Fault}
use Rattle.tera_values.specs.Val.{Val}
use Rattle.tera_built_ins.specs.Words.{has_some}
use Rattle.tera_filters.specs.Texts.{with_its_mark}

-- the text in NFKD, where a letter with a mark is the letter and the mark behind it
abbrev pub decomposed : List ℕ → List ℕ
decomposed t = encode_utf8_all (nfkd (chars t))

-- the pieces of letters and digits; between two other characters there is an empty one
abbrev pub pieces : List ℕ → List (List ℕ)
pieces t = slice_split (λ c. not (is_ascii_alphanumeric c)) t

-- of the ASCII characters, in lower case, the pieces that are not empty
abbrev pub slug : List ℕ → List ℕ
slug t = join_by (λ w. w) (codes "-")
    (filter has_some (pieces (str_to_ascii_lowercase (filter is_ascii t))))

abbrev pub slugify_of : Val → Result Val Fault
slugify_of = with_its_mark (λ t. slug (decomposed t))
