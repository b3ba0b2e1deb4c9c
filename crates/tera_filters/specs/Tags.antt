-- Markup without its tags, and without the white space between them.
use Rattle.std.specs.Prelude.{ℕ, zero, suc, ◌+◌, Bool, cond, if◌then◌else◌, List, [], ◌∷◌, length, drop, codes, Option, Some, None, option_map, unwrap_or, Result}
use Rattle.std.specs.Char.{is_ascii_whitespace}
use Rattle.std.specs.List.{prefix_len}
use Rattle.tera_errors.specs.Prelude.{Text, Fault}
use Rattle.tera_values.specs.Prelude.{Val, plain}
use Rattle.tera_built_ins.specs.Pieces.{begins, pieces}
use Rattle.tera_filters.specs.Texts.{with_its_mark}

-- how many bytes there are up to the end of a pattern that is so long, which stands between pieces
abbrev pub through_first : ℕ → List Text → Option ℕ
through_first long [] = None
through_first long (first ∷ []) = None
through_first long (first ∷ second ∷ others) = Some (length first + long)

-- how many there are up to the end of the first place of a pattern
abbrev pub through : Text → Text → Option ℕ
through pattern t = through_first (length pattern) (pieces plain.code pattern t)

abbrev pub starts_with : Text → Text → Bool
starts_with pattern t = begins plain.code pattern t

-- how many bytes of a tag, or of a comment, stand behind its `<`; none where nothing closes it
abbrev pub tag_size : Text → Option ℕ
tag_size t =
    if starts_with (codes "!--") t
    then option_map (λ n. 3 + n) (through (codes "-->") (drop 3 t))
    else through (codes ">") t

-- the text without tags and comments, where k bytes of one are still to go; where one begins that
-- nothing closes, it stays with what follows
abbrev pub without_tags : ℕ → Text → Text
without_tags k [] = []
without_tags (suc k) (c ∷ t) = without_tags k t
without_tags zero (c ∷ t) =
    cond (starts_with (codes "<") (c ∷ t))
    (unwrap_or (option_map (λ n. without_tags n t) (tag_size t)) (c ∷ t)) (c ∷ without_tags zero t)

abbrev pub stripped : Text → Text
stripped t = without_tags 0 t

-- how many bytes of white space stand before a tag at the start of the text; none where another
-- character stands there
abbrev pub gap_size : Text → ℕ
gap_size t =
    let blank = prefix_len is_ascii_whitespace t in
    if starts_with (codes "<") (drop blank t) then blank else 0

-- the text without the white space between a `>` and the next `<`, where k bytes of it are still to
-- go
abbrev pub without_gaps : ℕ → Text → Text
without_gaps k [] = []
without_gaps (suc k) (c ∷ t) = without_gaps k t
without_gaps zero (c ∷ t) =
    c ∷ without_gaps (if starts_with (codes ">") (c ∷ t) then gap_size t else 0) t

abbrev pub compact : Text → Text
compact t = without_gaps 0 t

-- what is left of a safe text is safe
abbrev pub striptags_of : Val → Result Val Fault
striptags_of = with_its_mark stripped

abbrev pub spaceless_of : Val → Result Val Fault
spaceless_of = with_its_mark compact
