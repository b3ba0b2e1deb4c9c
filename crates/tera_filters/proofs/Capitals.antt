-- What is left of a text behind its first character is the text of the others.
use Rattle.std.proofs.Common.{◌≡◌, ℕ, List, [], ◌∷◌, ◌++◌, length, ap, ◌∙◌, arith}
use Rattle.std.specs.Char.{encode_utf8}
use Rattle.std.specs.Str.{IsUtf8}
use Rattle.std.specs.StrCase.Upper.{str_to_uppercase}
use Rattle.std.specs.StrCase.Lower.{str_to_lowercase}
use Rattle.std.proofs.lemmas.Str.{IsUtf8-past_char, chars-nil, chars_past_char, encodes-chars}
use Rattle.tera_filters.specs.Case.{capitalized, capitalized_chars}

pub capitalized-some : (t others : List ℕ) (c : ℕ) → IsUtf8 t → t ≡ encode_utf8 c ++ others → capitalized t ≡ str_to_uppercase (encode_utf8 c) ++ str_to_lowercase others
capitalized-some t others c u e =
    ap capitalized_chars (chars_past_char t others c u e)
    ∙ ap (λ r. str_to_uppercase (encode_utf8 c) ++ str_to_lowercase r) (encodes-chars others (IsUtf8-past_char t others c u e))

pub capitalized-none : (t : List ℕ) → length t ≡ 0 → capitalized t ≡ []
capitalized-none [] h = ap capitalized_chars chars-nil
capitalized-none (b ∷ bs) h = absurd (omega arith)
