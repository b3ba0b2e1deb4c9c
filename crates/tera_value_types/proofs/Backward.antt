-- Texts of ASCII alone, and those texts backwards.
use Rattle.std.proofs.Common.{◌≡◌, ℕ, ◌<◌, List, IsAscii, reverse, ap, ◌∙◌}
use Rattle.std.specs.Str.{chars, encode_utf8_all}
use Rattle.std.proofs.lemmas.List.Sorted.{All-permutation, IsPermutation-reverse}
use Rattle.std.proofs.lemmas.Str.{chars-IsAscii, encodes-IsAscii}
use Rattle.std.proofs.lemmas.Str.Ascii.{All-from_ascii, IsAscii-from_all}

pub ascii_backward : (t : List ℕ) → IsAscii t → IsAscii (reverse t)
ascii_backward t h = IsAscii-from_all (reverse t) (All-permutation (λ b. b < 128) t (reverse t) (IsPermutation-reverse t) (All-from_ascii t h))

-- the characters backwards are spelled by the bytes backwards
pub spelled_backward : (t : List ℕ) → IsAscii t → encode_utf8_all (reverse (chars t)) ≡ reverse t
spelled_backward t h = ap (λ (l : List ℕ). encode_utf8_all (reverse l)) (chars-IsAscii t h) ∙ encodes-IsAscii (reverse t) (ascii_backward t h)
