-- Texts taken apart and put together, whatever their characters are: code tells the byte of one.
use Rattle.std.specs.Prelude.{ℕ, zero, suc, Bool, true, false, cond, ◌&&◌, not, nat_eq, nat_lt, List, [], ◌∷◌, length, reverse}
use Rattle.std.specs.List.{onto_first, slice_split, join_by}
use Rattle.std.specs.Str.{byte}

module _ {C : Type 0} (code : C → ℕ) where
  -- whether the text begins with the pattern
  abbrev pub begins : List ℕ → List C → Bool
  begins [] t = true
  begins (p ∷ ps) [] = false
  begins (p ∷ ps) (c ∷ t) = nat_eq p (code c) && begins ps t

  -- the pattern p ∷ ps off the start, again and again; the first k characters still belong to one
  -- that was found
  abbrev pub without_front : ℕ → List ℕ → ℕ → List C → List C
  without_front p ps k [] = []
  without_front p ps (suc k) (c ∷ t) = without_front p ps k t
  without_front p ps zero (c ∷ t) =
      cond (begins (p ∷ ps) (c ∷ t)) (without_front p ps (length ps) t) (c ∷ t)

  -- the empty pattern takes nothing off
  abbrev pub trimmed_start : List ℕ → List C → List C
  trimmed_start [] t = t
  trimmed_start (p ∷ ps) t = without_front p ps 0 t

  -- the end is the start of the text backwards
  abbrev pub trimmed_end : List ℕ → List C → List C
  trimmed_end pattern t = reverse (trimmed_start (reverse pattern) (reverse t))

  -- cut at each position where p ∷ ps stands, from the left
  abbrev pub cut : ℕ → List ℕ → ℕ → List C → List (List C)
  cut p ps k [] = [] ∷ []
  cut p ps (suc k) (c ∷ t) = cut p ps k t
  cut p ps zero (c ∷ t) =
      cond (begins (p ∷ ps) (c ∷ t)) ([] ∷ cut p ps (length ps) t) (onto_first c (cut p ps 0 t))

  -- whether the byte goes on with a character that began before it
  abbrev pub goes_on : C → Bool
  goes_on c = not (nat_lt (code c) 128) && nat_lt (code c) 192

  -- cut before each character, and at the end
  abbrev pub letters : List C → List (List C)
  letters [] = [] ∷ [] ∷ []
  letters (c ∷ t) = cond (goes_on c) (onto_first c (letters t)) ([] ∷ onto_first c (letters t))

  -- the pieces between the positions of a pattern; the empty one stands before each character and
  -- at the end
  abbrev pub pieces : List ℕ → List C → List (List C)
  pieces [] t = letters t
  pieces (p ∷ ps) t = cut p ps 0 t

  abbrev pub joined : List C → List (List C) → List C
  joined between ts = join_by (λ t. t) between ts

  abbrev pub is_code : ℕ → C → Bool
  is_code b c = nat_eq (code c) b

  -- without the one carriage return at its end
  abbrev pub without_return : List C → List C
  without_return [] = []
  without_return (c ∷ []) = cond (is_code (byte "\r") c) [] (c ∷ [])
  without_return (c ∷ d ∷ t) = c ∷ without_return (d ∷ t)

  -- of the parts between line feeds: the last is a line only where it is not empty, and keeps its
  -- carriage return
  abbrev pub lines_of : List (List C) → List (List C)
  lines_of [] = []
  lines_of ([] ∷ []) = []
  lines_of ((c ∷ t) ∷ []) = (c ∷ t) ∷ []
  lines_of (t ∷ u ∷ ts) = without_return t ∷ lines_of (u ∷ ts)

  abbrev pub lines : List C → List (List C)
  lines t = lines_of (slice_split (is_code (byte "\n")) t)

  -- whether the text ends with a line feed
  abbrev pub ends_line : List C → Bool
  ends_line [] = false
  ends_line (c ∷ []) = is_code (byte "\n") c
  ends_line (c ∷ d ∷ t) = ends_line (d ∷ t)
