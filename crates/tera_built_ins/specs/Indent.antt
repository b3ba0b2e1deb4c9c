-- Lines moved to the right.
use Rattle.std.specs.Prelude.{ℕ, ◌^◌, min, Bool, true, false, cond, ◌&&◌, ◌||◌, nat_eq, List, [], ◌∷◌, ◌++◌, length, map as each, codes, Option, Some, None, Result, Ok, Err, if◌then◌else◌}
use Rattle.std.specs.List.{repeat}
use Rattle.std.specs.Str.{chars}
use Rattle.tera_errors.specs.Fault.{Fault, message}
use Rattle.tera_values.specs.Alphabet.{Alphabet, made}
use Rattle.tera_values.specs.Val.{ValOf, text}
use Rattle.tera_values.specs.Named.{Named}
use Rattle.tera_built_ins.specs.Arguments.{◌▸◌, GivenOf, as_text, as_bool, as_natural, optional, or_default}
use Rattle.tera_built_ins.specs.Escaping.{Escaping}
use Rattle.tera_built_ins.specs.Parts.{part, given_safe}
use Rattle.tera_built_ins.specs.Pieces.{joined, lines, ends_line}

module _ {C : Type 0} where
  -- a line after the first: an empty one only where blank ones are moved too
  abbrev pub later_line : List C → Bool → List C → List C
  later_line padding blank [] = cond blank padding []
  later_line padding blank (c ∷ t) = padding ++ c ∷ t

  abbrev pub moved_lines : List C → Bool → Bool → List (List C) → List (List C)
  moved_lines padding first blank [] = []
  moved_lines padding first blank (t ∷ ts) =
      cond first (padding ++ t) t ∷ each (later_line padding blank) ts

-- the lines with a line feed between them, and one at the end where there was one
abbrev pub indented : {C : Type 0} → (C → ℕ) → List C → List C → Bool → Bool → List C → List C
indented code feed padding first blank t =
    joined code feed (moved_lines padding first blank (lines code t))
    ++ cond (ends_line code t) feed []

module _ {C : Type 0} (alphabet : Alphabet C) where
  -- one character, where something is given
  abbrev pub is_character : Option (GivenOf C) → Bool
  is_character None = true
  is_character (Some g) = nat_eq (length (chars (alphabet.seen g.text))) 1

  -- what a line is moved by, once: a space where nothing is given, which needs no escape
  abbrev pub unit : Escaping → Bool → Option (GivenOf C) → List C
  unit view safe None = alphabet.spelled made (codes " ")
  unit view safe (Some g) = part alphabet view safe g

  -- no line is moved by more than a thousand
  abbrev pub indent_of : Escaping → ValOf C → Named (ValOf C) → Result (ValOf C) Fault
  indent_of view v given =
      as_text v ▸ λ g.
      or_default 4 (as_natural (2 ^ 64)) (codes "width") given ▸ λ width.
      optional as_text (codes "indentation") given ▸ λ indentation.
      or_default false as_bool (codes "first") given ▸ λ first.
      or_default false as_bool (codes "blank") given ▸ λ blank.
      let safe = view.autoescape && (g.safe || given_safe indentation) in
      let padding = repeat (min width 1000) (unit view safe indentation) in
      let feed = alphabet.spelled made (codes "\n") in
      if is_character indentation
      then Ok (text
      (indented alphabet.code feed padding first blank (part alphabet view safe g)) safe)
      else Err message
