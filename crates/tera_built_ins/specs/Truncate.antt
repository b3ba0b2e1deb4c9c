-- Texts cut short by what a reader takes for characters.
use Rattle.std.specs.Prelude.{ℕ, ◌^◌, true, false, if◌then◌else◌, nat_lt, [], ◌∷◌, ◌++◌, length, take, codes, Result, Ok}
use Rattle.std.specs.List.{concat}
use Rattle.unicode_segmentation.specs.Grapheme.{graphemes}
use Rattle.tera_errors.specs.Site.{Text}
use Rattle.tera_errors.specs.Fault.{Fault}
use Rattle.tera_values.specs.Alphabet.{Alphabet, made}
use Rattle.tera_values.specs.Val.{ValOf, text}
use Rattle.tera_values.specs.Named.{Named}
use Rattle.tera_built_ins.specs.Arguments.{◌▸◌, as_text, as_bytes, as_natural, needed, or_default}

-- of more than n extended clusters the first n and an end, and else the text
abbrev pub truncated : ℕ → Text → Text → Text
truncated n end t =
    if nat_lt n (length (graphemes true t)) then concat (take n (graphemes true t)) ++ end else t

-- what stands for the rest of a text: U+2026, as UTF-8 has it
abbrev pub ellipsis : Text
ellipsis = 226 ∷ 128 ∷ 166 ∷ []

abbrev pub truncate_of : {C : Type 0} → Alphabet C → ValOf C → Named (ValOf C)
    → Result (ValOf C) Fault
truncate_of alphabet v given =
    as_text v ▸ λ g.
    needed (as_natural (2 ^ 64)) (codes "length") given ▸ λ n.
    or_default ellipsis (as_bytes alphabet) (codes "end") given ▸ λ end.
    Ok (text (alphabet.spelled made (truncated n end (alphabet.seen g.text))) false)
