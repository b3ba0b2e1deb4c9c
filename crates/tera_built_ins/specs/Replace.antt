-- One text in the place of another.
use Rattle.std.specs.Prelude.{ℕ, List, ◌&&◌, ◌||◌, codes, Result, Ok}
use Rattle.tera_errors.specs.Fault.{Fault}
use Rattle.tera_values.specs.Alphabet.{Alphabet}
use Rattle.tera_values.specs.Val.{ValOf, text}
use Rattle.tera_values.specs.Named.{Named}
use Rattle.tera_built_ins.specs.Arguments.{◌▸◌, as_text, needed}
use Rattle.tera_built_ins.specs.Escaping.{Escaping}
use Rattle.tera_built_ins.specs.Parts.{part}
use Rattle.tera_built_ins.specs.Pieces.{pieces, joined}

-- another text at all positions of a pattern, from the left
abbrev pub replaced : {C : Type 0} → (C → ℕ) → List ℕ → List C → List C → List C
replaced code from to t = joined code to (pieces code from t)

-- the pattern is looked for as it stands
abbrev pub replace_of : {C : Type 0} → Alphabet C → Escaping → ValOf C → Named (ValOf C)
    → Result (ValOf C) Fault
replace_of alphabet view v given =
    as_text v ▸ λ g.
    needed as_text (codes "from") given ▸ λ from.
    needed as_text (codes "to") given ▸ λ to.
    let safe = view.autoescape && (g.safe || to.safe) in
    let put = part alphabet view safe in
    Ok (text (replaced alphabet.code (alphabet.seen from.text) (put to) (put g)) safe)
