-- Texts cut into their pieces.
use Rattle.std.specs.Prelude.{false, List, map, codes, Result, Ok}
use Rattle.tera_errors.specs.Site.{Text}
use Rattle.tera_errors.specs.Fault.{Fault}
use Rattle.tera_values.specs.Alphabet.{Alphabet, plain, made}
use Rattle.tera_values.specs.Val.{ValOf, text, array, vals}
use Rattle.tera_values.specs.Named.{Named}
use Rattle.tera_built_ins.specs.Arguments.{◌▸◌, as_text, needed}
use Rattle.tera_built_ins.specs.Pieces.{pieces}

-- texts that are made, and not safe
abbrev pub made_texts : {C : Type 0} → Alphabet C → List Text → List (ValOf C)
made_texts alphabet ts = map (λ t. text (alphabet.spelled made t) false) ts

-- the pieces between the positions of a pattern, from the left; the empty pattern stands before
-- each character and at the end
abbrev pub split_of : {C : Type 0} → Alphabet C → ValOf C → Named (ValOf C) → Result (ValOf C) Fault
split_of alphabet v given =
    as_text v ▸ λ g.
    needed as_text (codes "pat") given ▸ λ pattern.
    Ok (array
    (vals (made_texts alphabet
    (pieces plain.code (alphabet.seen pattern.text) (alphabet.seen g.text)))))
