-- Texts that are made of a text.
use Rattle.std.specs.Prelude.{ℕ, List, Result, Ok}
use Rattle.tera_errors.specs.Fault.{Fault}
use Rattle.tera_values.specs.Val.{Val, text}
use Rattle.tera_built_ins.specs.Arguments.{◌▸◌, as_text}

-- a text that is made without markup keeps the mark of the one that it is made of
abbrev pub with_its_mark : (List ℕ → List ℕ) → Val → Result Val Fault
with_its_mark made v = as_text v ▸ λ g. Ok (text (made g.text) g.safe)
