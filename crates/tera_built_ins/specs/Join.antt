-- Items in a row, as one text.
use Rattle.std.specs.Prelude.{Bool, false, if◌then◌else◌, not, ◌&&◌, ◌||◌, List, [], Option, Some, None, Result, Ok, codes}
use Rattle.std.specs.List.{list_any, join_by}
use Rattle.tera_errors.specs.Fault.{Fault}
use Rattle.tera_values.specs.Alphabet.{Alphabet}
use Rattle.tera_values.specs.Val.{ValOf, text}
use Rattle.tera_values.specs.Access.{is_undefined, is_safe}
use Rattle.tera_values.specs.Named.{Named}
use Rattle.tera_values.specs.Printed.{printed_of}
use Rattle.tera_built_ins.specs.Arguments.{◌▸◌, GivenOf, as_array, as_text, optional}
use Rattle.tera_built_ins.specs.Escaping.{Escaping, escape_of}
use Rattle.tera_built_ins.specs.Parts.{part, given_safe}

module _ {C : Type 0} where
  abbrev pub is_safe_text : ValOf C → Bool
  is_safe_text (text t s) = s
  is_safe_text v = false

module _ {C : Type 0} (alphabet : Alphabet C) (view : Escaping) where
  -- an item as it is printed: into a safe answer its escape, unless it is safe itself or undefined
  abbrev pub item_part : Bool → ValOf C → List C
  item_part safe v =
      if safe && not (is_undefined v) && not (is_safe v)
      then escape_of alphabet view (printed_of alphabet v) else printed_of alphabet v

  -- what stands between two items: nothing where nothing is given
  abbrev pub separator_part : Bool → Option (GivenOf C) → List C
  separator_part safe None = []
  separator_part safe (Some g) = part alphabet view safe g

  abbrev pub join_of : ValOf C → Named (ValOf C) → Result (ValOf C) Fault
  join_of v given =
      as_array v ▸ λ vs.
      optional as_text (codes "sep") given ▸ λ separator.
      let safe = view.autoescape && (list_any is_safe_text vs || given_safe separator) in
      Ok (text (join_by (item_part safe) (separator_part safe separator) vs) safe)
