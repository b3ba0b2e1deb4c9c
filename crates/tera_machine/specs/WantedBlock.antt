-- The text of the block that is wanted, as it ended last.
use Rattle.std.specs.Prelude.{◌≡◌, Bool, false, List, [], ◌∷◌, Option, Some, None, option_map, string_bytes, bytes_eq, if◌then◌else◌}
use Rattle.tera_errors.specs.Site.{Name, Text}
use Rattle.tera_machine.specs.declared.requests.BlockRequest.{BlockRequest}
use Rattle.tera_machine.specs.declared.requests.BlockRequest.TheVariants as asked
use Rattle.tera_machine.specs.declared.wanted_block.WantedBlock.{WantedBlock}

-- no block is wanted, or the one of this name
abbrev pub is_wanted : Option Name → Name → Bool
is_wanted None name = false
is_wanted (Some wanted) name = bytes_eq wanted name

-- the name of the block that is wanted, while one that ends may be it
abbrev pub noted_name : WantedBlock → Option Name
noted_name w = if w.notes then w.name else None

-- the text of the last of these blocks that is wanted, or the one from before
abbrev pub last_of : Option Name → Option Text → List (Name × Text) → Option Text
last_of wanted before [] = before
last_of wanted before (b ∷ bs) =
    last_of wanted (if is_wanted wanted b.0 then Some b.1 else before) bs

-- the block that a body is, which ends with this text
abbrev pub ended_by : BlockRequest → Text → List (Name × Text)
ended_by (asked.Block name span) text = (name.now, text) ∷ []
ended_by (asked.Super span) text = []

abbrev pub text_kept : WantedBlock → Option Text
text_kept wanted = option_map string_bytes wanted.last

-- these blocks ended, and the text of the last one that is wanted is there
pub record Noted (before : WantedBlock) (since : List (Name × Text)) (after : WantedBlock) : Type 0 where
  pub name : after.name ≡ before.name
  pub notes : after.notes ≡ before.notes
  pub last : text_kept after ≡ last_of (noted_name before) (text_kept before) since
