-- What begins and ends a tag, as plain data.
use Rattle.std.specs.Prelude.{[], ◌∷◌, Bool, true, false, not, ◌&&◌, string_bytes, codes, bytes_eq, Result, Ok, Err, if◌then◌else◌}
use Rattle.tera_errors.specs.Fault.{Fault, message}
use Rattle.tera_errors.specs.Site.{Text}
use Rattle.tera_syntax_tree.specs.declared.delimiters.Delimiters.{Delimiters}

pub record Delims : Type 0 where
  pub block_start : Text
  pub block_end : Text
  pub variable_start : Text
  pub variable_end : Text
  pub comment_start : Text
  pub comment_end : Text

abbrev pub delimiters_of : Delimiters → Delims
delimiters_of d = record {
  block_start = string_bytes d.block_start;
  block_end = string_bytes d.block_end;
  variable_start = string_bytes d.variable_start;
  variable_end = string_bytes d.variable_end;
  comment_start = string_bytes d.comment_start;
  comment_end = string_bytes d.comment_end;
}

-- Tera's own
abbrev pub standard : Delims
standard = record {
  block_start = codes "{%";
  block_end = codes "%}";
  variable_start = codes "{{";
  variable_end = codes "}}";
  comment_start = codes "{#";
  comment_end = codes "#}";
}

abbrev pub is_filled : Text → Bool
is_filled [] = false
is_filled (b ∷ bs) = true

abbrev pub differ : Text → Text → Bool
differ a b = not (bytes_eq a b)

abbrev pub are_filled : Delims → Bool
are_filled d =
    ((((is_filled d.block_start && is_filled d.block_end) && is_filled d.variable_start)
    && is_filled d.variable_end) && is_filled d.comment_start) && is_filled d.comment_end

abbrev pub do_differ : Delims → Bool
do_differ d =
    (differ d.block_start d.variable_start && differ d.block_start d.comment_start)
    && differ d.variable_start d.comment_start

-- Delimiters can be used where none is empty and no two start delimiters are equal.
unfoldable pub accepted : Delims → Bool
accepted d = are_filled d && do_differ d

abbrev pub validated : Delims → Result (Unit {0}) Fault
validated d = if accepted d then Ok tt else Err message
