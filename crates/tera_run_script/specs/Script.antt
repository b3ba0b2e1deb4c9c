-- The commands that a script spells.
use Rattle.std.specs.Prelude.{ℕ, zero, suc, ◌+◌, ℤ, Bool, true, false, not, ◌||◌, ◌&&◌, ◌==◌, codes, List, [], ◌∷◌, length, drop, Option, Some, None, if◌then◌else◌}
use Rattle.std.specs.Char.{is_whitespace}
use Rattle.std.specs.List.{list_all}
use Rattle.std.specs.Option.{option_map, option_and_then}
use Rattle.std.specs.Str.{all_ascii_digits, byte, bytes_eq, chars, is_utf8}
use Rattle.std.specs.Str.Parse.{starts_with_minus, signed_digits_value}
use Rattle.tera.specs.Site.{Name, Text}
use Rattle.tera.specs.Number.{in_range}
use Rattle.tera.specs.Val.{int, text}
use Rattle.tera_run_script.specs.Act.{Act, put_value, render_text, join_batch, add_batch, set_suffixes, set_prefixes, render_named, render_block_named, render_component_named, preview_components}
use Rattle.tera_run_script.specs.Lines.{lines_of, joined}
use Rattle.tera_run_script.specs.Words.{words_of}

-- what a command line says whose body follows
pub data Opening : Type 0 where
  text_opening : (name : Name) → Opening
  safe_opening : (name : Name) → Opening
  str_opening : (autoescape : Bool) → Opening
  template_opening : (name : Name) → Opening

-- a command line: a command by itself, or one that opens a body
pub data Head : Type 0 where
  alone : (act : Act) → Head
  opens : (opening : Opening) → Head

-- no white space but spaces
abbrev pub is_plain : Text → Bool
is_plain line = list_all (λ c. c == byte " " || not (is_whitespace c)) (chars line)

abbrev pub is_filled : Text → Bool
is_filled [] = false
is_filled (b ∷ bytes) = true

-- a field is not empty
abbrev pub checked_field : Text → Option Text
checked_field [] = None
checked_field (b ∷ bytes) = Some (b ∷ bytes)

-- the one field, where there is one alone
abbrev pub only_field : List Text → Option Text
only_field [] = None
only_field (field ∷ []) = checked_field field
only_field (field ∷ next ∷ fields) = None

abbrev pub both : Option Text → Option Text → Option (Text × Text)
both None second = None
both (Some first) None = None
both (Some first) (Some second) = Some (first, second)

-- the two fields, where there are no more
abbrev pub two_fields : List Text → Option (Text × Text)
two_fields [] = None
two_fields (first ∷ []) = None
two_fields (first ∷ second ∷ []) = both (checked_field first) (checked_field second)
two_fields (first ∷ second ∷ next ∷ fields) = None

-- all of the fields
abbrev pub checked_fields : List Text → Option (List Text)
checked_fields fields = if list_all is_filled fields then Some fields else None

-- `on` or `off`
abbrev pub switch : Text → Option Bool
switch field =
    if bytes_eq field (codes "on") then Some true else if bytes_eq field (codes "off")
    then Some false else None

-- one digit or more
abbrev pub is_digits : Text → Bool
is_digits [] = false
is_digits (b ∷ bytes) = all_ascii_digits (b ∷ bytes)

abbrev pub unsigned : Text → Text
unsigned field = if starts_with_minus field then drop 1 field else field

-- digits, with a minus sign in front at will
abbrev pub is_integer : Text → Bool
is_integer field = is_digits (unsigned field)

-- the number that they write, where it fits 128 bits
abbrev pub integer : Text → Option ℤ
integer field =
    let number = signed_digits_value 10 field in
    if is_integer field && in_range number then Some number else None

abbrev pub int_act : Text × Text → Option Act
int_act fields = option_map (λ number. put_value fields.0 (int number)) (integer fields.1)

-- a name and a number
abbrev pub int_of : List Text → Option Act
int_of fields = option_and_then int_act (two_fields fields)

-- no field
abbrev pub add_of : List Text → Option Act
add_of [] = Some add_batch
add_of (field ∷ fields) = None

abbrev pub list_act : Bool → List Text → Act
list_act true fields = set_suffixes fields
list_act false fields = set_prefixes fields

-- suffixes, or else prefixes
abbrev pub listed : Bool → List Text → Option Act
listed is_suffix fields = option_map (list_act is_suffix) (checked_fields fields)

abbrev pub render_of : List Text → Option Act
render_of fields = option_map render_named (only_field fields)

-- the names of a template and of a block
abbrev pub block_of : List Text → Option Act
block_of fields = option_map (λ names. render_block_named names.0 names.1) (two_fields fields)

-- a name, `on` or `off`, and the fields behind these
abbrev pub component_head : List Text → Option (Text × Bool × List Text)
component_head [] = None
component_head (name ∷ []) = None
component_head (name ∷ flag ∷ fields) =
    option_and_then (λ n. option_map (λ autoescape. (n, autoescape, fields)) (switch flag))
    (checked_field name)

abbrev pub component_act : Text × Bool × List Text → Option Act
component_act head =
    option_map (λ implicits. render_component_named head.0 head.1 implicits) (checked_fields head.2)

-- the name of a component, `on` or `off`, and the names of implicits
abbrev pub component_of : List Text → Option Act
component_of fields = option_and_then component_act (component_head fields)

-- `on` or `off`
abbrev pub preview_of : List Text → Option Act
preview_of fields = option_map preview_components (option_and_then switch (only_field fields))

-- the word and the field of a command with a body
abbrev pub opening_of : Text → Option Text → Option Opening
opening_of word None = None
opening_of word (Some field) =
    if bytes_eq word (codes "text") then Some (text_opening field)
    else if bytes_eq word (codes "safe") then Some (safe_opening field)
    else if bytes_eq word (codes "str") then option_map str_opening (switch field)
    else if bytes_eq word (codes "template") then Some (template_opening field)
    else None

abbrev pub opening_named : Text → List Text → Option Opening
opening_named word fields = opening_of word (only_field fields)

-- the word and the fields of a command without one
abbrev pub act_named : Text → List Text → Option Act
act_named word fields =
    if bytes_eq word (codes "int") then int_of fields
    else if bytes_eq word (codes "add") then add_of fields
    else if bytes_eq word (codes "suffix") then listed true fields
    else if bytes_eq word (codes "prefix") then listed false fields
    else if bytes_eq word (codes "render") then render_of fields
    else if bytes_eq word (codes "block") then block_of fields
    else if bytes_eq word (codes "component") then component_of fields
    else if bytes_eq word (codes "preview") then preview_of fields
    else None

-- a command has a body, or has none
abbrev pub either_head : Option Opening → Option Act → Option Head
either_head (Some opening) act = Some (opens opening)
either_head None act = option_map alone act

-- each command has its word
abbrev pub head_named : Text → List Text → Option Head
head_named word fields = either_head (opening_named word fields) (act_named word fields)

abbrev pub head_of_words : List Text → Option Head
head_of_words [] = None
head_of_words (mark ∷ []) = None
head_of_words (mark ∷ word ∷ fields) =
    if bytes_eq mark (codes "@@") then head_named word fields else None

-- A command line is `@@`, a word and fields, with one space before each.
abbrev pub head_of : Text → Option Head
head_of line = if is_plain line then head_of_words (words_of line) else None

abbrev pub with_body : Opening → Text → Act
with_body (text_opening name) body = put_value name (text body false)
with_body (safe_opening name) body = put_value name (text body true)
with_body (str_opening autoescape) body = render_text autoescape body
with_body (template_opening name) body = join_batch name body

abbrev pub ends_body : Text → Bool
ends_body line = bytes_eq line (codes "@@ end")

-- the lines before the one that ends a body, if one does
abbrev pub body_lines : List Text → Option (List Text)
body_lines [] = None
body_lines (line ∷ lines) =
    if ends_body line then Some [] else option_map (λ body. line ∷ body) (body_lines lines)

-- the commands before the first unreadable line, and the number of that line, if there is one
pub record Script : Type 0 where
  pub acts : List Act
  pub unreadable : Option ℕ

abbrev pub before : Act → Script → Script
before act script = record { acts = act ∷ script.acts; unreadable = script.unreadable }

-- line n is unreadable
abbrev pub stopped : ℕ → Script
stopped n = record { acts = []; unreadable = Some n }

-- what opens a body, with the lines of that body, if one does follow
abbrev pub with_opening : ℕ → Opening → Option (List Text) → (ℕ → Script) → Script
with_opening n opening None rest = stopped n
with_opening n opening (Some body) rest =
    before (with_body opening (joined body)) (rest (length body + 1))

-- a command line with the lines that may be its body; the rest of the script is given by how many
-- of them are taken
abbrev pub with_command : ℕ → Option Head → Option (List Text) → (ℕ → Script) → Script
with_command n None body rest = stopped n
with_command n (Some (alone act)) body rest = before act (rest 0)
with_command n (Some (opens opening)) body rest = with_opening n opening body rest

-- The script of lines, of which the first is line n. So many of them belong to a body that was read
-- before.
abbrev pub script_of_lines : ℕ → ℕ → List Text → Script
script_of_lines n taken [] = record { acts = []; unreadable = None }
script_of_lines n (suc taken) (line ∷ lines) = script_of_lines (n + 1) taken lines
script_of_lines n zero ([] ∷ lines) = script_of_lines (n + 1) zero lines
script_of_lines n zero ((b ∷ bytes) ∷ lines) =
    with_command n (head_of (b ∷ bytes)) (body_lines lines)
    (λ taken. script_of_lines (n + 1) taken lines)

-- Lines are counted from 1. Bytes that are no UTF-8 are unreadable at the first.
abbrev pub script_of : List ℕ → Script
script_of bytes = if is_utf8 bytes then script_of_lines 1 0 (lines_of bytes) else stopped 1
