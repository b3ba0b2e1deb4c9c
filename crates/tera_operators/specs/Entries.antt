-- What is written out as a map, before a map of it is made.
use Rattle.std.specs.Prelude.{◌≡◌, Bool, true, false, List, [], Option, Some, None, is_some, length, map as map_list}
use Rattle.std.specs.List.{zip, list_all}
use Rattle.tera_errors.specs.Site.{Name}
use Rattle.tera_syntax_tree.specs.declared.expression.OwnedKey.{OwnedKey}
use Rattle.tera_syntax_tree.specs.Tree.{Key}
use Rattle.tera_syntax_tree.specs.View.{key_option}
use Rattle.tera_values.specs.Val.{Val, KeyVal, kbool, kint, ktext}
use Rattle.tera_values.specs.Access.{find, key_eq}
use Rattle.tera_operators.specs.Operand.{Evaluated}
use Rattle.tera_operators.specs.Literals.{key_val, from_left}
use Rattle.tera_operators.specs.declared.map_entries.Form.{Form}
use Rattle.tera_operators.specs.declared.map_entries.Form.TheVariants as form

-- each operand at its key, where the later value of a key counts
abbrev pub listed : List (Option OwnedKey) → List Evaluated → List (KeyVal × Val)
listed keys operands = from_left [] (zip (map_list key_option keys) operands)

abbrev pub entries_in : Form → List (KeyVal × Val)
entries_in (form.Listed keys operands) = listed keys.now operands.items
entries_in (form.Made all) = all
entries_in (form.Lent all) = all.now

-- each operand has its key
abbrev pub Fits : Form → Type 0
Fits (form.Listed keys operands) = length keys.now ≡ length operands.items
Fits (form.Made all) = Unit {0}
Fits (form.Lent all) = Unit {0}

-- a text key is among the names; a key that is no text names nothing
abbrev pub is_named : List (KeyVal × Val) → KeyVal → Bool
is_named names (ktext n) = is_some (find (ktext n) names)
is_named names (kbool b) = true
is_named names (kint z) = true

abbrev pub are_named : List (KeyVal × Val) → List (KeyVal × Val) → Bool
are_named names all = list_all (λ e. is_named names e.0) all

-- what a text key finds in the one it finds in the other, too
abbrev pub AreAmong : List (KeyVal × Val) → List (KeyVal × Val) → Type 0
AreAmong names all =
    (n : Name) → is_some (find (ktext n) all) ≡ true → is_some (find (ktext n) names) ≡ true

-- the key of an operand is this one
abbrev pub is_at : KeyVal → Option Key → Bool
is_at j None = false
is_at j (Some k) = key_eq j (key_val k)

-- the key of an operand is among the names
abbrev pub is_key_named : List (KeyVal × Val) → Option Key → Bool
is_key_named names None = true
is_key_named names (Some k) = is_named names (key_val k)
