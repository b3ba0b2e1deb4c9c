-- What the parts of a value in memory stand for.
use Rattle.std.specs.Prelude.{List, [], Option, Some, None, Box, string_bytes}
use Rattle.std.specs.Global.{Global}
use Rattle.std.proofs.Common.{map as map_list}
use Rattle.tera_value_types.specs.Val.{Val, KeyVal, kbool, kint, ktext, undefined, none, bool, int, text, bytes, array, map, vals, entries}
use Rattle.tera_value_types.specs.declared.key.Key.{Key}
use Rattle.tera_value_types.specs.declared.key.Key.TheVariants as key
use Rattle.tera_value_types.specs.declared.key.KeyRef.{KeyRef}
use Rattle.tera_value_types.specs.declared.key.KeyRef.TheVariants as wanted
use Rattle.tera_value_types.specs.declared.value.Entry.{Entry}
use Rattle.tera_value_types.specs.declared.value.Representation.{Representation}
use Rattle.tera_value_types.specs.declared.value.Representation.TheVariants as node

abbrev pub key_view : Key → KeyVal
key_view (key.Bool b) = kbool b
key_view (key.Int z) = kint z
key_view (key.Text t) = ktext (string_bytes t)

abbrev pub wanted_view : KeyRef → KeyVal
wanted_view (wanted.Bool b) = kbool b
wanted_view (wanted.Int z) = kint z
wanted_view (wanted.Text t) = ktext t.now

abbrev pub node_view : Representation → Val
node_view node.Undefined = undefined
node_view node.None = none
node_view (node.Bool b) = bool b
node_view (node.Int z) = int z
node_view (node.Short safe t) = text t.bytes safe
node_view (node.Text safe t) = text (string_bytes t.value) safe
node_view (node.Bytes b) = bytes b.value.items
node_view (node.Array vs) = array (vals vs.items)
node_view (node.Shared vs) = array (vals vs.value.items)
node_view (node.Map m) = map (entries m)
node_view (node.SharedMap m) = map (entries m.value)

abbrev pub entry_view : Entry → KeyVal × Val
entry_view e = (key_view e.key, e.value)

abbrev pub entry_views : List Entry → List (KeyVal × Val)
entry_views es = map_list entry_view es

-- the entries of a table that may not be there yet
abbrev pub boxed_entries : Option (Box (List (KeyVal × Val)) Global) → List (KeyVal × Val)
boxed_entries None = []
boxed_entries (Some table) = table.value
