-- Each item of an array is smaller than the array.
use Rattle.std.specs.Prelude.{◌+◌, ◌≤◌, max, List, [], ◌∷◌, Option, Some, None, Box}
use Rattle.std.specs.Global.{Global}
use Rattle.std.proofs.Common.{arith}
use denote.Param.Weighed.{most}
use Rattle.tera_value_types.specs.Val.{Val, KeyVal, vals, entries, val_size, vals_size, entries_size}
use Rattle.tera_value_types.specs.View.{node_view, entry_views, boxed_entries}
use Rattle.tera_value_types.specs.declared.value.Entry.{Entry}
use Rattle.tera_value_types.specs.declared.value.Representation.{Representation}
use Rattle.tera_value_types.specs.declared.value.Representation.TheVariants as node
use Rattle.tera_value_types.specs.declared.value.EntryTable.TheDeep.{deep-Representation, deep-Entry, deep-Map}

pub most_le : (vs : List Val) → most (λ v. val_size v + 1) vs ≤ vals_size (vals vs) + 1
most_le [] = omega arith
most_le (v ∷ vs) = omega (arith, most_le vs)

pub falls : (n : Representation) → max (deep-Representation n) 0 ≤ val_size (node_view n)
falls node.Undefined = omega arith
falls node.None = omega arith
falls (node.Bool b) = omega arith
falls (node.Int z) = omega arith
falls (node.Short safe t) = omega arith
falls (node.Text safe t) = omega arith
falls (node.Bytes b) = omega arith
falls (node.Array vs) = omega (arith, most_le vs.items)
falls (node.Shared vs) = omega (arith, most_le vs.value.items)
falls (node.Map m) = omega arith
falls (node.SharedMap m) = omega arith

entries_below : (es : List Entry) → most deep-Entry es ≤ entries_size (entries (entry_views es))
entries_below [] = omega arith
entries_below (e ∷ es) = omega (arith, entries_below es)

pub entries_fall : (es : List Entry)
    → max (most deep-Entry es) 0 ≤ entries_size (entries (entry_views es))
entries_fall es = omega (arith, entries_below es)

pub table_falls : (alloc : Global) (table : Option (Box (List (KeyVal × Val)) Global))
    → deep-Map (record { alloc = alloc; table = table }) ≤ entries_size
    (entries (boxed_entries table)) + 1
table_falls alloc None = omega arith
table_falls alloc (Some table) = omega arith
