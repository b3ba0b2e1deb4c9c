-- The order of values, and when two values are the same.
use Rattle.std.specs.Prelude.{ℕ, Bool, true, false, cond, List, Option, Some, None}
use Rattle.std.specs.declared.cmp.Ordering.{Ordering}
use Rattle.std.specs.declared.cmp.Ordering.TheVariants.{Less, Equal, Greater}
use Rattle.std.specs.Ordering.{nat_cmp, int_cmp, bool_cmp, on, ordering_then, eq_by_cmp}
use Rattle.std.specs.Cmp.Lexicographic.{slice_cmp}
use Rattle.tera_value_types.specs.Val.{Val, Vals, Entries, KeyVal, undefined, none, bool, int, text, bytes, array, map, no_items, item, no_entries, entry, vals}
use Rattle.tera_value_types.specs.Keys.{key_cmp}

abbrev pub rank : Val → ℕ
rank undefined = 0
rank none = 1
rank (bool b) = 2
rank (int z) = 3
rank (text t s) = 4
rank (bytes t) = 5
rank (array vs) = 6
rank (map es) = 7

-- one of three, by an answer
abbrev pub by_answer : Ordering → Entries → Entries → Entries → Entries
by_answer Less a b c = a
by_answer Equal a b c = b
by_answer Greater a b c = c

-- an entry put among entries in key order, in place of one of its key
abbrev pub put : KeyVal → Val → Entries → Entries
put k v no_entries = entry k v no_entries
put k v (entry j w es) =
    by_answer (key_cmp k j) (entry k v (entry j w es)) (entry k v es) (entry j w (put k v es))

-- a value without its marks, and with the entries of each map in key order
abbrev mutual
  pub plain : Val → Val
  plain undefined = undefined
  plain none = none
  plain (bool b) = bool b
  plain (int z) = int z
  plain (text t s) = text t false
  plain (bytes t) = bytes t
  plain (array vs) = array (plain_items vs)
  plain (map es) = map (plain_entries es)

  pub plain_items : Vals → Vals
  plain_items no_items = no_items
  plain_items (item v vs) = item (plain v) (plain_items vs)

  pub plain_entries : Entries → Entries
  plain_entries no_entries = no_entries
  plain_entries (entry k v es) = put k (plain v) (plain_entries es)

-- by kind, and then by content; a beginning comes first
abbrev mutual
  pub content_cmp : Val → Val → Ordering
  content_cmp (bool a) (bool b) = bool_cmp a b
  content_cmp (int a) (int b) = int_cmp a b
  content_cmp (text a s) (text b r) = slice_cmp nat_cmp a b
  content_cmp (bytes a) (bytes b) = slice_cmp nat_cmp a b
  content_cmp (array a) (array b) = items_cmp a b
  content_cmp (map a) (map b) = entries_cmp a b
  content_cmp a b = nat_cmp (rank a) (rank b)

  pub items_cmp : Vals → Vals → Ordering
  items_cmp no_items no_items = Equal
  items_cmp no_items (item w ws) = Less
  items_cmp (item v vs) no_items = Greater
  items_cmp (item v vs) (item w ws) = ordering_then (content_cmp v w) (items_cmp vs ws)

  pub entries_cmp : Entries → Entries → Ordering
  entries_cmp no_entries no_entries = Equal
  entries_cmp no_entries (entry j w fs) = Less
  entries_cmp (entry k v es) no_entries = Greater
  entries_cmp (entry k v es) (entry j w fs) =
      ordering_then (key_cmp k j) (ordering_then (content_cmp v w) (entries_cmp es fs))

abbrev pub order : Val → Val → Ordering
order = on plain content_cmp

abbrev pub same : Val → Val → Bool
same = eq_by_cmp order

-- pairs of a key and a value: by the key, and then by the value
abbrev pub pair_order : KeyVal × Val → KeyVal × Val → Ordering
pair_order a b = ordering_then (key_cmp a.0 b.0) (order a.1 b.1)

-- Two values of one kind that has an order, and arrays whose pairs of items are comparable up to
-- and with the first unequal one.
abbrev mutual
  pub comparable : Val → Val → Bool
  comparable (bool a) (bool b) = true
  comparable (int a) (int b) = true
  comparable (text a s) (text b r) = true
  comparable (bytes a) (bytes b) = true
  comparable (array a) (array b) = comparable_items a b
  comparable a b = false

  pub comparable_items : Vals → Vals → Bool
  comparable_items no_items b = true
  comparable_items (item v vs) no_items = true
  comparable_items (item v vs) (item w ws) =
      cond (comparable v w) (cond (same v w) (comparable_items vs ws) true) false

-- how a value stands to another, where the two are comparable
abbrev pub checked_order : Val → Val → Option Ordering
checked_order v w = cond (comparable v w) (Some (order v w)) None

abbrev pub checked_items : List Val → List Val → Option Ordering
checked_items vs ws =
    cond (comparable_items (vals vs) (vals ws)) (Some (slice_cmp order vs ws)) None
