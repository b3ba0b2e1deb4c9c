-- What a loop goes over.
use Rattle.std.specs.Prelude.{ℕ, pos, true, false, List, map, Option, Some, None}
use Rattle.unicode_segmentation.specs.Grapheme.{graphemes}
use Rattle.tera_values.specs.Alphabet.{Alphabet, plain, made}
use Rattle.tera_values.specs.Val.{Val, ValOf, int, text, bytes, array, map as map_of, list_of}
use Rattle.tera_values.specs.Access.{pairs}
use Rattle.tera_state.specs.FoundValue.{key_as_value_in}

-- an item, with its key in a map
abbrev pub ItemOf : Type 0 → Type 0
ItemOf C = Option (ValOf C) × ValOf C

abbrev pub Item : Type 0
Item = ItemOf ℕ

-- a cluster of characters that a reader takes for one, as a text of its own
abbrev pub clusters_in : {C : Type 0} → Alphabet C → List C → List (ValOf C)
clusters_in a t = map (λ cluster. text (a.spelled made cluster) false) (graphemes true (a.seen t))

abbrev pub unkeyed : {C : Type 0} → List (ValOf C) → List (ItemOf C)
unkeyed vs = map (λ v. (None, v)) vs

-- the items of an array, a map, a text and bytes, in their order; other values have none to go over
abbrev pub items_in : {C : Type 0} → Alphabet C → ValOf C → Option (List (ItemOf C))
items_in a (array vs) = Some (unkeyed (list_of vs))
items_in a (map_of es) = Some (map (λ e. (Some (key_as_value_in a e.0), e.1)) (pairs es))
items_in a (text t safe) = Some (unkeyed (clusters_in a t))
items_in a (bytes t) = Some (unkeyed (map (λ b. int (pos b)) t))
items_in a v = None

abbrev pub items : Val → Option (List Item)
items = items_in plain
