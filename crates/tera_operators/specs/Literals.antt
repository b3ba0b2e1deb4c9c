-- What arrays and maps that are written out give.
use Rattle.std.specs.Prelude.{Bool, true, false, cond, List, [], ◌∷◌, ◌++◌, Option, Some, None, is_some, is_none, Result, Ok}
use Rattle.std.specs.List.{list_any}
use Rattle.tera_errors.specs.declared.span.Span.{Span}
use Rattle.tera_errors.specs.Site.{Name}
use Rattle.tera_errors.specs.Fault.{Fault}
use Rattle.tera_syntax_tree.specs.Tree.{Key, BoolKey, IntKey, TextKey}
use Rattle.tera_values.specs.Val.{ValOf, KeyVal, kbool, kint, ktext, array, map, list_of, vals, entries}
use Rattle.tera_values.specs.Access.{find, insert_pair, pairs}
use Rattle.tera_operators.specs.Operand.{EvaluatedOf, OutcomeOf, at_span, known, then}

abbrev pub items_of : {C : Type 0} → ValOf C → Option (List (ValOf C))
items_of (array vs) = Some (list_of vs)
items_of other = None

abbrev pub pairs_of : {C : Type 0} → ValOf C → Option (List (KeyVal × ValOf C))
pairs_of (map es) = Some (pairs es)
pairs_of other = None

-- an item, or the items of an array that is spread, before those that follow
abbrev pub item_before : {C : Type 0} → Name → Bool → EvaluatedOf C → List (ValOf C)
    → Result (List (ValOf C)) Fault
item_before file false a rest = Ok (a.value ∷ rest)
item_before file true a rest = then (known file (items_of a.value) a.span) (λ vs. Ok (vs ++ rest))

-- from the right: of two spreads that are no arrays the right one is the fault
abbrev pub array_items : {C : Type 0} → Name → List (Bool × EvaluatedOf C)
    → Result (List (ValOf C)) Fault
array_items file [] = Ok []
array_items file (i ∷ is) = then (array_items file is) (item_before file i.0 i.1)

abbrev pub array_of : {C : Type 0} → Name → List (Bool × EvaluatedOf C) → Span → OutcomeOf C
array_of file is span = then (array_items file is) (λ vs. at_span (array (vals vs)) span)

abbrev pub key_val : Key → KeyVal
key_val (BoolKey b) = kbool b
key_val (IntKey z) = kint z
key_val (TextKey t) = ktext t

-- the pairs whose keys are not there yet, after those that are
abbrev pub kept : {C : Type 0} → List (KeyVal × ValOf C) → List (KeyVal × ValOf C)
    → List (KeyVal × ValOf C)
kept all [] = all
kept all (e ∷ es) = kept (cond (is_some (find e.0 all)) all (all ++ e ∷ [])) es

-- an entry, or the entries of a map that is spread, after those that stand on its right
abbrev pub entry_after : {C : Type 0} → Name → Option Key → EvaluatedOf C → List (KeyVal × ValOf C)
    → Result (List (KeyVal × ValOf C)) Fault
entry_after file (Some k) a all = Ok (kept all ((key_val k, a.value) ∷ []))
entry_after file None a all = then (known file (pairs_of a.value) a.span) (λ es. Ok (kept all es))

-- with a spread: from the right, and a key that is there stays
abbrev pub from_right : {C : Type 0} → Name → List (Option Key × EvaluatedOf C)
    → Result (List (KeyVal × ValOf C)) Fault
from_right file [] = Ok []
from_right file (e ∷ es) = then (from_right file es) (entry_after file e.0 e.1)

abbrev pub inserted : {C : Type 0} → List (KeyVal × ValOf C) → Option Key → ValOf C
    → List (KeyVal × ValOf C)
inserted all None v = all
inserted all (Some k) v = insert_pair all (key_val k) v

-- without a spread: from the left, and a key that is there keeps its position with the later value
abbrev pub from_left : {C : Type 0} → List (KeyVal × ValOf C) → List (Option Key × EvaluatedOf C)
    → List (KeyVal × ValOf C)
from_left all [] = all
from_left all (e ∷ es) = from_left (inserted all e.0 e.1.value) es

abbrev pub map_entries : {C : Type 0} → Name → List (Option Key × EvaluatedOf C)
    → Result (List (KeyVal × ValOf C)) Fault
map_entries file es =
    cond (list_any (λ e. is_none e.0) es) (from_right file es) (Ok (from_left [] es))

abbrev pub map_of : {C : Type 0} → Name → List (Option Key × EvaluatedOf C) → Span → OutcomeOf C
map_of file es span = then (map_entries file es) (λ all. at_span (map (entries all)) span)
