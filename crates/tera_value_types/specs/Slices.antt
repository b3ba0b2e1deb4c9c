-- Parts of arrays and texts: slices, what is reversed, and whether a part is there.
use Rattle.std.specs.Prelude.{ℕ, zero, suc, ◌+◌, ◌-◌, ℤ, pos, negsuc, Bool, true, false, cond, ◌&&◌, ◌||◌, eqb, nat_lt, min, List, [], ◌∷◌, length, map as map_list, reverse as reverse_list, slice_index_or, Option, Some, None, Result, Ok, Err, is_some, unwrap_or}
use Rattle.std.specs.Ordering.{int_eq}
use Rattle.std.specs.Str.{chars, encode_utf8_all}
use Rattle.tera_errors.specs.Fault.{Fault, message}
use Rattle.tera_value_types.specs.Alphabet.{Alphabet, plain, made}
use Rattle.tera_value_types.specs.Val.{Val, ValOf, Vals, KeyVal, undefined, text, array, map, no_items, item, vals, list_of}
use Rattle.tera_value_types.specs.Access.{find, pairs, key_of}
use Rattle.tera_value_types.specs.Order.{same}

-- how many of n items stand before the position that a number names; a negative one counts from the
-- end
abbrev pub before : ℕ → ℤ → ℕ
before n (pos k) = min k n
before n (negsuc k) = n - suc k

-- how many stand before it and at it
abbrev pub through : ℕ → ℤ → ℕ
through n (pos k) = min (suc k) n
through n (negsuc k) = n - k

abbrev pub bound : (ℤ → ℕ) → ℕ → Option ℤ → ℕ
bound position default None = default
bound position default (Some z) = position z

-- a, a + step, .. below the end, and n positions at most
abbrev pub upward : ℕ → ℕ → ℕ → ℕ → List ℕ
upward zero a end step = []
upward (suc n) a end step = cond (nat_lt a end) (a ∷ upward n (a + step) end step) []

-- the position after which a stand, that after which a - step stand, .. while more than the end
-- stand there, and n positions at most
abbrev pub downward : ℕ → ℕ → ℕ → ℕ → List ℕ
downward zero a end step = []
downward (suc n) a end step = cond (nat_lt end a) ((a - 1) ∷ downward n (a - step) end step) []

-- the positions of a slice of n items, by a step that is not 0: from the start on, and the end is
-- not among them
abbrev pub positions : Option ℤ → Option ℤ → ℤ → ℕ → List ℕ
positions start end (pos step) n = upward n (bound (before n) 0 start) (bound (before n) n end) step
positions start end (negsuc k) n =
    downward n (bound (through n) n start) (bound (through n) 0 end) (suc k)

abbrev pub picked_items : {C : Type 0} → List ℕ → List (ValOf C) → List (ValOf C)
picked_items ps vs = map_list (λ p. slice_index_or vs p undefined) ps

abbrev pub picked_chars : List ℕ → List ℕ → List ℕ
picked_chars ps cs = map_list (λ p. slice_index_or cs p 0) ps

-- no step of 0 leads anywhere
abbrev pub unless_still : {C : Type 0} → ℤ → ValOf C → Result (ValOf C) Fault
unless_still step v = cond (int_eq step (pos 0)) (Err message) (Ok v)

-- the items or characters from the start to the end, by the step, which is 1 where none is given
abbrev pub slice_in : {C : Type 0} → Alphabet C → Option ℤ → Option ℤ → Option ℤ → ValOf C
    → Result (ValOf C) Fault
slice_in a start end step (array vs) = let by = unwrap_or step (pos 1) in
    unless_still by
    (array (vals (picked_items (positions start end by (length (list_of vs))) (list_of vs))))
slice_in a start end step (text t s) = let by = unwrap_or step (pos 1) in
    unless_still by
    (text (a.spelled made
    (encode_utf8_all
    (picked_chars (positions start end by (length (chars (a.seen t)))) (chars (a.seen t))))) false)
slice_in a start end step v = Err message

abbrev pub slice : Option ℤ → Option ℤ → Option ℤ → Val → Result Val Fault
slice = slice_in plain

-- the last item or character first
abbrev pub reversed_in : {C : Type 0} → Alphabet C → ValOf C → Result (ValOf C) Fault
reversed_in a (array vs) = Ok (array (vals (reverse_list (list_of vs))))
reversed_in a (text t s) =
    Ok (text (a.spelled made (encode_utf8_all (reverse_list (chars (a.seen t))))) false)
reversed_in a v = Err message

abbrev pub reversed : Val → Result Val Fault
reversed = reversed_in plain

abbrev pub begins : List ℕ → List ℕ → Bool
begins [] t = true
begins (x ∷ xs) [] = false
begins (x ∷ xs) (y ∷ ys) = eqb x y && begins xs ys

-- the first stands somewhere in the second
abbrev pub is_part : List ℕ → List ℕ → Bool
is_part part [] = begins part []
is_part part (y ∷ ys) = begins part (y ∷ ys) || is_part part ys

abbrev pub has_item : Val → Vals → Bool
has_item v no_items = false
has_item v (item w ws) = same w v || has_item v ws

abbrev pub has_key : Result KeyVal Fault → List (KeyVal × Val) → Bool
has_key (Ok k) es = is_some (find k es)
has_key (Err fault) es = false

-- an equal item of an array, a part of a text, a key of a map
abbrev pub contains : Val → Val → Result Bool Fault
contains (array vs) v = Ok (has_item v vs)
contains (text t s) (text part r) = Ok (is_part part t)
contains (map es) v = Ok (has_key (key_of v) (pairs es))
contains v w = Err message
