-- What stands at an index.
use Rattle.std.specs.Prelude.{ℕ, ◌-◌, ℤ, pos, negsuc, false, cond, nat_lt, List, length, slice_get, Option, Some, None, Result, Ok, Err, ◌+◌}
use Rattle.std.specs.Str.{chars}
use Rattle.std.specs.Char.{encode_utf8}
use Rattle.tera_errors.specs.Fault.{Fault, message}
use Rattle.tera_value_types.specs.Alphabet.{Alphabet, plain, made}
use Rattle.tera_value_types.specs.Val.{Val, ValOf, KeyVal, undefined, int, text, bytes, array, map, list_of}
use Rattle.tera_value_types.specs.Access.{find, pairs, key_in}

-- where the integer points among n items, if anywhere; a negative one counts from the end
abbrev pub position_of : ℤ → ℕ → Option ℕ
position_of (pos k) n = cond (nat_lt k n) (Some k) None
position_of (negsuc k) n = cond (nat_lt k n) (Some (n - (k + 1))) None

abbrev pub or_undefined : {C : Type 0} → Option (ValOf C) → ValOf C
or_undefined None = undefined
or_undefined (Some v) = v

abbrev pub item_at : {C : Type 0} → Option ℕ → List (ValOf C) → ValOf C
item_at None vs = undefined
item_at (Some i) vs = or_undefined (slice_get vs i)

-- a character as a text
abbrev pub char_in : {C : Type 0} → Alphabet C → ℕ → ValOf C
char_in a c = text (a.spelled made (encode_utf8 c)) false

abbrev pub char_or_undefined_in : {C : Type 0} → Alphabet C → Option ℕ → ValOf C
char_or_undefined_in a None = undefined
char_or_undefined_in a (Some c) = char_in a c

abbrev pub char_from_in : {C : Type 0} → Alphabet C → Option ℕ → List ℕ → ValOf C
char_from_in a None cs = undefined
char_from_in a (Some i) cs = char_or_undefined_in a (slice_get cs i)

abbrev pub char_text : ℕ → Val
char_text = char_in plain

abbrev pub char_or_undefined : Option ℕ → Val
char_or_undefined = char_or_undefined_in plain

abbrev pub char_from : Option ℕ → List ℕ → Val
char_from = char_from_in plain

abbrev pub byte_or_undefined : {C : Type 0} → Option ℕ → ValOf C
byte_or_undefined None = undefined
byte_or_undefined (Some b) = int (pos b)

abbrev pub byte_at : {C : Type 0} → Option ℕ → List ℕ → ValOf C
byte_at None bs = undefined
byte_at (Some i) bs = byte_or_undefined (slice_get bs i)

abbrev pub found_at : {C : Type 0} → Result KeyVal Fault → List (KeyVal × ValOf C)
    → Result (ValOf C) Fault
found_at (Ok k) es = Ok (or_undefined (find k es))
found_at (Err f) es = Err f

abbrev pub get_item_in : {C : Type 0} → Alphabet C → ValOf C → ValOf C → Result (ValOf C) Fault
get_item_in a (map es) i = found_at (key_in a i) (pairs es)
get_item_in a (array vs) (int z) = Ok (item_at (position_of z (length (list_of vs))) (list_of vs))
get_item_in a (text t s) (int z) =
    Ok (char_from_in a (position_of z (length (chars (a.seen t)))) (chars (a.seen t)))
get_item_in a (bytes t) (int z) = Ok (byte_at (position_of z (length t)) t)
get_item_in a v i = Err message

abbrev pub get_item : Val → Val → Result Val Fault
get_item = get_item_in plain
