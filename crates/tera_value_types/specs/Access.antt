use Rattle.std.specs.Prelude.{ℕ, ℤ, codes, Bool, true, false, if◌then◌else◌, List, [], ◌∷◌, Option, Some, None, not, length, pos, Result, Ok, Err}
use Rattle.std.specs.Ordering.{eq_by_cmp, int_eq}
use Rattle.tera_value_types.specs.Alphabet.{Alphabet, plain}
use Rattle.tera_value_types.specs.Keys.{key_cmp}
use Rattle.std.specs.Str.{chars}
use Rattle.tera_errors.specs.Fault.{Fault, message}
use Rattle.tera_value_types.specs.declared.value.ValueKind.{ValueKind}
use Rattle.tera_value_types.specs.declared.value.ValueKind.TheVariants as kind
use Rattle.tera_value_types.specs.Val.{list_of, Val, ValOf, EntriesOf, KeyVal, kbool, kint, ktext, undefined, none, bool, int, text, bytes, array, map, no_items, item, no_entries, entry}

abbrev pub key_eq : KeyVal → KeyVal → Bool
key_eq = eq_by_cmp key_cmp

-- the value at a key
abbrev pub find : {A : Type 0} → KeyVal → List (KeyVal × A) → Option A
find k [] = None
find k (e ∷ es) = if key_eq k e.0 then Some e.1 else find k es

-- a key that is there keeps its position and takes the value, and a new key goes last
abbrev pub insert_pair : {A : Type 0} → List (KeyVal × A) → KeyVal → A → List (KeyVal × A)
insert_pair [] k v = (k, v) ∷ []
insert_pair (e ∷ es) k v = if key_eq k e.0 then (e.0, v) ∷ es else e ∷ insert_pair es k v

abbrev pub pairs : {C : Type 0} → EntriesOf C → List (KeyVal × ValOf C)
pairs no_entries = []
pairs (entry k v es) = (k, v) ∷ pairs es

-- the value of a map at a text key
abbrev pub attr : {C : Type 0} → List ℕ → ValOf C → Option (ValOf C)
attr n (map es) = find (ktext n) (pairs es)
attr n v = None

abbrev pub is_undefined : {C : Type 0} → ValOf C → Bool
is_undefined undefined = true
is_undefined v = false

-- safe are marked texts, integers, booleans and none
abbrev pub is_safe : {C : Type 0} → ValOf C → Bool
is_safe none = true
is_safe (bool b) = true
is_safe (int z) = true
is_safe (text t s) = s
is_safe v = false

-- a text with the safe mark, and any other value as it is
abbrev pub marked : {C : Type 0} → ValOf C → ValOf C
marked (text t s) = text t true
marked v = v

-- a value that holds nothing in memory, so that a copy takes none
abbrev pub IsScalar : Val → Type 0
IsScalar undefined = Unit {0}
IsScalar none = Unit {0}
IsScalar (bool b) = Unit {0}
IsScalar (int z) = Unit {0}
IsScalar v = ⊥

-- a value that holds no other
abbrev pub IsFlat : Val → Type 0
IsFlat (array vs) = ⊥
IsFlat (map es) = ⊥
IsFlat v = Unit {0}

abbrev pub kind_of : {C : Type 0} → ValOf C → ValueKind
kind_of undefined = kind.Undefined
kind_of none = kind.None
kind_of (bool b) = kind.Bool
kind_of (int z) = kind.Int
kind_of (text t s) = kind.String
kind_of (bytes t) = kind.Bytes
kind_of (array vs) = kind.Array
kind_of (map es) = kind.Map

-- the word for a kind
abbrev pub kind_name : {C : Type 0} → ValOf C → List ℕ
kind_name undefined = codes "undefined"
kind_name none = codes "none"
kind_name (bool b) = codes "bool"
kind_name (int z) = codes "int"
kind_name (text t s) = codes "string"
kind_name (bytes t) = codes "bytes"
kind_name (array vs) = codes "array"
kind_name (map es) = codes "map"

abbrev pub int_of : {C : Type 0} → ValOf C → Option ℤ
int_of (int z) = Some z
int_of v = None

abbrev pub text_of : {C : Type 0} → ValOf C → Option (List C)
text_of (text t s) = Some t
text_of v = None

-- false are undefined, none, false, 0 and what is empty
abbrev pub truthy : {C : Type 0} → ValOf C → Bool
truthy undefined = false
truthy none = false
truthy (bool b) = b
truthy (int z) = not (int_eq z (pos 0))
truthy (text [] s) = false
truthy (text (b ∷ t) s) = true
truthy (bytes []) = false
truthy (bytes (b ∷ t)) = true
truthy (array no_items) = false
truthy (array (item v vs)) = true
truthy (map no_entries) = false
truthy (map (entry k v es)) = true

-- characters, bytes, items, entries
abbrev pub count : Val → Option ℕ
count undefined = None
count none = None
count (bool b) = None
count (int z) = None
count (text t s) = Some (length (chars t))
count (bytes t) = Some (length t)
count (array vs) = Some (length (list_of vs))
count (map es) = Some (length (pairs es))

-- a value as a key
abbrev pub key_in : {C : Type 0} → Alphabet C → ValOf C → Result KeyVal Fault
key_in a (bool b) = Ok (kbool b)
key_in a (int z) = Ok (kint z)
key_in a (text t s) = Ok (ktext (a.seen t))
key_in a v = Err message

abbrev pub key_of : Val → Result KeyVal Fault
key_of = key_in plain

-- a key as a value
abbrev pub value_of_key : KeyVal → Val
value_of_key (kbool b) = bool b
value_of_key (kint z) = int z
value_of_key (ktext t) = text t false
