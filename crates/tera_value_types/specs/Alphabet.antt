-- The characters of a text: bytes, or bytes that bear where they come from.
use Rattle.std.specs.Prelude.{ℕ, Bool, cond, List, map, Result, Ok, Err}
use Rattle.tera_errors.specs.Site.{Name}
use Rattle.tera_errors.specs.Fault.{Fault}
use Rattle.tera_value_types.specs.Val.{ValOf, ValsOf, EntriesOf, undefined, none, bool, int, text, bytes, array, map as map_of, no_items, item, no_entries, entry}

-- where a character comes from; `outside` is that of a text from outside that is not safe
pub data Mark : Type 0 where
  template : Mark
  marked_safe : Mark
  escaped : Mark
  made : Mark
  outside : Mark

-- a byte and its mark
abbrev pub Marked : Type 0
Marked = ℕ × Mark

-- how characters are seen as bytes, one and a text; how a text is spelled by them; a text that is
-- trusted from here on, which may have been safe before, and a value whose text is; a value as it
-- is without marks, as it comes from outside, alone or by names, and as an answer from there
pub record Alphabet (C : Type 0) : Type 0 where
  pub code : C → ℕ
  pub seen : List C → List ℕ
  pub spelled : Mark → List ℕ → List C
  pub trusted : Bool → List C → List C
  pub vouched : ValOf C → ValOf C
  pub bare : ValOf C → ValOf ℕ
  pub handed : ValOf ℕ → ValOf C
  pub all_handed : List (Name × ValOf ℕ) → List (Name × ValOf C)
  pub answers : Result (ValOf ℕ) Fault → Result (ValOf C) Fault

-- bytes alone: this is what runs
abbrev pub plain : Alphabet ℕ
plain = record {
  code = λ b. b;
  seen = λ t. t;
  spelled = λ mark t. t;
  trusted = λ safe t. t;
  vouched = λ v. v;
  bare = λ v. v;
  handed = λ v. v;
  all_handed = λ vs. vs;
  answers = λ r. r;
}

abbrev pub bearing : Mark → List ℕ → List Marked
bearing mark t = map (λ b. (b, mark)) t

abbrev pub bytes_of : List Marked → List ℕ
bytes_of t = map (λ c. c.0) t

-- a value with each of its texts spelled anew, by whether it is safe
abbrev mutual
  pub respelled : {C D : Type 0} → (Bool → List C → List D) → ValOf C → ValOf D
  respelled f undefined = undefined
  respelled f none = none
  respelled f (bool b) = bool b
  respelled f (int z) = int z
  respelled f (text t s) = text (f s t) s
  respelled f (bytes t) = bytes t
  respelled f (array vs) = array (all_respelled f vs)
  respelled f (map_of es) = map_of (respelled_entries f es)

  pub all_respelled : {C D : Type 0} → (Bool → List C → List D) → ValsOf C → ValsOf D
  all_respelled f no_items = no_items
  all_respelled f (item v vs) = item (respelled f v) (all_respelled f vs)

  pub respelled_entries : {C D : Type 0} → (Bool → List C → List D) → EntriesOf C → EntriesOf D
  respelled_entries f no_entries = no_entries
  respelled_entries f (entry k v es) = entry k (respelled f v) (respelled_entries f es)

-- a value, items and entries without their marks
abbrev pub unmarked : ValOf Marked → ValOf ℕ
unmarked = respelled (λ safe. bytes_of)

abbrev pub all_unmarked : ValsOf Marked → ValsOf ℕ
all_unmarked = all_respelled (λ safe. bytes_of)

abbrev pub unmarked_entries : EntriesOf Marked → EntriesOf ℕ
unmarked_entries = respelled_entries (λ safe. bytes_of)

-- a text of the caller, who marked it safe or not
abbrev pub handed_in : Bool → List ℕ → List Marked
handed_in safe = bearing (cond safe marked_safe outside)

-- a value of the caller: its safe texts are marked safe, and no others
abbrev pub from_outside : ValOf ℕ → ValOf Marked
from_outside = respelled handed_in

abbrev pub all_from_outside : ValsOf ℕ → ValsOf Marked
all_from_outside = all_respelled handed_in

abbrev pub entries_from_outside : EntriesOf ℕ → EntriesOf Marked
entries_from_outside = respelled_entries handed_in

abbrev pub names_from_outside : List (Name × ValOf ℕ) → List (Name × ValOf Marked)
names_from_outside vs = map (λ v. (v.0, from_outside v.1)) vs

abbrev pub answer_from_outside : Result (ValOf ℕ) Fault → Result (ValOf Marked) Fault
answer_from_outside (Ok v) = Ok (from_outside v)
answer_from_outside (Err fault) = Err fault

-- a text that was safe keeps its marks, and any other is marked safe
abbrev pub trust : Bool → List Marked → List Marked
trust safe t = cond safe t (bearing marked_safe (bytes_of t))

abbrev pub vouched_for : ValOf Marked → ValOf Marked
vouched_for (text t safe) = text (trust safe t) safe
vouched_for v = v

-- bytes with marks
abbrev pub marking : Alphabet Marked
marking = record {
  code = λ c. c.0;
  seen = bytes_of;
  spelled = bearing;
  trusted = trust;
  vouched = vouched_for;
  bare = unmarked;
  handed = from_outside;
  all_handed = names_from_outside;
  answers = answer_from_outside;
}
