-- Marked values and the plain ones that they stand for.
use Rattle.std.proofs.Common.{◌≡◌, ℕ, zero, suc, ◌<◌, ◌/◌, ◌%◌, Bool, true, false, cond, not, ◌&&◌, ◌||◌, nat_eq, List, [], ◌∷◌, ◌++◌, codes, refl, ap, arith, ℤ, pos, negsuc, if◌then◌else◌, ◌==◌, Option, Some, None, option_and_then, Result, Ok, Err}
use Rattle.std.proofs.lemmas.Grind.{common_steps}
use Rattle.std.specs.List.{list_all}
use Rattle.std.specs.Fmt.{signed_decimal, digits, digits_onto, digit_glyph}
use Rattle.std.specs.Str.Lossy.{utf8_lossy}
use Rattle.tera_errors.specs.Fault.{Fault}
use Rattle.tera_meaning.proofs.Marks.Claim.{Claim, TextHolds, SafeTextsHold, ValueHolds, AnswerHolds}
use Rattle.tera_meaning.proofs.Marks.All.{all-left, all-right}
use Rattle.tera_meaning.proofs.Marks.Each.{Each, none, more}
use Rattle.tera_values.specs.Alphabet.{Mark, marked_safe, escaped, made, outside, Marked, plain, marking, bearing, bytes_of, unmarked, all_unmarked, unmarked_entries, from_outside, all_from_outside, entries_from_outside, answer_from_outside}
use Rattle.tera_values.specs.Val as val
use Rattle.tera_values.specs.Val.{KeyVal, ValOf, ValsOf, EntriesOf, undefined, bool, int, text, bytes, array, no_items, item, no_entries, entry}
use Rattle.tera_values.specs.Access as access
use Rattle.tera_values.specs.Growth.{by_byte}
use Rattle.tera_values.specs.Escape.{escape_byte, escape_html}
use Rattle.tera_values.specs.Printed.{printed_of, inside_of, rest_inside_of, pairs_inside_of, bool_text, quoted}
use Rattle.tera_meaning.specs.Marks.Origin.{is_markup}
use Rattle.tera_meaning.specs.Marks.Sources.{safe_texts, items_safe_texts, entries_safe_texts}

-- the claim holds in a safe text; of any other nothing is said, since it is escaped before it is put out
abbrev pub ClaimedIf : Claim → Bool → Marked → Type 0
ClaimedIf K true c = K.holds c
ClaimedIf K false c = Unit {0}

-- a character of a text, which is safe or not, bears a byte
pub record Bears (K : Claim) (safe : Bool) (c : Marked) (b : ℕ) : Type 0 where
  pub byte : c.0 ≡ b
  pub claimed : ClaimedIf K safe c

mutual
  pub data Stands (K : Claim) : ValOf Marked → ValOf ℕ → Type 0 where
    undefineds : Stands K undefined undefined
    nones : Stands K val.none val.none
    bools : (b : Bool) → Stands K (bool b) (bool b)
    ints : (z : ℤ) → Stands K (int z) (int z)
    texts : (safe : Bool) {t : List Marked} {u : List ℕ} → Each (Bears K safe) t u → Stands K (text t safe) (text u safe)
    raws : (t : List ℕ) → Stands K (bytes t) (bytes t)
    arrays : {vs : ValsOf Marked} {ws : ValsOf ℕ} → AllStand K vs ws → Stands K (array vs) (array ws)
    maps : {es : EntriesOf Marked} {fs : EntriesOf ℕ} → EntriesStand K es fs → Stands K (val.map es) (val.map fs)

  pub data AllStand (K : Claim) : ValsOf Marked → ValsOf ℕ → Type 0 where
    no_more : AllStand K no_items no_items
    one_more : {v : ValOf Marked} {w : ValOf ℕ} {vs : ValsOf Marked} {ws : ValsOf ℕ} → Stands K v w → AllStand K vs ws → AllStand K (item v vs) (item w ws)

  pub data EntriesStand (K : Claim) : EntriesOf Marked → EntriesOf ℕ → Type 0 where
    no_pairs : EntriesStand K no_entries no_entries
    one_pair : (k : KeyVal) {v : ValOf Marked} {w : ValOf ℕ} {es : EntriesOf Marked} {fs : EntriesOf ℕ} → Stands K v w → EntriesStand K es fs → EntriesStand K (entry k v es) (entry k w fs)

module _ {K : Claim} where
  -- the bytes of a text
  pub seen-is : (safe : Bool) {t : List Marked} {u : List ℕ} → Each (Bears K safe) t u → bytes_of t ≡ u
  seen-is safe none = refl
  seen-is safe (more {x = c} {y = b} {xs = t} {ys = u} r rs) = rw r.byte (rw (seen-is safe rs) refl)

  pub lowered : (safe : Bool) {t : List Marked} {u : List ℕ} → Each (Bears K safe) t u → Each (Bears K false) t u
  lowered safe none = none
  lowered safe (more r rs) = more (record { byte = r.byte; claimed = tt }) (lowered safe rs)

-- no byte of the text is markup
abbrev pub Harmless : List ℕ → Type 0
Harmless [] = Unit {0}
Harmless (b ∷ t) = (is_markup b ≡ false) × Harmless t

harmless-append : (t u : List ℕ) → Harmless t → Harmless u → Harmless (t ++ u)
harmless-append [] u h k = k
harmless-append (b ∷ t) u h k = (h.0, harmless-append t u h.1 k)

harmless-forms : (form : ℕ → List ℕ) → ((b : ℕ) → Harmless (form b)) → (t : List ℕ) → Harmless (by_byte form t)
harmless-forms form h [] = tt
harmless-forms form h (b ∷ t) = harmless-append (form b) (by_byte form t) (h b) (harmless-forms form h t)

harmless-tested : (t : List ℕ) → list_all (λ b. not (is_markup b)) t ≡ true → Harmless t
harmless-tested [] e = tt
harmless-tested (b ∷ t) e = go (harmless-tested t) (is_markup b) refl e
  where
    go : (list_all (λ b. not (is_markup b)) t ≡ true → Harmless t) → (m : Bool) → is_markup b ≡ m → (not m && list_all (λ b. not (is_markup b)) t) ≡ true → Harmless (b ∷ t)
    go rest true h e = cc
    go rest false h e = (h, rest e)

escape_byte-harmless : (b : ℕ) → Harmless (escape_byte b)
escape_byte-harmless b = go (nat_eq b 38) (nat_eq b 60) (nat_eq b 62) (nat_eq b 34) (nat_eq b 39) refl
  where
    go : (a l g q r : Bool) → is_markup b ≡ (l || (g || (q || r)))
        → Harmless (cond a (codes "&amp;") (cond l (codes "&lt;") (cond g (codes "&gt;") (cond q (codes "&quot;") (cond r (codes "&#x27;") (b ∷ []))))))
    go true l g q r e = harmless-tested (codes "&amp;") refl
    go false true g q r e = harmless-tested (codes "&lt;") refl
    go false false true q r e = harmless-tested (codes "&gt;") refl
    go false false false true r e = harmless-tested (codes "&quot;") refl
    go false false false false true e = harmless-tested (codes "&#x27;") refl
    go false false false false false e = (e, tt)

escape_html-harmless : (t : List ℕ) → Harmless (escape_html t)
escape_html-harmless t = harmless-forms escape_byte escape_byte-harmless t

digit-harmless : (d : ℕ) → d < 10 → is_markup (digit_glyph false d) ≡ false
digit-harmless d h = grind (arith, common_steps, h)

glyph-harmless : (n : ℕ) → is_markup (digit_glyph false (n % 10)) ≡ false
glyph-harmless n = digit-harmless (n % 10) (omega arith)

one_of : (b : Bool) (t u : List ℕ) → Harmless t → Harmless u → Harmless (if b then t else u)
one_of true t u h k = h
one_of false t u h k = k

digits_onto-harmless : (k n : ℕ) (t : List ℕ) → Harmless t → Harmless (digits_onto k 10 false n t)
digits_onto-harmless zero n t h = h
digits_onto-harmless (suc k) n t h = one_of (n / 10 == 0) _ _ (glyph-harmless n, h) (digits_onto-harmless k (n / 10) (digit_glyph false (n % 10) ∷ t) (glyph-harmless n, h))

signed_decimal-harmless : (z : ℤ) → Harmless (signed_decimal z)
unfolding digits
signed_decimal-harmless (pos n) = digits_onto-harmless 64 n [] tt
signed_decimal-harmless (negsuc n) = (refl, digits_onto-harmless 64 (suc n) [] tt)

harmless-holds : (K : Claim) (mark : Mark) → ((b : ℕ) → is_markup b ≡ false → K.holds (b, mark)) → (u : List ℕ) → Harmless u → TextHolds K mark u
harmless-holds K mark h [] k = tt
harmless-holds K mark h (b ∷ u) k = (h b k.0, harmless-holds K mark h u k.1)

module _ {K : Claim} where
  -- a text that is spelled with a mark of which the claim holds there
  pub bearing-each : (mark : Mark) (u : List ℕ) → TextHolds K mark u → Each (Bears K true) (bearing mark u) u
  bearing-each mark [] h = none
  bearing-each mark (b ∷ u) h = more (record { byte = refl; claimed = h.0 }) (bearing-each mark u h.1)

  -- and with any mark, where it is not safe
  pub unsafe-each : (mark : Mark) (u : List ℕ) → Each (Bears K false) (bearing mark u) u
  unsafe-each mark [] = none
  unsafe-each mark (b ∷ u) = more (record { byte = refl; claimed = tt }) (unsafe-each mark u)

  pub harmless-made : (safe : Bool) (u : List ℕ) → Harmless u → Each (Bears K safe) (bearing made u) u
  harmless-made true u h = bearing-each made u (harmless-holds K made K.of_made u h)
  harmless-made false u h = unsafe-each made u

  pub escaped-each : (u : List ℕ) → Each (Bears K true) (bearing escaped (escape_html u)) (escape_html u)
  escaped-each u = bearing-each escaped (escape_html u) (harmless-holds K escaped K.of_escaped (escape_html u) (escape_html-harmless u))

  -- the bytes inside an array or a map are those of the plain one
  mutual
    pub inside-same : {v : ValOf Marked} {w : ValOf ℕ} → Stands K v w → inside_of marking v ≡ inside_of plain w
    inside-same undefineds = refl
    inside-same nones = refl
    inside-same (bools b) = refl
    inside-same (ints z) = refl
    inside-same (texts safe rs) = ap quoted (seen-is safe rs)
    inside-same (raws t) = refl
    inside-same (arrays no_more) = refl
    inside-same (arrays (one_more s ss)) = rw (inside-same s) (rw (rest_inside-same ss) refl)
    inside-same (maps no_pairs) = refl
    inside-same (maps (one_pair k s ss)) = rw (inside-same s) (rw (pairs_inside-same ss) refl)

    pub rest_inside-same : {vs : ValsOf Marked} {ws : ValsOf ℕ} → AllStand K vs ws → rest_inside_of marking vs ≡ rest_inside_of plain ws
    rest_inside-same no_more = refl
    rest_inside-same (one_more s ss) = rw (inside-same s) (rw (rest_inside-same ss) refl)

    pub pairs_inside-same : {es : EntriesOf Marked} {fs : EntriesOf ℕ} → EntriesStand K es fs → pairs_inside_of marking es ≡ pairs_inside_of plain fs
    pairs_inside-same no_pairs = refl
    pairs_inside-same (one_pair k s ss) = rw (inside-same s) (rw (pairs_inside-same ss) refl)

  -- a value that is printed, where it is safe with its marks
  pub printed-each : {v : ValOf Marked} {w : ValOf ℕ} → Stands K v w → Each (Bears K (access.is_safe w)) (printed_of marking v) (printed_of plain w)
  printed-each undefineds = none
  printed-each nones = none
  printed-each (bools true) = harmless-made true (bool_text true) (harmless-tested (bool_text true) refl)
  printed-each (bools false) = harmless-made true (bool_text false) (harmless-tested (bool_text false) refl)
  printed-each (ints z) = harmless-made true (signed_decimal z) (signed_decimal-harmless z)
  printed-each (texts safe rs) = rs
  printed-each (raws t) = unsafe-each made (utf8_lossy t)
  printed-each {v = array vs} {w = array ws} (arrays ss) = rw (inside-same (arrays ss)) (unsafe-each made (inside_of plain (array ws)))
  printed-each {v = val.map es} {w = val.map fs} (maps ss) = rw (inside-same (maps ss)) (unsafe-each made (inside_of plain (val.map fs)))

  -- a marked value without its marks
  mutual
    pub bare-is : {v : ValOf Marked} {w : ValOf ℕ} → Stands K v w → unmarked v ≡ w
    bare-is undefineds = refl
    bare-is nones = refl
    bare-is (bools b) = refl
    bare-is (ints z) = refl
    bare-is (texts safe rs) = ap (λ t. text t safe) (seen-is safe rs)
    bare-is (raws t) = refl
    bare-is (arrays ss) = ap array (all_bare-is ss)
    bare-is (maps ss) = ap val.map (bare_entries-are ss)

    pub all_bare-is : {vs : ValsOf Marked} {ws : ValsOf ℕ} → AllStand K vs ws → all_unmarked vs ≡ ws
    all_bare-is no_more = refl
    all_bare-is (one_more s ss) = rw (bare-is s) (rw (all_bare-is ss) refl)

    pub bare_entries-are : {es : EntriesOf Marked} {fs : EntriesOf ℕ} → EntriesStand K es fs → unmarked_entries es ≡ fs
    bare_entries-are no_pairs = refl
    bare_entries-are (one_pair k s ss) = rw (bare-is s) (rw (bare_entries-are ss) refl)

  -- a value from outside, of whose safe texts the claim holds
  mutual
    pub from_outside-stands : (v : ValOf ℕ) → ValueHolds K v → Stands K (from_outside v) v
    from_outside-stands undefined h = undefineds
    from_outside-stands val.none h = nones
    from_outside-stands (bool b) h = bools b
    from_outside-stands (int z) h = ints z
    from_outside-stands (text t true) h = texts true (bearing-each marked_safe t h.0)
    from_outside-stands (text t false) h = texts false (unsafe-each outside t)
    from_outside-stands (bytes t) h = raws t
    from_outside-stands (array vs) h = arrays (all_from_outside-stand vs h)
    from_outside-stands (val.map es) h = maps (entries_from_outside-stand es h)

    pub all_from_outside-stand : (vs : ValsOf ℕ) → SafeTextsHold K (items_safe_texts vs) → AllStand K (all_from_outside vs) vs
    all_from_outside-stand no_items h = no_more
    all_from_outside-stand (item v vs) h =
        one_more (from_outside-stands v (all-left (TextHolds K marked_safe) (safe_texts v) (items_safe_texts vs) h)) (all_from_outside-stand vs (all-right (TextHolds K marked_safe) (safe_texts v) (items_safe_texts vs) h))

    pub entries_from_outside-stand : (es : EntriesOf ℕ) → SafeTextsHold K (entries_safe_texts es) → EntriesStand K (entries_from_outside es) es
    entries_from_outside-stand no_entries h = no_pairs
    entries_from_outside-stand (entry k v es) h =
        one_pair k (from_outside-stands v (all-left (TextHolds K marked_safe) (safe_texts v) (entries_safe_texts es) h)) (entries_from_outside-stand es (all-right (TextHolds K marked_safe) (safe_texts v) (entries_safe_texts es) h))

pub data OptionStands {A B : Type 0} (S : A → B → Type 0) : Option A → Option B → Type 0 where
  no_value : OptionStands S None None
  value : {a : A} {b : B} → S a b → OptionStands S (Some a) (Some b)

pub and_then-stands : {A B C D : Type 0} {S : A → B → Type 0} {T : C → D → Type 0} {x : Option A} {y : Option B} {f : A → Option C} {g : B → Option D} → OptionStands S x y → ((a : A) (b : B) → S a b → OptionStands T (f a) (g b)) → OptionStands T (option_and_then f x) (option_and_then g y)
and_then-stands no_value h = no_value
and_then-stands (value {a = a} {b = b} s) h = h a b s

pub data ResultStands {A B : Type 0} (S : A → B → Type 0) : Result A Fault → Result B Fault → Type 0 where
  answers : {a : A} {b : B} → S a b → ResultStands S (Ok a) (Ok b)
  refuses : (fault : Fault) → ResultStands S (Err fault) (Err fault)

module _ {K : Claim} where
  -- an answer from outside
  pub answers-stand : (r : Result (ValOf ℕ) Fault) → AnswerHolds K r → ResultStands (Stands K) (answer_from_outside r) r
  answers-stand (Ok v) h = answers (from_outside-stands v h)
  answers-stand (Err fault) h = refuses fault
