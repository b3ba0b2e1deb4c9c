-- Values that are taken out of others and put together stand to each other as those did.
use Rattle.std.proofs.Common.{◌≡◌, ℕ, zero, suc, Bool, true, false, cond, List, [], ◌∷◌, length, refl, ap, subst, ℤ, pos, if◌then◌else◌, Option, Some, None, Result, Ok, Err, slice_get, slice_index_or, unwrap_or}
use Rattle.std.specs.Str.{chars, encode_utf8_all}
use Rattle.std.specs.Ordering.{int_eq}
use Rattle.std.specs.Char.{encode_utf8}
use Rattle.tera_errors.specs.Fault.{Fault, message}
use Rattle.tera_meaning.proofs.Marks.Claim.{Claim}
use Rattle.tera_meaning.proofs.Marks.Each.{Each, none, more, each-length}
use Rattle.tera_meaning.proofs.Marks.Standing.{Stands, AllStand, EntriesStand, undefineds, ints, texts, raws, arrays, maps, no_more, one_more, no_pairs, one_pair, seen-is, unsafe-each, OptionStands, no_value, value, ResultStands, answers, refuses}
use Rattle.tera_values.specs.Alphabet.{Marked, plain, marking, made}
use Rattle.tera_values.specs.Val as val
use Rattle.tera_values.specs.Val.{KeyVal, ValOf, ValsOf, EntriesOf, list_of, vals, entries}
use Rattle.tera_values.specs.Access as access
use Rattle.tera_values.specs.Access.{find, insert_pair, pairs, attr, key_eq, key_in}
use Rattle.tera_values.specs.Items as items
use Rattle.tera_values.specs.Items.{position_of, or_undefined, item_at, char_in, char_or_undefined_in, char_from_in, byte_at, found_at, get_item_in}
use Rattle.tera_values.specs.Slices.{positions, picked_items, picked_chars, unless_still, slice_in}

module _ {K : Claim} where
  pub undefined-same : {v : ValOf Marked} {w : ValOf ℕ} → Stands K v w → access.is_undefined v ≡ access.is_undefined w
  undefined-same undefineds = refl
  undefined-same _ = refl

  pub safe-same : {v : ValOf Marked} {w : ValOf ℕ} → Stands K v w → access.is_safe v ≡ access.is_safe w
  safe-same (texts s rs) = refl
  safe-same _ = refl

  pub truthy-same : {v : ValOf Marked} {w : ValOf ℕ} → Stands K v w → access.truthy v ≡ access.truthy w
  truthy-same (texts s none) = refl
  truthy-same (raws []) = refl
  truthy-same (arrays no_more) = refl
  truthy-same (maps no_pairs) = refl
  truthy-same _ = refl

  pub int-same : {v : ValOf Marked} {w : ValOf ℕ} → Stands K v w → access.int_of v ≡ access.int_of w
  int-same (ints z) = refl
  int-same _ = refl

  pub key-same : {v : ValOf Marked} {w : ValOf ℕ} → Stands K v w → key_in marking v ≡ key_in plain w
  key-same (texts s rs) = rw (seen-is s rs) refl
  key-same _ = refl

  pub each-stands : {vs : ValsOf Marked} {ws : ValsOf ℕ} → AllStand K vs ws → Each (Stands K) (list_of vs) (list_of ws)
  each-stands no_more = none
  each-stands (one_more s ss) = more s (each-stands ss)

  pub all-stand : {vs : List (ValOf Marked)} {ws : List (ValOf ℕ)} → Each (Stands K) vs ws → AllStand K (vals vs) (vals ws)
  all-stand none = no_more
  all-stand (more s ss) = one_more s (all-stand ss)

-- a key and its value
abbrev pub Pair : Claim → KeyVal × ValOf Marked → KeyVal × ValOf ℕ → Type 0
Pair K e f = (e.0 ≡ f.0) × Stands K e.1 f.1

module _ {K : Claim} where
  pub pairs-stand : {es : EntriesOf Marked} {fs : EntriesOf ℕ} → EntriesStand K es fs → Each (Pair K) (pairs es) (pairs fs)
  pairs-stand no_pairs = none
  pairs-stand (one_pair k s ss) = more (refl, s) (pairs-stand ss)

  pub entries-stand : {es : List (KeyVal × ValOf Marked)} {fs : List (KeyVal × ValOf ℕ)} → Each (Pair K) es fs → EntriesStand K (entries es) (entries fs)
  entries-stand none = no_pairs
  entries-stand (more {x = e} {y = f} {xs = es} {ys = fs} s ss) =
      subst (λ k. EntriesStand K (val.entry e.0 e.1 (entries es)) (val.entry k f.1 (entries fs))) s.0 (one_pair e.0 s.1 (entries-stand ss))

  pub either_option : (b : Bool) {x x' : Option (ValOf Marked)} {y y' : Option (ValOf ℕ)} → OptionStands (Stands K) x y → OptionStands (Stands K) x' y' → OptionStands (Stands K) (if b then x else x') (if b then y else y')
  either_option true s t = s
  either_option false s t = t

  pub find-stands : (k : KeyVal) {es : List (KeyVal × ValOf Marked)} {fs : List (KeyVal × ValOf ℕ)} → Each (Pair K) es fs → OptionStands (Stands K) (find k es) (find k fs)
  find-stands k none = no_value
  find-stands k (more s ss) = rw s.0 (either_option _ (value s.1) (find-stands k ss))

  pub attr-stands : (n : List ℕ) {v : ValOf Marked} {w : ValOf ℕ} → Stands K v w → OptionStands (Stands K) (attr n v) (attr n w)
  attr-stands n (maps ss) = find-stands (val.ktext n) (pairs-stand ss)
  attr-stands n _ = no_value

  pub or_undefined-stands : {v : Option (ValOf Marked)} {w : Option (ValOf ℕ)} → OptionStands (Stands K) v w → Stands K (or_undefined v) (or_undefined w)
  or_undefined-stands no_value = undefineds
  or_undefined-stands (value s) = s

  pub get-stands : (i : ℕ) {vs : List (ValOf Marked)} {ws : List (ValOf ℕ)} → Each (Stands K) vs ws → OptionStands (Stands K) (slice_get vs i) (slice_get ws i)
  get-stands i none = no_value
  get-stands zero (more s ss) = value s
  get-stands (suc i) (more s ss) = get-stands i ss

  item_at-stands : (p : Option ℕ) {vs : List (ValOf Marked)} {ws : List (ValOf ℕ)} → Each (Stands K) vs ws → Stands K (item_at p vs) (item_at p ws)
  item_at-stands None ss = undefineds
  item_at-stands (Some i) ss = or_undefined-stands (get-stands i ss)

  char-stands : (c : ℕ) → Stands K (char_in marking c) (char_in plain c)
  char-stands c = texts false (unsafe-each made (encode_utf8 c))

  char_or-stands : (c : Option ℕ) → Stands K (char_or_undefined_in marking c) (char_or_undefined_in plain c)
  char_or-stands None = undefineds
  char_or-stands (Some c) = char-stands c

  char_from-stands : (p : Option ℕ) (cs : List ℕ) → Stands K (char_from_in marking p cs) (char_from_in plain p cs)
  char_from-stands None cs = undefineds
  char_from-stands (Some i) cs = char_or-stands (slice_get cs i)

  byte_or-stands : (b : Option ℕ) → Stands K (items.byte_or_undefined b) (items.byte_or_undefined b)
  byte_or-stands None = undefineds
  byte_or-stands (Some b) = ints (pos b)

  byte_at-stands : (p : Option ℕ) (t : List ℕ) → Stands K (byte_at p t) (byte_at p t)
  byte_at-stands None t = undefineds
  byte_at-stands (Some i) t = byte_or-stands (slice_get t i)

  found-stands : (k : Result KeyVal Fault) {es : List (KeyVal × ValOf Marked)} {fs : List (KeyVal × ValOf ℕ)} → Each (Pair K) es fs → ResultStands (Stands K) (found_at k es) (found_at k fs)
  found-stands (Ok k) ss = answers (or_undefined-stands (find-stands k ss))
  found-stands (Err f) ss = refuses f

  pub get_item-stands : {v i : ValOf Marked} {w j : ValOf ℕ} → Stands K v w → Stands K i j → ResultStands (Stands K) (get_item_in marking v i) (get_item_in plain w j)
  get_item-stands (texts s {u = u} rs) (ints z) = rw (seen-is s rs) (answers (char_from-stands (position_of z (length (chars u))) (chars u)))
  get_item-stands (raws t) (ints z) = answers (byte_at-stands _ t)
  get_item-stands (arrays ss) (ints z) = rw (each-length (each-stands ss)) (answers (item_at-stands _ (each-stands ss)))
  get_item-stands (maps ss) i = rw (key-same i) (found-stands _ (pairs-stand ss))
  get_item-stands _ _ = refuses message

  pick-stands : (p : ℕ) {vs : List (ValOf Marked)} {ws : List (ValOf ℕ)} → Each (Stands K) vs ws → Stands K (slice_index_or vs p val.undefined) (slice_index_or ws p val.undefined)
  pick-stands p none = undefineds
  pick-stands zero (more s ss) = s
  pick-stands (suc p) (more s ss) = pick-stands p ss

  picked-stand : (ps : List ℕ) {vs : List (ValOf Marked)} {ws : List (ValOf ℕ)} → Each (Stands K) vs ws → Each (Stands K) (picked_items ps vs) (picked_items ps ws)
  picked-stand [] ss = none
  picked-stand (p ∷ ps) ss = more (pick-stands p ss) (picked-stand ps ss)

  still-stands : (z : ℤ) {v : ValOf Marked} {w : ValOf ℕ} → Stands K v w → ResultStands (Stands K) (unless_still z v) (unless_still z w)
  still-stands z {v} {w} s = go (int_eq z (pos 0))
    where
      go : (b : Bool) → ResultStands (Stands K) (cond b (Err message) (Ok v)) (cond b (Err message) (Ok w))
      go true = refuses message
      go false = answers s

  pub slice-stands : (start end step : Option ℤ) {v : ValOf Marked} {w : ValOf ℕ} → Stands K v w → ResultStands (Stands K) (slice_in marking start end step v) (slice_in plain start end step w)
  slice-stands start end step (texts s {u = u} rs) =
      let by = unwrap_or step (pos 1) in
      let cs = encode_utf8_all (picked_chars (positions start end by (length (chars u))) (chars u)) in
      rw (seen-is s rs) (still-stands by (texts false (unsafe-each made cs)))
  slice-stands start end step (arrays {ws = ws} ss) =
      let by = unwrap_or step (pos 1) in
      rw (each-length (each-stands ss)) (still-stands by (arrays (all-stand (picked-stand (positions start end by (length (list_of ws))) (each-stands ss)))))
  slice-stands start end step _ = refuses message

  pub inserted-stands : (k : KeyVal) {v : ValOf Marked} {w : ValOf ℕ} {es : List (KeyVal × ValOf Marked)} {fs : List (KeyVal × ValOf ℕ)} → Stands K v w → Each (Pair K) es fs → Each (Pair K) (insert_pair es k v) (insert_pair fs k w)
  inserted-stands k s none = more (refl, s) none
  inserted-stands k {v} {w} s (more {x = e} {y = f} {xs = es} {ys = fs} t ts) = go (key_eq k e.0) (key_eq k f.0) (ap (key_eq k) t.0) (inserted-stands k s ts)
    where
      go : (b c : Bool) → b ≡ c → Each (Pair K) (insert_pair es k v) (insert_pair fs k w) → Each (Pair K) (if b then (e.0, v) ∷ es else e ∷ insert_pair es k v) (if c then (f.0, w) ∷ fs else f ∷ insert_pair fs k w)
      go true true h rest = more (t.0, s) ts
      go false false h rest = more t rest
      go true false h rest = cc
      go false true h rest = cc
