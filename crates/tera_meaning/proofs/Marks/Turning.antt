-- The turns of a loop over a marked value stand for those over the plain one.
use Rattle.std.proofs.Common.{◌≡◌, ℕ, Bool, true, false, not, ◌&&◌, cond, pos, List, [], ◌∷◌, refl, map, Option, Some, None, Result, Err}
use Rattle.std.specs.Option.{is_some}
use Rattle.tera_errors.specs.Site.{Name}
use Rattle.tera_errors.specs.Fault.{Fault, message}
use Rattle.tera_values.specs.Alphabet.{Marked, plain, marking, made}
use Rattle.tera_values.specs.Val.{KeyVal, kbool, kint, ktext, ValOf, int, text}
use Rattle.tera_state.specs.FoundValue.{key_as_value_in}
use Rattle.tera_state.specs.Items.{ItemOf, unkeyed, items_in}
use Rattle.tera_state.specs.Scope.{TurnOf, Heading, counters, named_item, turn, turns_from, is_map, turns_over, loop_turns_in}
use Rattle.tera_meaning.proofs.Marks.Claim.{Claim}
use Rattle.tera_meaning.proofs.Marks.Each.{Each, none, more, each-length}
use Rattle.tera_meaning.proofs.Marks.Standing.{Stands, bools, ints, texts, raws, arrays, maps, seen-is, unsafe-each, OptionStands, no_value, value, ResultStands, answers, refuses}
use Rattle.tera_meaning.proofs.Marks.Moving.{Pair, each-stands, pairs-stand}
use Rattle.tera_meaning.proofs.Marks.Around.{Binds, TurnStands}

-- an item: its key, if it has one, and its value
abbrev ItemStands : Claim → ItemOf Marked → ItemOf ℕ → Type 0
ItemStands K i j = OptionStands (Stands K) i.0 j.0 × Stands K i.1 j.1

module _ {K : Claim} where
  unkeyed-stand : {vs : List (ValOf Marked)} {ws : List (ValOf ℕ)} → Each (Stands K) vs ws → Each (ItemStands K) (unkeyed vs) (unkeyed ws)
  unkeyed-stand none = none
  unkeyed-stand (more s ss) = more (no_value, s) (unkeyed-stand ss)

  key-stands : (k : KeyVal) → Stands K (key_as_value_in marking k) (key_as_value_in plain k)
  key-stands (kbool b) = bools b
  key-stands (kint z) = ints z
  key-stands (ktext t) = texts false (unsafe-each made t)

  keyed-stand : {es : List (KeyVal × ValOf Marked)} {fs : List (KeyVal × ValOf ℕ)} → Each (Pair K) es fs
      → Each (ItemStands K) (map (λ e. (Some (key_as_value_in marking e.0), e.1)) es) (map (λ e. (Some (key_as_value_in plain e.0), e.1)) fs)
  keyed-stand none = none
  keyed-stand (more {y = f} s ss) = more (rw s.0 (value (key-stands f.0)), s.1) (keyed-stand ss)

  -- clusters are texts that were made, and not safe
  clusters-stand : (cs : List (List ℕ)) → Each (Stands K) (map (λ c. text (marking.spelled made c) false) cs) (map (λ c. text (plain.spelled made c) false) cs)
  clusters-stand [] = none
  clusters-stand (c ∷ cs) = more (texts false (unsafe-each made c)) (clusters-stand cs)

  bytes-stand : (t : List ℕ) → Each (Stands K) (map (λ b. int (pos b)) t) (map (λ b. int (pos b)) t)
  bytes-stand [] = none
  bytes-stand (b ∷ t) = more (ints (pos b)) (bytes-stand t)

  items-stand : {v : ValOf Marked} {w : ValOf ℕ} → Stands K v w → OptionStands (Each (ItemStands K)) (items_in marking v) (items_in plain w)
  items-stand (texts s rs) = rw (seen-is s rs) (value (unkeyed-stand (clusters-stand _)))
  items-stand (raws t) = value (unkeyed-stand (bytes-stand t))
  items-stand (arrays ss) = value (unkeyed-stand (each-stands ss))
  items-stand (maps ss) = value (keyed-stand (pairs-stand ss))
  items-stand _ = no_value

  counters-stand : (counts : Bool) (size index : ℕ) → Each (Binds K) (cond counts (counters size index) []) (cond counts (counters size index) [])
  counters-stand false size index = none
  counters-stand true size index =
      more (refl, ints _) (more (refl, ints _) (more (refl, bools _) (more (refl, bools _) (more (refl, ints _) none))))

  names-stand : (key : Option Name) (name : Name) {x : Option (ValOf Marked)} {y : Option (ValOf ℕ)} {v : ValOf Marked} {w : ValOf ℕ} → OptionStands (Stands K) x y → Stands K v w → Each (Binds K) (named_item key name (x, v)) (named_item key name (y, w))
  names-stand None name k s = more (refl, s) none
  names-stand (Some key) name no_value s = more (refl, s) none
  names-stand (Some key) name (value k) s = more (refl, s) (more (refl, k) none)

  turn-stands : (h : Heading) (size index : ℕ) {i : ItemOf Marked} {j : ItemOf ℕ} → ItemStands K i j → TurnStands K (turn h size index i) (turn h size index j)
  turn-stands h size index s =
      record { counters = counters-stand h.counts size index; sets = none; names = names-stand h.key h.name s.0 s.1 }

  turns_from-stand : (h : Heading) (size index : ℕ) {is : List (ItemOf Marked)} {js : List (ItemOf ℕ)} → Each (ItemStands K) is js → Each (TurnStands K) (turns_from h size index is) (turns_from h size index js)
  turns_from-stand h size index none = none
  turns_from-stand h size index (more s ss) = more (turn-stands h size index s) (turns_from-stand h size _ ss)

  turns_over-stand : (h : Heading) {x : Option (List (ItemOf Marked))} {y : Option (List (ItemOf ℕ))} → OptionStands (Each (ItemStands K)) x y → ResultStands (Each (TurnStands K)) (turns_over h x) (turns_over h y)
  turns_over-stand h no_value = refuses message
  turns_over-stand h (value ss) = rw (each-length ss) (answers (turns_from-stand h _ 0 ss))

  map-same : {v : ValOf Marked} {w : ValOf ℕ} → Stands K v w → is_map v ≡ is_map w
  map-same (maps ss) = refl
  map-same _ = refl

  pub turns-stand : (h : Heading) {v : ValOf Marked} {w : ValOf ℕ} → Stands K v w → ResultStands (Each (TurnStands K)) (loop_turns_in marking h v) (loop_turns_in plain h w)
  turns-stand h {v} {w} s = rw (map-same s) (go (is_some h.key && not (is_map w)) (turns_over-stand h (items-stand s)))
    where
      go : (refused : Bool) {x : Result (List (TurnOf Marked)) Fault} {y : Result (List (TurnOf ℕ)) Fault} → ResultStands (Each (TurnStands K)) x y → ResultStands (Each (TurnStands K)) (cond refused (Err message) x) (cond refused (Err message) y)
      go true k = refuses message
      go false k = k
