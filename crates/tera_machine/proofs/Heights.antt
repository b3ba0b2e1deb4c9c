-- What is open, by the heights at which things lie.
use Rattle.std.proofs.Common.{◌≡◌, ◌≢◌, ℕ, zero, suc, ◌-◌, ◌<◌, ◌≤◌, Bool, true, false, ◌||◌, ◌⊎◌, if◌then◌else◌, cond, List, [], ◌∷◌, ◌++◌, length, take, drop, reverse, slice_get, Some, refl, sym, ap, ap₂, ◌∙◌, inl, inr, true≢false, arith}
use Rattle.std.specs.Prelude.{nat_eq, nat_lt, min}
use Rattle.std.proofs.Math.Seq.{take-append_seam, drop-append_seam}
use Rattle.std.proofs.lemmas.Bool.{lt-ltb, le-ltb, cases_lt, eq-eqb, eqb-true}
use Rattle.std.proofs.lemmas.List.{take-append-drop, length-append, length-drop, length-map, length-reverse}
use Rattle.std.proofs.lemmas.Grind.{reverse_onto}
use Rattle.std.proofs.lemmas.Option.{slice_get_within}
use Rattle.std.specs.Cmp.{nat_eq_equiv}
use Rattle.std.specs.Map.{lookup}
use Rattle.std.specs.Option.{unwrap_or}
use Rattle.tera_machine.specs.OpenThings.{Nested, one_more, one_fewer, begun, parted, ended_at, has_number, few, height_of, marked_at, mark_at, IsMarked, things_of, AreMarked}
use Rattle.tera_machine.specs.declared.open_things.Marked.{Marked}

-- What lies inside, and what around.

module _ {X : Type 0} where
  abbrev cut : List X → ℕ → Nested X
  cut xs k = record { inner = take k xs; around = drop k xs }

  pub parted_more : (start : ℕ) (x : X) (xs : List X) → start ≤ length xs → parted start (x ∷ xs) ≡ one_more x (parted start xs)
  parted_more start x xs within =
      let e : suc (length xs) - start ≡ suc (length xs - start) = omega (arith, within) in ap (cut (x ∷ xs)) e

  pub parted_fewer : (start : ℕ) (x : X) (xs : List X) → start ≤ length xs → parted start xs ≡ one_fewer (parted start (x ∷ xs))
  parted_fewer start x xs within = sym (ap one_fewer (parted_more start x xs within))

  -- nothing lies inside
  pub parted_none : (start : ℕ) (xs : List X) → length xs ≤ start → parted start xs ≡ one_fewer (parted start xs)
  parted_none start xs past =
      let e : length xs - start ≡ 0 = omega (arith, past) in ap (cut xs) e ∙ sym (ap (λ k. one_fewer (cut xs k)) e)

  pub parted_begun : (start : ℕ) (xs : List X) → parted (length xs) xs ≡ begun (parted start xs)
  parted_begun start xs =
      let e : length xs - length xs ≡ 0 = omega arith in
      ap (cut xs) e ∙ ap (λ all. record { inner = []; around = all }) (sym (take-append-drop (length xs - start) xs))

  -- the start is how much lies around
  pub start_is : (start : ℕ) (xs : List X) → start ≤ length xs → start ≡ length (parted start xs).around
  start_is start xs within = omega (arith, within, length-drop (length xs - start) xs)

  pub parted_ended : (start least before : ℕ) (xs : List X) → least ≡ min start (length xs) → parted least xs ≡ ended_at start (parted before xs)
  parted_ended start least before xs is =
      let e : length xs - least ≡ length xs - start = omega (arith, is) in
      ap (cut xs) e ∙ sym (ap (parted start) (take-append-drop (length xs - before) xs))

  ended_begun : (o : Nested X) → ended_at (length o.around) (begun o) ≡ o
  ended_begun o =
      let all = o.inner ++ o.around in
      let e : length all - length o.around ≡ length o.inner = omega (arith, length-append o.inner o.around) in
      ap (cut all) e ∙ ap₂ (λ xs ys. record { inner = xs; around = ys }) (take-append_seam o.inner o.around) (drop-append_seam o.inner o.around)

  -- what ends where it began leaves all as it was
  pub ended_again : {o begins stays ends : Nested X} {start : ℕ} → begins ≡ begun o → start ≡ length o.around → stays ≡ begins → ends ≡ ended_at start stays → ends ≡ o
  ended_again {o} b s stay e = e ∙ ap₂ ended_at s (stay ∙ b) ∙ ended_begun o

-- A mark that is put in the map.
pub set_mark : (number k height : ℕ) (old new : List (ℕ × ℕ)) → number ≡ k → ((q : ℕ) → lookup (nat_eq q) new ≡ cond (nat_eq number q) (Some height) (lookup (nat_eq q) old)) → IsMarked k height old new
set_mark number k height old new e updates = λ n. ap (λ o. unwrap_or o 0) (updates n) ∙ by n (nat_eq number n) (nat_eq n k) (nat_eq_equiv.symm number n ∙ ap (nat_eq n) e)
  where
    by : (n : ℕ) (a b : Bool) → a ≡ b → unwrap_or (cond a (Some height) (lookup (nat_eq n) old)) 0 ≡ (if b then height else mark_at old n)
    by n true true h = refl
    by n true false h = absurd (true≢false h)
    by n false true h = absurd (true≢false (sym h))
    by n false false h = refl

-- What lies beneath the last of a list, and the last.

module _ {X : Type 0} where
  beneath_last : (xs : List X) (y : X) (i : ℕ) → i < length xs → slice_get (xs ++ y ∷ []) i ≡ slice_get xs i
  beneath_last [] y i l = absurd (omega (arith, l))
  beneath_last (x ∷ xs) y zero l = refl
  beneath_last (x ∷ xs) y (suc i) l = beneath_last xs y i (omega (arith, l))

  last_at : (xs : List X) (y : X) → slice_get (xs ++ y ∷ []) (length xs) ≡ Some y
  last_at [] y = refl
  last_at (x ∷ xs) y = last_at xs y

to_suc : (i k : ℕ) → i < suc k → (i < k) ⊎ (i ≡ k)
to_suc i k l = by (cases_lt i k)
  where
    by : (i < k) ⊎ (k ≤ i) → (i < k) ⊎ (i ≡ k)
    by (inl before) = inl before
    by (inr behind) = inr (omega (arith, l, behind))

-- Heights and marks.

module _ {X : Type 0} (number_of : X → ℕ) where
  pub height_within : (n : ℕ) (xs : List X) → height_of number_of n xs ≤ length xs
  height_within n [] = omega arith
  height_within n (x ∷ xs) = by (nat_eq n (number_of x)) (height_within n xs)
    where
      by : (b : Bool) → height_of number_of n xs ≤ length xs → (if b then suc (length xs) else height_of number_of n xs) ≤ suc (length xs)
      by true l = omega arith
      by false l = omega (arith, l)

  none_inside : (n start : ℕ) (xs : List X) → length xs ≤ start → has_number number_of n (parted start xs).inner ≡ nat_lt start (height_of number_of n xs)
  none_inside n start xs past =
      let e : length xs - start ≡ 0 = omega (arith, past) in
      let l : height_of number_of n xs ≤ start = omega (arith, past, height_within n xs) in
      ap (λ k. has_number number_of n (take k xs)) e ∙ sym (le-ltb start (height_of number_of n xs) l)

  -- a number is among those inside where it lies above the start
  pub has_by_height : (n start : ℕ) (xs : List X) → has_number number_of n (parted start xs).inner ≡ nat_lt start (height_of number_of n xs)
  has_by_height n start [] = none_inside n start [] (omega arith)
  has_by_height n start (x ∷ xs) = by_start (cases_lt start (suc (length xs))) (has_by_height n start xs)
    where
      by : (b : Bool) → start ≤ length xs → has_number number_of n (parted start xs).inner ≡ nat_lt start (height_of number_of n xs) → (b || has_number number_of n (parted start xs).inner) ≡ nat_lt start (if b then suc (length xs) else height_of number_of n xs)
      by true l rest = sym (lt-ltb start (suc (length xs)) (omega (arith, l)))
      by false l rest = rest

      by_start : (start < suc (length xs)) ⊎ (suc (length xs) ≤ start) → has_number number_of n (parted start xs).inner ≡ nat_lt start (height_of number_of n xs) → has_number number_of n (parted start (x ∷ xs)).inner ≡ nat_lt start (height_of number_of n (x ∷ xs))
      by_start (inl l) rest =
          (let within : start ≤ length xs = omega (arith, l) in
          ap (λ (o : Nested X). has_number number_of n o.inner) (parted_more start x xs within) ∙ by (nat_eq n (number_of x)) within rest)
      by_start (inr past) rest = none_inside n start (x ∷ xs) past

  -- the height of a thing of this number is at most that of the topmost
  height_least_by : (n i : ℕ) (m : Marked X) (ms : List (Marked X)) (b : Bool) → nat_eq n (number_of m.thing) ≡ b → (k : Marked X) → slice_get (reverse ms ++ m ∷ []) i ≡ Some k → number_of k.thing ≡ n → (slice_get (reverse ms) i ≡ Some k → i < height_of number_of n (things_of ms)) → (i < length ms) ⊎ (i ≡ length ms) → i < (if b then suc (length (things_of ms)) else height_of number_of n (things_of ms))
  height_least_by n i m ms true e k at is low (inl l) = omega (arith, l, length-map ms (λ (m : Marked X). m.thing))
  height_least_by n i m ms true e k at is low (inr l) = omega (arith, l, length-map ms (λ (m : Marked X). m.thing))
  height_least_by n i m ms false e k at is low (inl l) = low (sym (beneath_last (reverse ms) m i (omega (arith, l, length-reverse ms))) ∙ at)
  height_least_by n i m ms false e k at is low (inr l) =
      let q : Some m ≡ Some k = sym (last_at (reverse ms) m) ∙ ap (slice_get (reverse ms ++ m ∷ [])) (length-reverse ms ∙ sym l) ∙ at in
      let same : m ≡ k = cc in
      absurd (true≢false (sym (eq-eqb n (number_of m.thing) (sym (ap (λ (k : Marked X). number_of k.thing) same ∙ is))) ∙ e))

  pub height_least : (n i : ℕ) (k : Marked X) (ms : List (Marked X)) → slice_get (reverse ms) i ≡ Some k → number_of k.thing ≡ n → i < height_of number_of n (things_of ms)
  height_least n i k [] at is = cc
  height_least n i k (m ∷ ms) at is =
      let at : slice_get (reverse ms ++ m ∷ []) i ≡ Some k = ap (λ l. slice_get l i) (sym (reverse_onto ms m [])) ∙ at in
      let within : i < length (reverse ms ++ m ∷ []) = slice_get_within (reverse ms ++ m ∷ []) i k at in
      height_least_by n i m ms (nat_eq n (number_of m.thing)) refl k at is (λ a. height_least n i k ms a is) (to_suc i (length ms) (omega (arith, within, length-append (reverse ms) (m ∷ []), length-reverse ms)))

  -- at its height lies the topmost
  topmost_by : (n h : ℕ) (m : Marked X) (ms : List (Marked X)) (b : Bool) → nat_eq n (number_of m.thing) ≡ b → (if b then suc (length (things_of ms)) else height_of number_of n (things_of ms)) ≡ suc h → (height_of number_of n (things_of ms) ≡ suc h → (k : Marked X) × (slice_get (reverse ms) h ≡ Some k) × (number_of k.thing ≡ n)) → (k : Marked X) × (slice_get (reverse ms ++ m ∷ []) h ≡ Some k) × (number_of k.thing ≡ n)
  topmost_by n h m ms true e is low =
      let l : h ≡ length (reverse ms) = omega (arith, is, length-map ms (λ (m : Marked X). m.thing), length-reverse ms) in
      (m, ap (slice_get (reverse ms ++ m ∷ [])) l ∙ last_at (reverse ms) m, sym (eqb-true n (number_of m.thing) e))
  topmost_by n h m ms false e is low =
      let there = low is in
      (there.0, beneath_last (reverse ms) m h (slice_get_within (reverse ms) h there.0 there.1) ∙ there.1, there.2)

  pub topmost : (n h : ℕ) (ms : List (Marked X)) → height_of number_of n (things_of ms) ≡ suc h → (k : Marked X) × (slice_get (reverse ms) h ≡ Some k) × (number_of k.thing ≡ n)
  topmost n h [] is = absurd (omega (arith, is))
  topmost n h (m ∷ ms) is =
      let t = topmost_by n h m ms (nat_eq n (number_of m.thing)) refl is (topmost n h ms) in
      (t.0, ap (λ l. slice_get l h) (reverse_onto ms m []) ∙ t.1, t.2)

  -- none at these heights has this number
  abbrev pub NoneFrom : ℕ → ℕ → ℕ → List (Marked X) → Type 0
  NoneFrom n start end ms = (i : ℕ) (k : Marked X) → start ≤ i → i < end → slice_get (reverse ms) i ≡ Some k → number_of k.thing ≢ n

  pub none_more : (n start end : ℕ) (m : Marked X) (ms : List (Marked X)) → NoneFrom n start end ms → slice_get (reverse ms) end ≡ Some m → number_of m.thing ≢ n → NoneFrom n start (suc end) ms
  none_more n start end m ms none at other = λ i k from before there. by i k from there (to_suc i end before)
    where
      by : (i : ℕ) (k : Marked X) → start ≤ i → slice_get (reverse ms) i ≡ Some k → (i < end) ⊎ (i ≡ end) → number_of k.thing ≢ n
      by i k from there (inl before) = none i k from before there
      by i k from there (inr e) = λ is.
          (let q : Some k ≡ Some m = sym there ∙ ap (slice_get (reverse ms)) e ∙ at in
          let same : k ≡ m = cc in
          other (sym (ap (λ (m : Marked X). number_of m.thing) same) ∙ is))

  -- so what has the number and is one of the few lowest lies around
  pub none_low : (n start end : ℕ) (ms : List (Marked X)) → NoneFrom n start end ms → min (length ms) few ≤ end → height_of number_of n (things_of ms) ≤ few → height_of number_of n (things_of ms) ≤ start
  none_low n start end ms none all low = by (height_of number_of n (things_of ms)) refl
    where
      by_start : (h : ℕ) → height_of number_of n (things_of ms) ≡ suc h → (start < suc h) ⊎ (suc h ≤ start) → suc h ≤ start
      by_start h e (inr past) = past
      by_start h e (inl l) =
          (let top = topmost n h ms e in
          let within = slice_get_within (reverse ms) h top.0 top.1 in
          absurd (none h top.0 (omega (arith, l)) (omega (arith, all, e, low, within, length-reverse ms)) top.1 top.2))

      by : (h : ℕ) → height_of number_of n (things_of ms) ≡ h → height_of number_of n (things_of ms) ≤ start
      by zero e = omega (arith, e)
      by (suc h) e = rw e (by_start h e (cases_lt start (suc h)))

  -- what is inside and is none of the few lowest is told by the mark
  pub by_mark : (n start : ℕ) (xs : List X) → (height_of number_of n xs ≤ few → height_of number_of n xs ≤ start) → nat_lt start (marked_at (height_of number_of n xs)) ≡ nat_lt start (height_of number_of n xs)
  by_mark n start xs low = by (cases_lt few (height_of number_of n xs))
    where
      by : (few < height_of number_of n xs) ⊎ (height_of number_of n xs ≤ few) → nat_lt start (marked_at (height_of number_of n xs)) ≡ nat_lt start (height_of number_of n xs)
      by (inl l) = ap (λ b. nat_lt start (if b then height_of number_of n xs else 0)) (lt-ltb few (height_of number_of n xs) l)
      by (inr l) =
          ap (λ b. nat_lt start (if b then height_of number_of n xs else 0)) (le-ltb few (height_of number_of n xs) l)
          ∙ le-ltb start 0 (omega arith)
          ∙ sym (le-ltb start (height_of number_of n xs) (low l))

  -- the few lowest have no mark
  pub mark_low : (n : ℕ) (xs : List X) → length xs ≤ few → marked_at (height_of number_of n xs) ≡ 0
  mark_low n xs low = ap (λ b. if b then height_of number_of n xs else 0) (le-ltb few (height_of number_of n xs) (omega (arith, low, height_within n xs)))

  -- one more above them, and its mark
  pub mark_high : (n : ℕ) (x : X) (xs : List X) → few ≤ length xs → marked_at (height_of number_of n (x ∷ xs)) ≡ (if nat_eq n (number_of x) then suc (length xs) else marked_at (height_of number_of n xs))
  mark_high n x xs high = by (nat_eq n (number_of x))
    where
      by : (b : Bool) → marked_at (if b then suc (length xs) else height_of number_of n xs) ≡ (if b then suc (length xs) else marked_at (height_of number_of n xs))
      by true = ap (λ b. if b then suc (length xs) else 0) (lt-ltb few (suc (length xs)) (omega (arith, high)))
      by false = refl

  pub more_low : (start before : ℕ) (x : X) (ms : List (Marked X)) (marks : List (ℕ × ℕ)) → AreMarked number_of start ms marks → length ms < few → before ≡ 0 → AreMarked number_of start (record { thing = x; before = before } ∷ ms) marks
  more_low start before x ms marks are low was =
      let all = length-map ms (λ (m : Marked X). m.thing) in
      record {
        started = omega (arith, are.started);
        marked = λ n. are.marked n ∙ mark_low n (things_of ms) (omega (arith, low, all)) ∙ sym (mark_low n (x ∷ things_of ms) (omega (arith, low, all)));
        before = (was ∙ sym (mark_low (number_of x) (things_of ms) (omega (arith, low, all))), are.before);
      }

  pub more_high : (start before height : ℕ) (x : X) (ms : List (Marked X)) (marks new : List (ℕ × ℕ)) → AreMarked number_of start ms marks → few ≤ length ms → before ≡ mark_at marks (number_of x) → height ≡ suc (length ms) → IsMarked (number_of x) height marks new → AreMarked number_of start (record { thing = x; before = before } ∷ ms) new
  more_high start before height x ms marks new are high was is set =
      let all = length-map ms (λ (m : Marked X). m.thing) in
      let top : height ≡ suc (length (things_of ms)) = is ∙ ap suc (sym all) in
      record {
        started = omega (arith, are.started);
        marked = λ n.
            set n
            ∙ ap₂ (λ h k. if nat_eq n (number_of x) then h else k) top (are.marked n)
            ∙ sym (mark_high n x (things_of ms) (omega (arith, high, all)));
        before = (was ∙ are.marked (number_of x), are.before);
      }

  pub fewer_low : (start : ℕ) (m : Marked X) (ms : List (Marked X)) (marks : List (ℕ × ℕ)) → AreMarked number_of start (m ∷ ms) marks → start ≤ length ms → length ms < few → AreMarked number_of start ms marks
  fewer_low start m ms marks are within low =
      let all = length-map ms (λ (m : Marked X). m.thing) in
      record {
        started = within;
        marked = λ n. are.marked n ∙ mark_low n (m.thing ∷ things_of ms) (omega (arith, low, all)) ∙ sym (mark_low n (things_of ms) (omega (arith, low, all)));
        before = are.before.1;
      }

  pub fewer_high : (start : ℕ) (m : Marked X) (ms : List (Marked X)) (marks new : List (ℕ × ℕ)) → AreMarked number_of start (m ∷ ms) marks → start ≤ length ms → few ≤ length ms → IsMarked (number_of m.thing) m.before marks new → AreMarked number_of start ms new
  fewer_high start m ms marks new are within high set =
      (let rest = things_of ms in
      record {
        started = within;
        marked = λ n. set n ∙ back n (nat_eq n (number_of m.thing)) refl;
        before = are.before.1;
      })
    where
      back : (n : ℕ) (b : Bool) → nat_eq n (number_of m.thing) ≡ b → (if b then m.before else mark_at marks n) ≡ marked_at (height_of number_of n (things_of ms))
      back n true e = are.before.0 ∙ ap (λ i. marked_at (height_of number_of i (things_of ms))) (sym (eqb-true n (number_of m.thing) e))
      back n false e = are.marked n ∙ mark_high n m.thing (things_of ms) (omega (arith, high, length-map ms (λ (m : Marked X). m.thing))) ∙ ap (λ b. if b then suc (length (things_of ms)) else marked_at (height_of number_of n (things_of ms))) e

  -- what ends above the few lowest has a mark
  pub top_marked : (start : ℕ) (m : Marked X) (ms : List (Marked X)) (marks : List (ℕ × ℕ)) → AreMarked number_of start (m ∷ ms) marks → few ≤ length ms → 0 < mark_at marks (number_of m.thing)
  top_marked start m ms marks are high =
      let n = number_of m.thing in
      let rest = things_of ms in
      let top : mark_at marks n ≡ suc (length rest) = are.marked n ∙ mark_high n m.thing rest (omega (arith, high, length-map ms (λ (m : Marked X). m.thing))) ∙ ap (λ b. if b then suc (length rest) else marked_at (height_of number_of n rest)) (eq-eqb n n refl) in
      omega (arith, top)

  -- another start among them
  pub started_at : (start other : ℕ) (ms : List (Marked X)) (marks : List (ℕ × ℕ)) → AreMarked number_of start ms marks → other ≤ length ms → AreMarked number_of other ms marks
  started_at start other ms marks are within = record { started = within; marked = are.marked; before = are.before }
