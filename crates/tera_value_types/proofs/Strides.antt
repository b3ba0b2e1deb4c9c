-- Positions by strides.
use Rattle.std.proofs.Common.{◌≡◌, ◌⊎◌, inl, inr, ℕ, zero, suc, ◌+◌, ◌-◌, ◌<◌, ◌≤◌, Bool, true, false, List, [], ◌∷◌, ◌++◌, length, get_or, cond, nat_lt, refl, sym, ap, subst, ◌∙◌, arith, append_assoc, Option, Some, None, ℤ, pos, negsuc, take, map}
use Rattle.std.proofs.lemmas.Bool.Decides.{nat_tests}
use Rattle.std.proofs.lemmas.List.{append-nil, take_more, map-append}
use Rattle.std.proofs.lemmas.Str.{encodes-append}
use Rattle.std.specs.Char.{encode_utf8}
use Rattle.std.specs.Prelude.{unsigned_abs, int_lt}
use Rattle.std.specs.Str.{encode_utf8_all}
use Rattle.tera_value_types.specs.Slices.{before, through, bound, upward, downward, positions, picked_chars}

is_below : (a b : ℕ) → a < b → nat_lt a b ≡ true
is_below a b h = grind (arith, nat_tests)

not_below : (a b : ℕ) → b ≤ a → nat_lt a b ≡ false
not_below a b h = grind (arith, nat_tests)

tested : (t : Bool) → (t ≡ true) ⊎ (t ≡ false)
tested true = inl refl
tested false = inr refl

below_or_not : (a b : ℕ) → (a < b) ⊎ (b ≤ a)
below_or_not a b = elim (tested (nat_lt a b)) [
  | inl t ↦ inl (grind (arith, nat_tests))
  | inr f ↦ inr (grind (arith, nat_tests))
]

pub up_end : (n a end step : ℕ) → end ≤ a → upward n a end step ≡ []
up_end zero a end step h = refl
up_end (suc n) a end step h = ap (λ (t : Bool). cond t (a ∷ upward n (a + step) end step) []) (not_below a end h)

up_first : (n a end step : ℕ) → a < end → upward (suc n) a end step ≡ a ∷ upward n (a + step) end step
up_first n a end step h = ap (λ (t : Bool). cond t (a ∷ upward n (a + step) end step) []) (is_below a end h)

up_one : (n a end step : ℕ) → 0 < step → end - a ≤ n → upward n a end step ≡ upward (suc n) a end step
up_one zero a end step s h = sym (up_end 1 a end step (omega arith))
up_one (suc n) a end step s h = elim (below_or_not a end) [
  | inl b ↦ up_first n a end step b ∙ ap (λ (l : List ℕ). a ∷ l) (up_one n (a + step) end step s (omega arith)) ∙ sym (up_first (suc n) a end step b)
  | inr o ↦ up_end (suc n) a end step o ∙ sym (up_end (suc (suc n)) a end step o)
]

-- the position where it stands, and the rest
pub up_step : (n a end step : ℕ) → 0 < step → end - a ≤ n → a < end → upward n a end step ≡ a ∷ upward n (a + step) end step
up_step n a end step s h b = up_one n a end step s h ∙ up_first n a end step b

-- where all positions have room, they are the same
pub up_same : (m n a end step : ℕ) → 0 < step → end - a ≤ m → end - a ≤ n → upward m a end step ≡ upward n a end step
up_same zero n a end step s h g = sym (up_end n a end step (omega arith))
up_same (suc m) zero a end step s h g = up_end (suc m) a end step (omega arith)
up_same (suc m) (suc n) a end step s h g = elim (below_or_not a end) [
  | inl b ↦ up_first m a end step b ∙ ap (λ (l : List ℕ). a ∷ l) (up_same m n (a + step) end step s (omega arith) (omega arith)) ∙ sym (up_first n a end step b)
  | inr o ↦ up_end (suc m) a end step o ∙ sym (up_end (suc n) a end step o)
]

up_below_first : (n a end step : ℕ) → a < end → ((i : ℕ) → i < length (upward n (a + step) end step) → get_or (upward n (a + step) end step) i 0 < end) → (i : ℕ) → i < length (a ∷ upward n (a + step) end step) → get_or (a ∷ upward n (a + step) end step) i 0 < end
up_below_first n a end step b rest zero h = b
up_below_first n a end step b rest (suc i) h = rest i (omega (arith, h))

-- every position is below the end
pub up_below : (n a end step : ℕ) (i : ℕ) → i < length (upward n a end step) → get_or (upward n a end step) i 0 < end
up_below zero a end step i h = absurd (omega (arith, h))
up_below (suc n) a end step i h = elim (below_or_not a end) [
  | inl b ↦ subst (λ (l : List ℕ). i < length l → get_or l i 0 < end) (sym (up_first n a end step b)) (up_below_first n a end step b (up_below n (a + step) end step) i) h
  | inr o ↦ absurd (let e : length (upward (suc n) a end step) ≡ 0 = ap length (up_end (suc n) a end step o) in omega (arith, h, e))
]

pub down_end : (n a end step : ℕ) → a ≤ end → downward n a end step ≡ []
down_end zero a end step h = refl
down_end (suc n) a end step h = ap (λ (t : Bool). cond t ((a - 1) ∷ downward n (a - step) end step) []) (not_below end a h)

down_first : (n a end step : ℕ) → end < a → downward (suc n) a end step ≡ (a - 1) ∷ downward n (a - step) end step
down_first n a end step h = ap (λ (t : Bool). cond t ((a - 1) ∷ downward n (a - step) end step) []) (is_below end a h)

down_one : (n a end step : ℕ) → 0 < step → a - end ≤ n → downward n a end step ≡ downward (suc n) a end step
down_one zero a end step s h = sym (down_end 1 a end step (omega arith))
down_one (suc n) a end step s h = elim (below_or_not end a) [
  | inl b ↦ down_first n a end step b ∙ ap (λ (l : List ℕ). (a - 1) ∷ l) (down_one n (a - step) end step s (omega arith)) ∙ sym (down_first (suc n) a end step b)
  | inr o ↦ down_end (suc n) a end step o ∙ sym (down_end (suc (suc n)) a end step o)
]

pub down_step : (n a end step : ℕ) → 0 < step → a - end ≤ n → end < a → downward n a end step ≡ (a - 1) ∷ downward n (a - step) end step
down_step n a end step s h b = down_one n a end step s h ∙ down_first n a end step b

pub down_same : (m n a end step : ℕ) → 0 < step → a - end ≤ m → a - end ≤ n → downward m a end step ≡ downward n a end step
down_same zero n a end step s h g = sym (down_end n a end step (omega arith))
down_same (suc m) zero a end step s h g = down_end (suc m) a end step (omega arith)
down_same (suc m) (suc n) a end step s h g = elim (below_or_not end a) [
  | inl b ↦ down_first m a end step b ∙ ap (λ (l : List ℕ). (a - 1) ∷ l) (down_same m n (a - step) end step s (omega arith) (omega arith)) ∙ sym (down_first n a end step b)
  | inr o ↦ down_end (suc m) a end step o ∙ sym (down_end (suc n) a end step o)
]

down_below_first : (n a end step most : ℕ) → end < a → a ≤ most → ((i : ℕ) → i < length (downward n (a - step) end step) → get_or (downward n (a - step) end step) i 0 < most) → (i : ℕ) → i < length ((a - 1) ∷ downward n (a - step) end step) → get_or ((a - 1) ∷ downward n (a - step) end step) i 0 < most
down_below_first n a end step most b w rest zero h = omega arith
down_below_first n a end step most b w rest (suc i) h = rest i (omega (arith, h))

-- every position is below the start
pub down_below : (n a end step most : ℕ) (i : ℕ) → a ≤ most → i < length (downward n a end step) → get_or (downward n a end step) i 0 < most
down_below zero a end step most i w h = absurd (omega (arith, h))
down_below (suc n) a end step most i w h = elim (below_or_not end a) [
  | inl b ↦ subst (λ (l : List ℕ). i < length l → get_or l i 0 < most) (sym (down_first n a end step b)) (down_below_first n a end step most b w (λ j. down_below n (a - step) end step most j (omega arith)) i) h
  | inr o ↦ absurd (let e : length (downward (suc n) a end step) ≡ 0 = ap length (down_end (suc n) a end step o) in omega (arith, h, e))
]

-- one more position at the end of those so far
pub position_more : (so_far now : List ℕ) (p : ℕ) (rest all whole : List ℕ) → now ≡ so_far ++ p ∷ [] → all ≡ p ∷ rest → so_far ++ all ≡ whole → now ++ rest ≡ whole
position_more so_far now p rest all whole n a w = ap (λ (l : List ℕ). l ++ rest) n ∙ append_assoc so_far (p ∷ []) rest ∙ ap (λ (l : List ℕ). so_far ++ l) (sym a) ∙ w

-- one more picked character
pub spelled_more : (ps cs : List ℕ) (i : ℕ) → i < length ps → encode_utf8_all (picked_chars (take (i + 1) ps) cs) ≡ encode_utf8_all (picked_chars (take i ps) cs) ++ encode_utf8 (get_or cs (get_or ps i 0) 0)
spelled_more ps cs i h =
    let pick : ℕ → ℕ = λ p. get_or cs p 0 in
    let c : ℕ = get_or cs (get_or ps i 0) 0 in
    ap (λ (l : List ℕ). encode_utf8_all (map pick l)) (take_more ps i 0 h)
    ∙ ap encode_utf8_all (map-append pick (take i ps) (get_or ps i 0 ∷ []))
    ∙ encodes-append (map pick (take i ps)) (c ∷ [])
    ∙ ap (λ (l : List ℕ). encode_utf8_all (map pick (take i ps)) ++ l) (append-nil (encode_utf8 c))

moves : (z : ℤ) → (z ≡ pos 0 → ⊥) → 0 < unsigned_abs z
moves (pos zero) apart = absurd (apart refl)
moves (pos (suc m)) apart = omega arith
moves (negsuc m) apart = omega arith

positions_up : (s e : Option ℤ) (z : ℤ) (n k : ℕ) → int_lt (pos 0) z ≡ true → k ≡ unsigned_abs z → upward n (bound (before n) 0 s) (bound (before n) n e) k ≡ positions s e z n
positions_up s e (pos m) n k h is = ap (λ (i : ℕ). upward n (bound (before n) 0 s) (bound (before n) n e) i) is
positions_up s e (negsuc m) n k h is = cc

positions_down : (s e : Option ℤ) (z : ℤ) (n k : ℕ) → (z ≡ pos 0 → ⊥) → int_lt (pos 0) z ≡ false → k ≡ unsigned_abs z → downward n (bound (through n) n s) (bound (through n) 0 e) k ≡ positions s e z n
positions_down s e (pos zero) n k apart h is = absurd (apart refl)
positions_down s e (pos (suc m)) n k apart h is = let t : int_lt (pos 0) (pos (suc m)) ≡ true = is_below 0 (suc m) (omega arith) in cc
positions_down s e (negsuc m) n k apart h is = ap (λ (i : ℕ). downward n (bound (through n) n s) (bound (through n) 0 e) i) is

-- the positions of a slice, by the bounds that were reckoned
module _ (s e : Option ℤ) (z : ℤ) (n first last k : ℕ) (apart : z ≡ pos 0 → ⊥) (is : k ≡ unsigned_abs z) where
  far : 0 < k
  far = rw is (moves z apart)

  pub up_positions : int_lt (pos 0) z ≡ true → first ≡ bound (before n) 0 s → last ≡ bound (before n) n e → last ≤ n → upward last first last k ≡ positions s e z n
  up_positions sign from to room =
      up_same last n first last k far (omega arith) (omega arith)
      ∙ ap (λ (i : ℕ). upward n i last k) from
      ∙ ap (λ (i : ℕ). upward n (bound (before n) 0 s) i k) to
      ∙ positions_up s e z n k sign is

  pub down_positions : int_lt (pos 0) z ≡ false → first ≡ bound (through n) n s → last ≡ bound (through n) 0 e → first ≤ n → downward first first last k ≡ positions s e z n
  down_positions sign from to room =
      down_same first n first last k far (omega arith) (omega arith)
      ∙ ap (λ (i : ℕ). downward n i last k) from
      ∙ ap (λ (i : ℕ). downward n (bound (through n) n s) i k) to
      ∙ positions_down s e z n k apart sign is

before_le : (n d : ℕ) (z : Option ℤ) → d ≤ n → bound (before n) d z ≤ n
before_le n d None h = h
before_le n d (Some (pos k)) h = omega arith
before_le n d (Some (negsuc k)) h = omega arith

through_le : (n d : ℕ) (z : Option ℤ) → d ≤ n → bound (through n) d z ≤ n
through_le n d None h = h
through_le n d (Some (pos k)) h = omega arith
through_le n d (Some (negsuc k)) h = omega arith

-- a position of a slice is one of the positions
pub positions_below : (s e : Option ℤ) (z : ℤ) (n i : ℕ) → i < length (positions s e z n) → get_or (positions s e z n) i 0 < n
positions_below s e (pos k) n i h = omega (arith, up_below n (bound (before n) 0 s) (bound (before n) n e) k i h, before_le n n e (omega arith))
positions_below s e (negsuc k) n i h = down_below n (bound (through n) n s) (bound (through n) 0 e) (suc k) n i (through_le n n s (omega arith)) h
