-- A part of a text, by its position.
use Rattle.std.proofs.Common.{◌≡◌, ◌⊎◌, inl, inr, ℕ, zero, suc, ◌+◌, ◌<◌, ◌≤◌, Bool, true, false, ◌&&◌, ◌||◌, eqb, List, [], ◌∷◌, length, get_or, Option, Some, None, is_some, refl, sym, ap, ◌∙◌, arith}
use Rattle.std.proofs.lemmas.Bool.Decides.{nat_tests}
use Rattle.memchr.specs.Find.{OccursAt, FindsNeedle}
use Rattle.tera_value_types.specs.Slices.{begins, is_part}

tested : (b : Bool) → (b ≡ true) ⊎ (b ≡ false)
tested true = inl refl
tested false = inr refl

same_byte : (x y : ℕ) → y ≡ x → eqb x y ≡ true
same_byte x y h = grind (arith, nat_tests)

one_byte : (x y : ℕ) → eqb x y ≡ true → y ≡ x
one_byte x y h = grind (arith, nat_tests)

both : (a b : Bool) → a ≡ true → b ≡ true → (a && b) ≡ true
both true true h g = refl
both true false h g = g
both false b h g = h

left : (a b : Bool) → (a && b) ≡ true → a ≡ true
left true b h = refl
left false b h = h

right : (a b : Bool) → (a && b) ≡ true → b ≡ true
right true b h = h
right false b h = cc

either_left : (a b : Bool) → a ≡ true → (a || b) ≡ true
either_left true b h = refl
either_left false b h = cc

either_right : (a b : Bool) → b ≡ true → (a || b) ≡ true
either_right true b h = refl
either_right false b h = h

begins_here : (n t : List ℕ) → length n ≤ length t → ((j : ℕ) → j < length n → get_or t j 0 ≡ get_or n j 0) → begins n t ≡ true
begins_here [] t h r = refl
begins_here (x ∷ n) [] h r = absurd (omega (arith, h))
begins_here (x ∷ n) (y ∷ t) h r = both (eqb x y) (begins n t) (same_byte x y (r 0 (omega arith))) (begins_here n t (omega (arith, h)) (λ j l. r (suc j) (omega (arith, l))))

begins_fits : (n t : List ℕ) → begins n t ≡ true → length n ≤ length t
begins_fits [] t h = omega arith
begins_fits (x ∷ n) [] h = cc
begins_fits (x ∷ n) (y ∷ t) h = omega (arith, begins_fits n t (right (eqb x y) (begins n t) h))

begins_reads : (n t : List ℕ) → begins n t ≡ true → (j : ℕ) → j < length n → get_or t j 0 ≡ get_or n j 0
begins_reads [] t h j l = absurd (omega (arith, l))
begins_reads (x ∷ n) [] h j l = cc
begins_reads (x ∷ n) (y ∷ t) h zero l = one_byte x y (left (eqb x y) (begins n t) h)
begins_reads (x ∷ n) (y ∷ t) h (suc j) l = begins_reads n t (right (eqb x y) (begins n t) h) j (omega (arith, l))

part_first : (n t : List ℕ) → begins n t ≡ true → is_part n t ≡ true
part_first n [] h = h
part_first n (y ∷ t) h = either_left (begins n (y ∷ t)) (is_part n t) h

-- what occurs at a position is a part
part_at : (n t : List ℕ) (k : ℕ) → k + length n ≤ length t → ((j : ℕ) → j < length n → get_or t (k + j) 0 ≡ get_or n j 0) → is_part n t ≡ true
part_at n t zero h r = part_first n t (begins_here n t (omega (arith, h)) (λ j l. let e : 0 + j ≡ j = omega arith in ap (λ (i : ℕ). get_or t i 0) (sym e) ∙ r j l))
part_at n [] (suc k) h r = absurd (omega (arith, h))
part_at n (y ∷ t) (suc k) h r = either_right (begins n (y ∷ t)) (is_part n t) (part_at n t k (omega (arith, h)) (λ j l. let e : suc k + j ≡ suc (k + j) = omega arith in ap (λ (i : ℕ). get_or (y ∷ t) i 0) (sym e) ∙ r j l))

-- and a part occurs at some position
part_position : (n t : List ℕ) → is_part n t ≡ true → (k : ℕ) × (k < length t + 1) × OccursAt t n k
part_position n [] h = (0, omega arith, record { fits = omega (arith, begins_fits n [] h); reads = λ j l. let e : 0 + j ≡ j = omega arith in ap (λ (i : ℕ). get_or [] i 0) e ∙ begins_reads n [] h j l })
part_position n (y ∷ t) h = elim (tested (begins n (y ∷ t))) [
  | inl b ↦ (0, omega arith, record { fits = omega (arith, begins_fits n (y ∷ t) b); reads = λ j l. let e : 0 + j ≡ j = omega arith in ap (λ (i : ℕ). get_or (y ∷ t) i 0) e ∙ begins_reads n (y ∷ t) b j l })
  | inr b ↦
      let later : is_part n t ≡ true = ap (λ (a : Bool). a || is_part n t) (sym b) ∙ h in
      let p = part_position n t later in
      (suc p.0, omega (arith, p.1), record { fits = omega (arith, p.2.fits); reads = λ j l. let e : suc p.0 + j ≡ suc (p.0 + j) = omega arith in ap (λ (i : ℕ). get_or (y ∷ t) i 0) e ∙ p.2.reads j l })
]

pub found_part : (n t : List ℕ) (r : Option ℕ) → FindsNeedle t n 0 r → is_some r ≡ is_part n t
found_part n t (Some k) h = sym (part_at n t k h.1.fits h.1.reads)
found_part n t None h = elim (tested (is_part n t)) [
  | inl b ↦ let p = part_position n t b in absurd (h p.0 (omega arith) p.1 p.2)
  | inr b ↦ sym b
]
