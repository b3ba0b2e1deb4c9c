-- Stretches of bytes that stand for themselves, and the bytes between them.
use Rattle.std.proofs.Common.{◌≡◌, ℕ, zero, suc, ◌+◌, ◌-◌, ◌<◌, ◌≤◌, Bool, true, false, ◌||◌, cond, refl, List, [], ◌∷◌, ◌++◌, length, take, drop, get_or, sym, ap, ◌∙◌, arith, append_assoc, IsUtf8, length-append, nat_eq, subst, codes}
use Rattle.std.proofs.lemmas.Str.{IsCharBoundary-from_take}
use Rattle.std.proofs.Math.Seq.{take-append_seam}
use Rattle.std.specs.String.Boundary.{IsSplitPoint}
use Rattle.std.proofs.lemmas.List.{append-nil, drop_more, take_all, drop_all}
use mathlib.Core.Bool.{true≢false}
use Rattle.std.proofs.lemmas.Bool.{eqb-true}
use Rattle.tera_value_types.specs.Growth.{Keeps, IsPlain, by_byte}
use Rattle.tera_value_types.specs.Escape.{escape_byte, escape_xml_byte}

-- a walk from one position on is past bytes that stand for themselves alone
abbrev pub IsPast : (ℕ → List ℕ) → List ℕ → ℕ → ℕ → Type 0
IsPast form bytes from position = record {
  low : from ≤ position;
  high : position ≤ length bytes;
  plain : IsPlain form bytes from position;
}

pub keeps_all : (t : List ℕ) → Keeps t t
keeps_all t = record { more = []; is = sym (append-nil t) }

pub keeps_on : (a b c : List ℕ) → Keeps a b → Keeps b c → Keeps a c
keeps_on a b c h g = record { more = h.more ++ g.more; is = g.is ∙ ap (λ (t : List ℕ). t ++ g.more) h.is ∙ append_assoc a h.more g.more }

-- the byte at position p
pub by_byte_more : (f : ℕ → List ℕ) (t : List ℕ) (p : ℕ) → p < length t → by_byte f (drop p t) ≡ f (get_or t p 0) ++ by_byte f (drop (p + 1) t)
by_byte_more f t p h = ap (by_byte f) (drop_more t p 0 h)

-- a byte is written in its form
pub wrote_byte : (f : ℕ → List ℕ) (t : List ℕ) (p : ℕ) (out later whole : List ℕ) → p < length t → later ≡ out ++ f (get_or t p 0) → out ++ by_byte f (drop p t) ≡ whole → later ++ by_byte f (drop (p + 1) t) ≡ whole
wrote_byte f t p out later whole h l w =
    let rest : List ℕ = by_byte f (drop (p + 1) t) in
    ap (λ (x : List ℕ). x ++ rest) l
    ∙ append_assoc out (f (get_or t p 0)) rest
    ∙ ap (λ (x : List ℕ). out ++ x) (sym (by_byte_more f t p h))
    ∙ w

-- bytes that stand for themselves come first, and then the rest in its forms
pub plain_first : (f : ℕ → List ℕ) (t : List ℕ) (p n : ℕ) → p + n ≤ length t → IsPlain f t p (p + n) → by_byte f (drop p t) ≡ take n (drop p t) ++ by_byte f (drop (p + n) t)
plain_first f t p zero h plain = let same : p ≡ p + zero = omega arith in ap (λ (q : ℕ). by_byte f (drop q t)) same
plain_first f t p (suc n) h plain =
    let b : ℕ = get_or t p 0 in
    let here : p < length t = omega arith in
    let itself : f b ≡ b ∷ [] = plain p (omega arith) (omega arith) in
    let rest = plain_first f t (p + 1) n (omega arith) (λ k low high. plain k (omega arith) (omega arith)) in
    let same : p + 1 + n ≡ p + suc n = omega arith in
    by_byte_more f t p here
    ∙ ap (λ (x : List ℕ). x ++ by_byte f (drop (p + 1) t)) itself
    ∙ ap (λ (x : List ℕ). b ∷ x) rest
    ∙ ap (λ (q : ℕ). b ∷ (take n (drop (p + 1) t) ++ by_byte f (drop q t))) same
    ∙ ap (λ (x : List ℕ). take (suc n) x ++ by_byte f (drop (p + suc n) t)) (sym (drop_more t p 0 here))

-- a stretch of them is written
pub wrote_stretch : (f : ℕ → List ℕ) (t : List ℕ) (p q : ℕ) (out later whole : List ℕ) → p ≤ q → q ≤ length t → IsPlain f t p q → later ≡ out ++ take (q - p) (drop p t) → out ++ by_byte f (drop p t) ≡ whole → later ++ by_byte f (drop q t) ≡ whole
wrote_stretch f t p q out later whole o h plain l w =
    let same : p + (q - p) ≡ q = omega arith in
    let stretch : List ℕ = take (q - p) (drop p t) in
    let first : by_byte f (drop p t) ≡ stretch ++ by_byte f (drop q t) = plain_first f t p (q - p) (omega arith) (λ k low high. plain k low (omega arith)) ∙ ap (λ (r : ℕ). stretch ++ by_byte f (drop r t)) same in
    ap (λ (x : List ℕ). x ++ by_byte f (drop q t)) l
    ∙ append_assoc out stretch (by_byte f (drop q t))
    ∙ ap (λ (x : List ℕ). out ++ x) (sym first)
    ∙ w

-- what was there may be cut out again
pub split_point : (old new : List ℕ) → IsUtf8 old → IsUtf8 new → Keeps old new → IsSplitPoint new (length old)
split_point old new u v h =
    let same : take (length old) new ≡ old = ap (take (length old)) h.is ∙ take-append_seam old h.more in
    let within : length old ≤ length new = omega (arith, length-append old h.more, ap length h.is) in
    let at = IsCharBoundary-from_take new (length old) v within (rw same u) in
    (within, λ _ more. at.1 more)

-- where all bytes stand for themselves, so does the text
pub plain_text : (f : ℕ → List ℕ) (t : List ℕ) → IsPlain f t 0 (length t) → by_byte f t ≡ t
plain_text f t plain =
    plain_first f t 0 (length t) (omega arith) (λ k low high. plain k low (omega arith))
    ∙ ap (λ (n : ℕ). take (length t) t ++ by_byte f (drop n t)) (omega arith)
    ∙ ap (λ (x : List ℕ). x ++ by_byte f (drop (length t) t)) (take_all (length t) t (omega arith))
    ∙ ap (λ (x : List ℕ). t ++ by_byte f x) (drop_all (length t) t (omega arith))
    ∙ append-nil t

-- none of five is a byte of its own form, so the form is the byte
pub last_form : (a b c d e : Bool) (p q r s t u : List ℕ) → ((((a || b) || c) || d) || e) ≡ false → cond a p (cond b q (cond c r (cond d s (cond e t u)))) ≡ u
last_form false false false false false p q r s t u h = refl
last_form true b c d e p q r s t u h = absurd (true≢false h)
last_form false true c d e p q r s t u h = absurd (true≢false h)
last_form false false true d e p q r s t u h = absurd (true≢false h)
last_form false false false true e p q r s t u h = absurd (true≢false h)
last_form false false false false true p q r s t u h = absurd (true≢false h)

-- what HTML leaves as it is, XML does too
pub plain_in_xml : (b : ℕ) → escape_byte b ≡ b ∷ [] → escape_xml_byte b ≡ b ∷ []
plain_in_xml b h = go (nat_eq b 39) refl where
  go : (same : Bool) → nat_eq b 39 ≡ same → escape_xml_byte b ≡ b ∷ []
  go false e = ap (λ (x : Bool). cond x (codes "&apos;") (escape_byte b)) e ∙ h
  go true e = let same : b ≡ 39 = eqb-true b 39 e in let other : escape_byte 39 ≡ 39 ∷ [] = subst (λ (x : ℕ). escape_byte x ≡ x ∷ []) same h in cc
