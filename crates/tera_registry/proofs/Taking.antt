-- What code takes, position by position, and where one of it stands.
use Rattle.std.proofs.Common.{◌≡◌, ℕ, zero, suc, ◌+◌, ◌<◌, ◌≤◌, inl, inr, List, [], ◌∷◌, ◌++◌, length, drop, slice_get, option_map, option_and_then, Option, Some, None, refl, sym, ap, ◌∙◌, append_assoc, arith}
use Rattle.std.specs.List.{cons_option}
use Rattle.std.proofs.lemmas.Bool.{cases_lt}
use Rattle.std.proofs.lemmas.List.{drop_all, append-nil}
use Rattle.tera_code.specs.Code.{Code}
use Rattle.tera_code.specs.Called.{called_by}
use Rattle.tera_code.specs.declared.instruction.Instruction.{Instruction}
use Rattle.tera_code.specs.Targets.{Target, TemplateNamed, ComponentNamed, target_called, target_in}
use Rattle.tera_registry.specs.declared.code.Take.{Take}
use Rattle.tera_registry.specs.Takes.{take_of, takes_from, takes_of, Ascends, IsRank}
use Rattle.tera_registry.proofs.Element.{element}
use Rattle.tera_registry.proofs.Rows.{drop-at}

-- what is called and stands elsewhere is taken
pub taken-of-called : (o : Option Instruction) → option_and_then target_in o ≡ option_and_then target_called (option_and_then called_by o)
taken-of-called None = refl
taken-of-called (Some i) = refl

joined : (o : Option Take) (rest : List Take) → cons_option o rest ≡ cons_option o [] ++ rest
joined None rest = refl
joined (Some t) rest = refl

taken-split : (code : Code) (k : ℕ) → k < length code → takes_from k (drop k code) ≡ cons_option (option_map (take_of k) (option_and_then target_in (slice_get code k))) [] ++ takes_from (k + 1) (drop (k + 1) code)
taken-split code k lt =
    let i = element code k lt in
    let at : option_and_then target_in (slice_get code k) ≡ target_in i.0 = ap (option_and_then target_in) i.1 in
    let next : suc k ≡ k + 1 = omega arith in
    ap (takes_from k) (drop-at code k i.0 i.1)
    ∙ ap (λ n. cons_option (option_map (take_of k) (target_in i.0)) (takes_from n (drop (k + 1) code))) next
    ∙ joined (option_map (take_of k) (target_in i.0)) (takes_from (k + 1) (drop (k + 1) code))
    ∙ ap (λ o. cons_option (option_map (take_of k) o) [] ++ takes_from (k + 1) (drop (k + 1) code)) (sym at)

pub taken-on : (code : Code) (k : ℕ) (whole old new : List Take) → k < length code → new ≡ old ++ cons_option (option_map (take_of k) (option_and_then target_in (slice_get code k))) [] → old ++ takes_from k (drop k code) ≡ whole → new ++ takes_from (k + 1) (drop (k + 1) code) ≡ whole
taken-on code k whole old new lt e h =
    let rest = takes_from (k + 1) (drop (k + 1) code) in
    let one = cons_option (option_map (take_of k) (option_and_then target_in (slice_get code k))) [] in
    ap (λ l. l ++ rest) e ∙ append_assoc old one rest ∙ ap (λ l. old ++ l) (sym (taken-split code k lt)) ∙ h

pub taken-end : (code : Code) (k : ℕ) (old whole : List Take) → length code ≤ k → old ++ takes_from k (drop k code) ≡ whole → old ≡ whole
taken-end code k old whole over h =
    sym (append-nil old) ∙ sym (ap (λ c. old ++ takes_from k c) (drop_all k code over)) ∙ h

-- Their positions ascend.

pub stands-at : (p : ℕ) (t : Target) → (take_of p t).at ≡ p
stands-at p (TemplateNamed n) = refl
stands-at p (ComponentNamed n) = refl

abbrev Behind : ℕ → List Take → Type 0
Behind p takes = (k : ℕ) (t : Take) → slice_get takes k ≡ Some t → p ≤ t.at

behind-one : (p : ℕ) (o : Option Target) (rest : List Take) → Behind (suc p) rest → Behind p (cons_option (option_map (take_of p) o) rest)
behind-one p None rest h = λ k t e. (let b = h k t e in omega arith)
behind-one p (Some x) rest h = λ k t e. by_place k t e
  where
    by_place : (k : ℕ) (t : Take) → slice_get (take_of p x ∷ rest) k ≡ Some t → p ≤ t.at
    by_place zero t e =
        (let q : Some (take_of p x) ≡ Some t = e in
        let s : take_of p x ≡ t = cc in
        let at : t.at ≡ p = sym (ap (λ (u : Take). u.at) s) ∙ stands-at p x in
        omega arith)
    by_place (suc k) t e = (let b = h k t e in omega arith)

behind : (p : ℕ) (code : Code) → Behind p (takes_from p code)
behind p [] = λ k t e. (let q : None ≡ Some t = e in cc)
behind p (i ∷ code) = behind-one p (target_in i) (takes_from (suc p) code) (behind (suc p) code)

ascends-one : (p : ℕ) (o : Option Target) (rest : List Take) → Behind (suc p) rest → Ascends rest → Ascends (cons_option (option_map (take_of p) o) rest)
ascends-one p None rest h a = a
ascends-one p (Some x) rest h a = λ j k s t lt es et. by_place j k s t lt es et
  where
    by_place : (j k : ℕ) (s t : Take) → j < k → slice_get (take_of p x ∷ rest) j ≡ Some s → slice_get (take_of p x ∷ rest) k ≡ Some t → s.at < t.at
    by_place zero zero s t lt es et = absurd (omega arith)
    by_place zero (suc k) s t lt es et =
        (let q : Some (take_of p x) ≡ Some s = es in
        let e : take_of p x ≡ s = cc in
        let at : s.at ≡ p = sym (ap (λ (u : Take). u.at) e) ∙ stands-at p x in
        let b = h k t et in
        omega arith)
    by_place (suc j) zero s t lt es et = absurd (omega arith)
    by_place (suc j) (suc k) s t lt es et = a j k s t (omega arith) es et

ascends-from : (p : ℕ) (code : Code) → Ascends (takes_from p code)
ascends-from p [] = λ j k s t lt es et. (let q : None ≡ Some s = es in cc)
ascends-from p (i ∷ code) = ascends-one p (target_in i) (takes_from (suc p) code) (behind (suc p) code) (ascends-from (suc p) code)

pub ascends : (code : Code) → Ascends (takes_of code)
ascends code = ascends-from 0 code

-- What an instruction takes stands among them.

abbrev HasTake : List Take → Take → Type 0
HasTake takes t = (k : ℕ) × (slice_get takes k ≡ Some t)

there-one : (o : Option Take) (rest : List Take) (t : Take) → HasTake rest t → HasTake (cons_option o rest) t
there-one None rest t h = h
there-one (Some x) rest t h = (suc h.0, h.1)

take-there : (p : ℕ) (code : Code) (at : ℕ) (t : Target) → option_and_then target_in (slice_get code at) ≡ Some t → HasTake (takes_from p code) (take_of (p + at) t)
take-there p [] at t e = (let q : None ≡ Some t = e in cc)
take-there p (i ∷ code) zero t e =
    (let n : p ≡ p + 0 = omega arith in
    (0, ap (λ o. slice_get (cons_option (option_map (take_of p) o) (takes_from (suc p) code)) 0) e ∙ ap (λ m. Some (take_of m t)) n))
take-there p (i ∷ code) (suc at) t e =
    (let n : suc p + at ≡ p + suc at = omega arith in
    let h = take-there (suc p) code at t e in
    there-one (option_map (take_of p) (target_in i)) (takes_from (suc p) code) (take_of (p + suc at) t) (h.0, h.1 ∙ ap (λ m. Some (take_of m t)) n))

-- The search by position.

module _ (takes : List Take) (a : Ascends takes) (at : ℕ) where
  -- at most one of them stands there
  pub only-rank : (j k : ℕ) (s t : Take) → slice_get takes j ≡ Some s → slice_get takes k ≡ Some t → s.at ≡ at → t.at ≡ at → j ≡ k
  only-rank j k s t es et e f =
      elim (cases_lt j k) [
        | inl before ↦ (let b = a j k s t before es et in absurd (omega arith))
        | inr after ↦ elim (cases_lt k j) [
          | inl before ↦ (let b = a k j t s before et es in absurd (omega arith))
          | inr same ↦ omega arith
        ]
      ]

-- what is found at a position is what the instruction there takes
pub rank-is : (code : Code) (at : ℕ) (t : Target) (found : Option ℕ) → IsRank (takes_of code) at found → option_and_then target_in (slice_get code at) ≡ Some t → (k : ℕ) × (found ≡ Some k) × (slice_get (takes_of code) k ≡ Some (take_of at t))
rank-is code at t None is e =
    (let h = take-there 0 code at t e in
    let n : 0 + at ≡ at = omega arith in
    absurd (is h.0 (take_of (0 + at) t) h.1 (stands-at (0 + at) t ∙ n)))
rank-is code at t (Some k) is e =
    (let h = take-there 0 code at t e in
    let n : 0 + at ≡ at = omega arith in
    let same : k ≡ h.0 = only-rank (takes_of code) (ascends code) at k h.0 is.0 (take_of (0 + at) t) is.1 h.1 is.2 (stands-at (0 + at) t ∙ n) in
    (k, refl, ap (slice_get (takes_of code)) same ∙ h.1 ∙ ap (λ m. Some (take_of m t)) n))
