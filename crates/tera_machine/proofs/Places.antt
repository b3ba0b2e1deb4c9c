-- Instructions that stand in a code.
use Rattle.std.proofs.Common.{◌≡◌, ℕ, ◌+◌, ◌<◌, ◌≤◌, [], ◌∷◌, ◌++◌, length, Some, None, ap, ◌∙◌, subst, arith, append_assoc, length-append}
use Rattle.std.specs.Prelude.{slice_get}
use Rattle.std.proofs.Math.Seq.{get_or-append_seam}
use Rattle.std.proofs.lemmas.Option.{slice_get-get_or, slice_get_past, slice_get_within}
use Rattle.tera_code.specs.declared.instruction.Instruction.{Instruction}
use Rattle.tera_code.specs.declared.instruction.Instruction.TheVariants.{PopJumpIfFalse, Jump, NextTurn}
use Rattle.tera_code.specs.Code.{Code, choice_tail}

-- the instructions stand in the code from this position on
abbrev pub StandsAt : Code → ℕ → Code → Type 0
StandsAt code ip [] = Unit {0}
StandsAt code ip (i ∷ is) = (slice_get code ip ≡ Some i) × StandsAt code (ip + 1) is

pub stands_front : (code : Code) (ip : ℕ) (a b : Code) → StandsAt code ip (a ++ b) → StandsAt code ip a
stands_front code ip [] b h = tt
stands_front code ip (i ∷ a) b h = (h.0, stands_front code (ip + 1) a b h.1)

pub stands_back : (code : Code) (ip : ℕ) (a b : Code) → StandsAt code ip (a ++ b) → StandsAt code (ip + length a) b
stands_back code ip [] b h = let e : ip ≡ ip + 0 = omega arith in subst (λ n. StandsAt code n b) e h
stands_back code ip (i ∷ a) b h =
    let e : ip + 1 + length a ≡ ip + length (i ∷ a) = omega arith in
    subst (λ n. StandsAt code n b) e (stands_back code (ip + 1) a b h.1)

-- what stands in a code ends within it
pub stands_within : (code : Code) (ip : ℕ) (i : Instruction) (is : Code) → StandsAt code ip (i ∷ is) → ip + length (i ∷ is) ≤ length code
stands_within code ip i [] h = let l = slice_get_within code ip i h.0 in let g : ip < length code = l in omega arith
stands_within code ip i (j ∷ is) h = let l : ip + 1 + length (j ∷ is) ≤ length code = stands_within code (ip + 1) j is h.1 in omega arith

-- the parts of a choice, where they stand
pub record Parts (code : Code) (pc : ℕ) (body other : Code) : Type 0 where
  pub branch : slice_get code pc ≡ Some (PopJumpIfFalse (length body + 1))
  pub first : StandsAt code (pc + 1) body
  pub jump : slice_get code (pc + 1 + length body) ≡ Some (Jump (length other))
  pub second : StandsAt code (pc + 1 + (length body + 1)) other
  pub within : pc + 1 + (length body + 1) ≤ length code
  pub ends : pc + 1 + length body + 1 + length other ≤ length code

pub parts : (code : Code) (pc : ℕ) (body other : Code) → StandsAt code pc (choice_tail body other) → Parts code pc body other
parts code pc body other h =
    let back = stands_back code (pc + 1) body (Jump (length other) ∷ other) h.1 in
    let end : pc + 1 + length body + length (Jump (length other) ∷ other) ≤ length code = stands_within code (pc + 1 + length body) (Jump (length other)) other back in
    let same : pc + 1 + length body + 1 ≡ pc + 1 + (length body + 1) = omega arith in
    record {
      branch = h.0;
      first = stands_front code (pc + 1) body (Jump (length other) ∷ other) h.1;
      jump = back.0;
      second = subst (λ n. StandsAt code n other) same back.1;
      within = omega (arith, end);
      ends = omega (arith, end);
    }

-- the parts of a loop behind its beginning, where they stand
pub record Round (code : Code) (at : ℕ) (body : Code) (end : Instruction) (behind : Code) : Type 0 where
  pub turn : StandsAt code at body
  pub next : slice_get code (at + length body) ≡ Some NextTurn
  pub over : slice_get code (at + (length body + 1)) ≡ Some end
  pub rest : StandsAt code (at + (length body + 1) + 1) behind
  pub within : at + (length body + 1) + 1 + length behind ≤ length code

pub round : (code : Code) (at : ℕ) (body : Code) (end : Instruction) (behind : Code) → StandsAt code at (body ++ (NextTurn ∷ end ∷ behind)) → Round code at body end behind
round code at body end behind h =
    let back = stands_back code at body (NextTurn ∷ end ∷ behind) h in
    let last : at + length body + length (NextTurn ∷ end ∷ behind) ≤ length code = stands_within code (at + length body) NextTurn (end ∷ behind) back in
    let same : at + length body + 1 ≡ at + (length body + 1) = omega arith in
    record {
      turn = stands_front code at body (NextTurn ∷ end ∷ behind) h;
      next = back.0;
      over = subst (λ n. slice_get code n ≡ Some end) same back.1.0;
      rest = subst (λ n. StandsAt code (n + 1) behind) same back.1.1;
      within = omega (arith, last);
    }

-- what stands behind a beginning
stands_behind : (is before : Code) → StandsAt (before ++ is) (length before) is
stands_behind [] before = tt
stands_behind (i ∷ is) before =
    let within : length before < length (before ++ i ∷ is) = omega (arith, length-append before (i ∷ is)) in
    let here = slice_get-get_or (before ++ i ∷ is) (length before) i within ∙ ap Some (get_or-append_seam before i is i) in
    let n : length (before ++ i ∷ []) ≡ length before + 1 = omega (arith, length-append before (i ∷ [])) in
    let rest = stands_behind is (before ++ i ∷ []) in
    let rest' = subst (λ l. StandsAt l (length (before ++ i ∷ [])) is) (append_assoc before (i ∷ []) is) rest in
    (here, subst (λ m. StandsAt (before ++ i ∷ is) m is) n rest')

-- a whole code stands at its beginning
pub stands_whole : (code : Code) → StandsAt code 0 code
stands_whole code = stands_behind code []

-- and there is nothing behind it
pub nothing_behind : (code : Code) → slice_get code (length code) ≡ None
nothing_behind code = slice_get_past code (length code) (omega arith)
