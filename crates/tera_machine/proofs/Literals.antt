-- Operands of a literal, on the stack and in a row.
use Rattle.std.proofs.Common.{◌≡◌, ℕ, suc, ◌≤◌, List, [], ◌∷◌, ◌++◌, length, take, drop, reverse, Some, None, refl, sym, ap, ap₂, ◌∙◌, arith, append_assoc, length-append, cond}
use Rattle.std.specs.List.{zip}
use Rattle.std.proofs.lemmas.List.{reverse-append, reverse-reverse, length-reverse}
use Rattle.std.proofs.lemmas.Bool.{le-leb}
use Rattle.std.proofs.Math.Seq.{take-append_seam, drop-append_seam}
use Rattle.tera_operators.specs.Operand.{Evaluated}
use Rattle.tera_machine.specs.Effect.{topmost}

-- operands put on top, the first one first
abbrev pub push_all : List Evaluated → List Evaluated → List Evaluated
push_all [] operands = operands
push_all (a ∷ rest) operands = push_all rest (a ∷ operands)

abbrev pub firsts : {A B : Type 0} → List (A × B) → List A
firsts [] = []
firsts (p ∷ ps) = p.0 ∷ firsts ps

abbrev pub seconds : {A B : Type 0} → List (A × B) → List B
seconds [] = []
seconds (p ∷ ps) = p.1 ∷ seconds ps

length-firsts : {A B : Type 0} (ps : List (A × B)) → length (firsts ps) ≡ length (seconds ps)
length-firsts [] = refl
length-firsts (p ∷ ps) = ap (λ n. suc n) (length-firsts ps)

zip-seconds : {A B : Type 0} (ps : List (A × B)) → zip (firsts ps) (seconds ps) ≡ ps
zip-seconds [] = refl
zip-seconds (p ∷ ps) = ap (λ qs. p ∷ qs) (zip-seconds ps)

-- what is told apart comes together again
pub zip-firsts : {A B : Type 0} (as' : List A) (ps : List (A × B)) → firsts ps ≡ as' → zip as' (seconds ps) ≡ ps
zip-firsts as' ps e = ap (λ xs. zip xs (seconds ps)) (sym e) ∙ zip-seconds ps

pub length-seconds : {A B : Type 0} (as' : List A) (ps : List (A × B)) → firsts ps ≡ as' → length as' ≡ length (seconds ps)
length-seconds as' ps e = ap length (sym e) ∙ length-firsts ps

push_all-reverse : (all operands : List Evaluated) → push_all all operands ≡ reverse all ++ operands
push_all-reverse [] operands = refl
push_all-reverse (a ∷ rest) operands =
    push_all-reverse rest (a ∷ operands)
    ∙ sym (ap (λ xs. xs ++ operands) (reverse-append (a ∷ []) rest) ∙ append_assoc (reverse rest) (a ∷ []) operands)

-- as many operands as were put there
pub topmost-push_all : (n : ℕ) (all operands : List Evaluated) → n ≡ length all → topmost n (push_all all operands) ≡ Some (all, operands)
topmost-push_all n all operands e =
    let row = reverse all in
    let size : n ≡ length row = e ∙ sym (length-reverse all) in
    let within : n ≤ length (row ++ operands) = omega (arith, length-append row operands, size) in
    ap (topmost n) (push_all-reverse all operands)
    ∙ ap (λ b. cond b (Some (reverse (take n (row ++ operands)), drop n (row ++ operands))) None) (le-leb n (length (row ++ operands)) within)
    ∙ ap (λ m. Some (reverse (take m (row ++ operands)), drop m (row ++ operands))) size
    ∙ ap₂ (λ xs ys. Some (xs, ys)) (ap reverse (take-append_seam row operands) ∙ reverse-reverse all) (drop-append_seam row operands)
