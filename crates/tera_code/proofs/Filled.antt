-- Jumps whose lengths are known once what they pass is written.
use Rattle.std.proofs.Common.{◌≡◌, ℕ, ◌+◌, Bool, true, false, [], ◌∷◌, ◌++◌, length, option_copied, refl, sym, ap, ap₂, ◌∙◌, append_assoc, arith}
use Rattle.std.proofs.lemmas.List.{length-append}
use Rattle.std.proofs.Math.Seq.{set-append_seam}
use Rattle.tera_errors.specs.declared.span.Span.{Span}
use Rattle.tera_syntax_tree.specs.declared.expression.Heading.{Heading}
use Rattle.tera_code.specs.declared.instruction.Instruction.{Instruction}
use Rattle.tera_code.specs.declared.instruction.Instruction.TheVariants as instruction
use Rattle.tera_code.specs.Listing.{Listing}
use Rattle.tera_code.specs.Code.{Code, lengthened, choice_tail, keep_tail, loop_tail, comprehension_tail}
use Rattle.tera_code.specs.Filling.{filled, behind, divided, start_loop, looped}
use Rattle.tera_code.proofs.Lengthened.{lengthened-lengthened}

-- what stands at a position that is kept
abbrev kept : Code
kept = instruction.Jump 0 ∷ []

seam : (m : Listing) (after : Code) (jump : Instruction) → filled (length m.code) jump (lengthened m (instruction.Jump 0 ∷ after)) ≡ lengthened m (jump ∷ after)
seam m after jump = ap (λ code. record m { code = code }) (set-append_seam m.code (instruction.Jump 0) after jump)

counted : (m : Listing) (after : Code) → behind (length m.code) (lengthened m (instruction.Jump 0 ∷ after)) ≡ length after
counted m after = omega (arith, length-append m.code (instruction.Jump 0 ∷ after))

-- a position is kept behind the front, something is written, and what passes it is put there
pub jump_written : (l m n o : Listing) (front after : Code) (position count : ℕ) (make : ℕ → Instruction) → m ≡ lengthened l front → position ≡ length m.code → n ≡ lengthened m kept → o ≡ lengthened n after → count ≡ behind position o
    → filled position (make count) o ≡ lengthened l (front ++ make (length after) ∷ after)
jump_written l m n o front after position count make e at g h is =
    let whole : o ≡ lengthened m (instruction.Jump 0 ∷ after) = h ∙ ap (λ k. lengthened k after) g ∙ lengthened-lengthened m kept after in
    ap (λ c. filled position (make c) o) is
    ∙ ap₂ (λ p k. filled p (make (behind p k)) k) at whole
    ∙ ap (λ c. filled (length m.code) (make c) (lengthened m (instruction.Jump 0 ∷ after))) (counted m after)
    ∙ seam m after (make (length after))
    ∙ ap (λ k. lengthened k (make (length after) ∷ after)) e
    ∙ lengthened-lengthened l front (make (length after) ∷ after)

-- the first of two parts is written, with the jump that passes it and the position behind it
divided_written : (l m n o : Listing) (front body : Code) (position : ℕ) → m ≡ lengthened l front → position ≡ length m.code → n ≡ lengthened m kept → o ≡ lengthened n body
    → divided position o ≡ lengthened (lengthened l (front ++ instruction.PopJumpIfFalse (length body + 1) ∷ body)) kept
divided_written l m n o front body position e at g h =
    jump_written l m n (lengthened o kept) front (body ++ kept) position (behind position (lengthened o kept)) (λ count. instruction.PopJumpIfFalse count) e at g
    (ap (λ k. lengthened k kept) h ∙ lengthened-lengthened n body kept) refl
    ∙ ap (λ count. lengthened l (front ++ instruction.PopJumpIfFalse count ∷ (body ++ kept))) (length-append body kept)
    ∙ ap (lengthened l) (sym (append_assoc front (instruction.PopJumpIfFalse (length body + 1) ∷ body) kept))
    ∙ sym (lengthened-lengthened l (front ++ instruction.PopJumpIfFalse (length body + 1) ∷ body) kept)

left-at : (l m n o : Listing) (front body : Code) → m ≡ lengthened l front → n ≡ lengthened m kept → o ≡ lengthened n body
    → length o.code ≡ length (lengthened l (front ++ instruction.PopJumpIfFalse (length body + 1) ∷ body)).code
left-at l m n o front body e g h =
    let jump = instruction.PopJumpIfFalse (length body + 1) in
    let lm = ap (λ (k : Listing). length k.code) e ∙ length-append l.code front in
    let ln = ap (λ (k : Listing). length k.code) g ∙ length-append m.code kept in
    let lo = ap (λ (k : Listing). length k.code) h ∙ length-append n.code body in
    omega (arith, lm, ln, lo, length-append l.code (front ++ jump ∷ body), length-append front (jump ∷ body))

-- two parts are written behind the front, of which one runs
pub choice_written : (l m n o p q : Listing) (front body other : Code) (position leave count : ℕ) → m ≡ lengthened l front → position ≡ length m.code → n ≡ lengthened m kept
    → o ≡ lengthened n body → leave ≡ length o.code → p ≡ divided position o → q ≡ lengthened p other → count ≡ behind leave q
    → filled leave (instruction.Jump count) q ≡ lengthened l (front ++ choice_tail body other)
choice_written l m n o p q front body other position leave count e at g h left t w is =
    let first = front ++ instruction.PopJumpIfFalse (length body + 1) ∷ body in
    jump_written l (lengthened l first) p q first other leave count (λ count. instruction.Jump count) refl (left ∙ left-at l m n o front body e g h)
    (t ∙ divided_written l m n o front body position e at g h) w is
    ∙ ap (lengthened l) (append_assoc front (instruction.PopJumpIfFalse (length body + 1) ∷ body) (instruction.Jump (length other) ∷ other))

-- a value is written behind its condition
pub keep_written : (l m n o p : Listing) (front value : Code) (position count : ℕ) → m ≡ lengthened l front → position ≡ length m.code → n ≡ lengthened m kept → o ≡ lengthened n value
    → p ≡ lengthened o (instruction.Keep ∷ []) → count ≡ behind position p → filled position (instruction.PopJumpIfFalse count) p ≡ lengthened l (front ++ keep_tail value)
keep_written l m n o p front value position count e at g h w is =
    jump_written l m n p front (value ++ instruction.Keep ∷ []) position count (λ count. instruction.PopJumpIfFalse count) e at g
    (w ∙ ap (λ k. lengthened k (instruction.Keep ∷ [])) h ∙ lengthened-lengthened n value (instruction.Keep ∷ [])) is
    ∙ ap (λ count. lengthened l (front ++ instruction.PopJumpIfFalse count ∷ (value ++ instruction.Keep ∷ []))) (length-append value (instruction.Keep ∷ []))

-- the turns of a loop are written behind the front
pub looped_written : (l m n o : Listing) (front turn : Code) (position : ℕ) (h : Heading) (counts : Bool) → m ≡ lengthened l front → position ≡ length m.code → n ≡ lengthened m kept → o ≡ lengthened n turn
    → looped position h counts o ≡ lengthened l (front ++ start_loop h counts (length turn) ∷ (turn ++ instruction.NextTurn ∷ []))
looped_written l m n o front turn position h counts e at g w =
    let start = start_loop h counts (length turn) in
    ap (λ k. lengthened k (instruction.NextTurn ∷ [])) (jump_written l m n o front turn position (behind position o) (start_loop h counts) e at g w refl)
    ∙ lengthened-lengthened l (front ++ start ∷ turn) (instruction.NextTurn ∷ [])
    ∙ ap (lengthened l) (append_assoc front (start ∷ turn) (instruction.NextTurn ∷ []))

-- the turns of a loop and what goes where there is no item are written behind the front
pub loop_written : (l m n o p q r : Listing) (front body other : Code) (position leave count : ℕ) (h : Heading) → m ≡ lengthened l front → position ≡ length m.code → n ≡ lengthened m kept → o ≡ lengthened n body
    → p ≡ looped position h true o → leave ≡ length p.code → q ≡ lengthened p kept → r ≡ lengthened q other → count ≡ behind leave r
    → filled leave (instruction.EndLoop count) r ≡ lengthened l (front ++ loop_tail (option_copied h.key) h.name.now body other)
loop_written l m n o p q r front body other position leave count h e at g w t left k v is =
    let start = start_loop h true (length body) in
    let end = instruction.EndLoop (length other) ∷ other in
    jump_written l p q r (front ++ start ∷ (body ++ instruction.NextTurn ∷ [])) other leave count (λ skip. instruction.EndLoop skip) (t ∙ looped_written l m n o front body position h true e at g w) left k v is
    ∙ ap (lengthened l) (append_assoc front (start ∷ (body ++ instruction.NextTurn ∷ [])) end ∙ ap (λ code. front ++ start ∷ code) (append_assoc body (instruction.NextTurn ∷ []) end))

-- the turns of a comprehension are written behind the front
pub comprehension_written : (l m n o p q : Listing) (front turn : Code) (position : ℕ) (h : Heading) (span : Span) → m ≡ lengthened l front → position ≡ length m.code → n ≡ lengthened m kept → o ≡ lengthened n turn
    → p ≡ looped position h false o → q ≡ lengthened p (instruction.EndComprehension span ∷ []) → lengthened q (instruction.MakeArray [] span ∷ []) ≡ lengthened l (front ++ comprehension_tail (option_copied h.key) h.name.now turn span)
comprehension_written l m n o p q front turn position h span e at g w t v =
    let start = start_loop h false (length turn) in
    let end = instruction.EndComprehension span ∷ instruction.MakeArray [] span ∷ [] in
    ap (λ k. lengthened k (instruction.MakeArray [] span ∷ [])) v
    ∙ lengthened-lengthened p (instruction.EndComprehension span ∷ []) (instruction.MakeArray [] span ∷ [])
    ∙ ap (λ k. lengthened k end) (t ∙ looped_written l m n o front turn position h false e at g w)
    ∙ lengthened-lengthened l (front ++ start ∷ (turn ++ instruction.NextTurn ∷ [])) end
    ∙ ap (lengthened l) (append_assoc front (start ∷ (turn ++ instruction.NextTurn ∷ [])) end ∙ ap (λ code. front ++ start ∷ code) (append_assoc turn (instruction.NextTurn ∷ []) end))
