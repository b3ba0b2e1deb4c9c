-- The steps of the cut of a text.
use Rattle.std.proofs.Common.{◌≡◌, ℕ, zero, suc, ◌+◌, ◌-◌, ◌<◌, ◌≤◌, [], ◌∷◌, Bool, true, false, ◌==◌, nat_lt, length, take, drop, Option, Some, None, Result, Ok, Err, IfOk, IfErr, refl, ap, sym, ◌∙◌, arith}
use Rattle.std.proofs.lemmas.Bool.Decides.{nat_tests}
use Rattle.std.specs.List.{ends_with}
use Rattle.tera_errors.specs.Site.{Text}
use Rattle.tera_syntax_tokens.specs.Bytes.{begins, position}
use Rattle.tera_syntax_tokens.specs.Inside.{hyphen}
use Rattle.tera_syntax_tokens.specs.Cut.{Comment, Broken, FoundPiece, comment, piece, cut}
use Rattle.tera_syntax_tree.specs.Delimiters.{Delims}
use Rattle.tera_syntax_tokens.specs.Points.{PointsInto}
use Rattle.tera_syntax_tokens.specs.declared.refusal.Refusal.{Refusal}
use Rattle.tera_syntax_tokens.specs.declared.refusal.Refusal.TheVariants.{Syntax, OutOfMemory}

lt_no : (a b : ℕ) → b ≤ a → nat_lt a b ≡ false
lt_no a b h = grind (arith, nat_tests)

lt_yes : (a b : ℕ) → a < b → nat_lt a b ≡ true
lt_yes a b h = grind (arith, nat_tests)

pub no_comment : (end : Text) (at : ℕ) (text : Text) → length text ≤ position (begins end) text → comment end at text ≡ None
unfolding comment
no_comment end at text h = rw (lt_no _ _ h)

pub a_comment : (end : Text) (at n : ℕ) (text : Text) (q : Bool) → n ≡ position (begins end) text → n < length text → q ≡ ends_with (λ a b. a == b) (take n text) hyphen
    → comment end at text ≡ Some (record { piece = Comment; next = at + (n + length end); trims = q })
unfolding comment
a_comment end at n text q e l p = rw (sym e, lt_yes _ _ l, p)

abbrev pub next_of : Option FoundPiece → ℕ
next_of None = 0
next_of (Some x) = x.next

head_positive : (test : Text → Bool) (b : ℕ) (bs : Text) → test (b ∷ bs) ≡ false → 0 < position test (b ∷ bs)
unfolding position
head_positive test b bs e = rw e (omega arith)

pub position_positive : (test : Text → Bool) (text : Text) → 0 < length text → test text ≡ false → 0 < position test text
position_positive test [] l e = absurd (omega arith)
position_positive test (b ∷ bs) l e = head_positive test b bs e

-- what points into the rest of a text points into the text
pub points_from : {X : Type 0} (r : Result X Refusal) (at next : ℕ) (text rest : Text) → at ≤ next → next + length rest ≤ at + length text → IfErr r (PointsInto next rest) → IfErr r (PointsInto at text)
points_from (Ok x) at next text rest l m h = tt
points_from (Err OutOfMemory) at next text rest l m h = tt
points_from (Err (Syntax why span)) at next text rest l m h = (omega (arith, h.0), h.1, omega (arith, h.2))

pub if_ok : {X E : Type 0} {P Q : X → Type 0} (r : Result X E) → ((x : X) → P x → Q x) → IfOk r P → IfOk r Q
if_ok (Ok x) f h = f x h
if_ok (Err e) f h = tt

-- what is passed over is no piece
passed : (d : Delims) (trims : Bool) (n at : ℕ) (text : Text) → cut d trims n at text ≡ cut d trims 0 (at + n) (drop n text)
unfolding cut
passed d trims zero at text = let e : at ≡ at + 0 = omega arith in ap (λ k. cut d trims 0 k text) e
passed d trims (suc n) at [] = refl
passed d trims (suc n) at (b ∷ bs) = let e : suc at + n ≡ at + suc n = omega arith in passed d trims n (suc at) bs ∙ ap (λ k. cut d trims 0 k (drop n bs)) e

head_step : (d : Delims) (trims : Bool) (at b : ℕ) (bs : Text) (f : FoundPiece) → piece d trims at (b ∷ bs) ≡ Some f
    → cut d trims 0 at (b ∷ bs) ≡ f.piece ∷ cut d f.trims (f.next - suc at) (suc at) bs
unfolding cut
head_step d trims at b bs f h = rw h refl

head_broken : (d : Delims) (trims : Bool) (at b : ℕ) (bs : Text) → piece d trims at (b ∷ bs) ≡ None → cut d trims 0 at (b ∷ bs) ≡ Broken ∷ []
unfolding cut
head_broken d trims at b bs h = rw h refl

drop_step : (k n : ℕ) (b : ℕ) (bs : Text) → k ≡ suc n → drop n bs ≡ drop k (b ∷ bs)
drop_step k n b bs e = rw e refl

pub cut_step : (d : Delims) (trims : Bool) (at : ℕ) (text : Text) (f : FoundPiece) → 0 < length text → piece d trims at text ≡ Some f → at < f.next
    → cut d trims 0 at text ≡ f.piece ∷ cut d f.trims 0 f.next (drop (f.next - at) text)
cut_step d trims at [] f l h m = absurd (omega arith)
cut_step d trims at (b ∷ bs) f l h m =
    let e : suc at + (f.next - suc at) ≡ f.next = omega arith in
    let k : f.next - at ≡ suc (f.next - suc at) = omega arith in
    head_step d trims at b bs f h
    ∙ ap (λ rest. f.piece ∷ rest) (passed d f.trims (f.next - suc at) (suc at) bs
    ∙ ap (λ n. cut d f.trims 0 n (drop (f.next - suc at) bs)) e ∙ ap (cut d f.trims 0 f.next) (drop_step (f.next - at) (f.next - suc at) b bs k))

pub cut_broken : (d : Delims) (trims : Bool) (at : ℕ) (text : Text) → 0 < length text → piece d trims at text ≡ None → cut d trims 0 at text ≡ Broken ∷ []
cut_broken d trims at [] l h = absurd (omega arith)
cut_broken d trims at (b ∷ bs) l h = head_broken d trims at b bs h

pub cut_nothing : (d : Delims) (trims : Bool) (at : ℕ) (text : Text) → length text ≡ 0 → cut d trims 0 at text ≡ []
unfolding cut
cut_nothing d trims at [] h = refl
cut_nothing d trims at (b ∷ bs) h = absurd (omega arith)
