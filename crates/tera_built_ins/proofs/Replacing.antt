-- What a text is after `replace` of std by a text.
use Rattle.std.proofs.Common.{◌≡◌, ℕ, zero, suc, ◌+◌, ◌<◌, ◌≤◌, inl, inr, Bool, true, false, cond, ◌&&◌, not, nat_lt, ◌/◌, ◌%◌, List, [], ◌∷◌, ◌++◌, length, take, drop, refl, sym, ap, subst, ◌∙◌, Option, Some, None, arith, append_assoc, append-nil, Bor}
use Rattle.std.proofs.lemmas.Grind.{common_steps}
use Rattle.std.proofs.lemmas.List.{nil_from_length}
use Rattle.std.specs.Char.{encode_utf8}
use Rattle.std.specs.List.{AllByRecursion, onto_first}
use Rattle.std.proofs.lemmas.Str.{IsCharBoundary-start, IsUtf8-past_char}
use Rattle.std.specs.Str.{IsUtf8, IsCharBoundary}
use Rattle.std.specs.Str.Pattern.{FindsText, LacksTextAt}
use Rattle.std.specs.Str.Replace.{ReplacesMatches}
use Rattle.tera_built_ins.specs.Pieces.{begins, cut, goes_on, letters, joined}
use Rattle.tera_built_ins.specs.Replace.{replaced}
use Rattle.tera_built_ins.proofs.Trimming.{byte, begins-own, lacks}

-- there is a first piece
pub data Parted : List (List ℕ) → Type 0 where
  parted : (t : List ℕ) (ts : List (List ℕ)) → Parted (t ∷ ts)

onto-parted : (c : ℕ) (ts : List (List ℕ)) → Parted (onto_first c ts)
onto-parted c [] = parted _ _
onto-parted c (t ∷ ts) = parted _ _

pub cut-parted : (p : ℕ) (ps : List ℕ) (k : ℕ) (t : List ℕ) → Parted (cut byte p ps k t)
cut-parted p ps k [] = parted _ _
cut-parted p ps (suc k) (c ∷ t) = cut-parted p ps k t
cut-parted p ps zero (c ∷ t) = go (begins byte (p ∷ ps) (c ∷ t))
  where
    go : (b : Bool) → Parted (cond b ([] ∷ cut byte p ps (length ps) t) (onto_first c (cut byte p ps 0 t)))
    go true = parted _ _
    go false = onto-parted c _

-- one piece more
pub joined-more : (to t : List ℕ) {ts : List (List ℕ)} → Parted ts → joined byte to (t ∷ ts) ≡ t ++ (to ++ joined byte to ts)
joined-more to t (parted u us) = ap (λ q. t ++ q) (append_assoc to u _)

joined-onto : (to : List ℕ) (c : ℕ) {ts : List (List ℕ)} → Parted ts → joined byte to (onto_first c ts) ≡ c ∷ joined byte to ts
joined-onto to c (parted u us) = refl

pub past : (p : ℕ) (ps qs t : List ℕ) → cut byte p ps (length qs) (qs ++ t) ≡ cut byte p ps 0 t
past p ps [] t = refl
past p ps (q ∷ qs) t = past p ps qs t

-- what is made of a text that begins with the pattern
at-match : (p : ℕ) (ps to t : List ℕ) → replaced byte (p ∷ ps) to ((p ∷ ps) ++ t) ≡ to ++ replaced byte (p ∷ ps) to t
at-match p ps to t = rw (begins-own (p ∷ ps) t) (rw (past p ps ps t) (joined-more to [] (cut-parted p ps 0 t)))

-- of one that does not
no-match : (p : ℕ) (ps to : List ℕ) (c : ℕ) (t : List ℕ) → begins byte (p ∷ ps) (c ∷ t) ≡ false → replaced byte (p ∷ ps) to (c ∷ t) ≡ c ∷ replaced byte (p ∷ ps) to t
no-match p ps to c t h = rw h (joined-onto to c (cut-parted p ps 0 t))

-- and of one that begins with it nowhere before a position
up-to : (p : ℕ) (ps to : List ℕ) (a : ℕ) (t : List ℕ) → ((i : ℕ) → i < a → LacksTextAt (p ∷ ps) t i) → replaced byte (p ∷ ps) to t ≡ take a t ++ replaced byte (p ∷ ps) to (drop a t)
up-to p ps to zero t h = refl
up-to p ps to (suc a) [] h = refl
up-to p ps to (suc a) (c ∷ t) h =
    no-match p ps to c t (lacks p ps (c ∷ t) (h 0 (omega arith)))
    ∙ ap (λ q. c ∷ q) (up-to p ps to a t (λ i j. h (suc i) (omega (arith, j))))

nowhere : (p : ℕ) (ps to t : List ℕ) → ((i : ℕ) → i ≤ length t → LacksTextAt (p ∷ ps) t i) → replaced byte (p ∷ ps) to t ≡ t
nowhere p ps to [] h = refl
nowhere p ps to (c ∷ t) h =
    no-match p ps to c t (lacks p ps (c ∷ t) (h 0 (omega arith)))
    ∙ ap (λ q. c ∷ q) (nowhere p ps to t (λ i j. h (suc i) (omega (arith, j))))

abbrev finds : Bor (List ℕ) → List ℕ → Option (ℕ × ℕ) → Type 0
finds n = FindsText n.now

abbrev keeps : Bor (List ℕ) → Bor (List ℕ) → Type 0
keeps n m = m.now ≡ n.now

some-is : (p : ℕ) (ps to : List ℕ) (n : ℕ) (from : Bor (List ℕ)) (s out : List ℕ) → from.now ≡ p ∷ ps → ReplacesMatches finds keeps to n from s out → out ≡ replaced byte (p ∷ ps) to s
some-is p ps to zero from s out e (f, h) = h ∙ sym (nowhere p ps to s (subst (λ q. FindsText q s None) e f))
some-is p ps to (suc n) from s out e (a, b, q, rest, f, k, inl (l, on), h) =
    let g : FindsText (p ∷ ps) s (Some (a, b)) = subst (λ q. FindsText q s (Some (a, b))) e f in
    let after = drop b s in
    let then : replaced byte (p ∷ ps) to (drop a s) ≡ to ++ replaced byte (p ∷ ps) to after =
    ap (replaced byte (p ∷ ps) to) g.1.split ∙ at-match p ps to after in
    h ∙ ap (λ r. take a s ++ (to ++ r)) (some-is p ps to n q after rest (k ∙ e) on)
    ∙ sym (up-to p ps to a s g.0 ∙ ap (λ r. take a s ++ r) then)
some-is p ps to (suc n) from s out e (a, b, q, rest, f, k, inr (l, on), h) =
    let g : FindsText (p ∷ ps) s (Some (a, b)) = subst (λ q. FindsText q s (Some (a, b))) e f in
    let far : b ≡ a + suc (length ps) = g.1.ends in
    absurd (omega (arith, l, far))

-- the bytes of a character after the first go on
abbrev pub GoesOn : ℕ → Type 0
GoesOn b = goes_on byte b ≡ true

pub record Encoded (bs : List ℕ) : Type 0 where
  pub first : ℕ
  pub others : List ℕ
  pub are : bs ≡ first ∷ others
  pub go_on : AllByRecursion GoesOn others

next-goes_on : (d : ℕ) → GoesOn (128 + d % 64)
next-goes_on d = let l : d % 64 < 64 = omega arith in grind (arith, common_steps, l)

pub encoded : (c : ℕ) → Encoded (encode_utf8 c)
unfolding encode_utf8
encoded c = go (nat_lt c 128) (nat_lt c 2048) (nat_lt c 65536)
  where
    go : (x y z : Bool) → Encoded (cond x (c ∷ []) (cond y ((192 + c / 64) ∷ (128 + c % 64) ∷ []) (cond z ((224 + c / 4096) ∷ (128 + c / 64 % 64) ∷ (128 + c % 64) ∷ []) ((240 + c / 262144) ∷ (128 + c / 4096 % 64) ∷ (128 + c / 64 % 64) ∷ (128 + c % 64) ∷ []))))
    go true y z = record { first = c; others = []; are = refl; go_on = tt }
    go false true z = record { first = 192 + c / 64; others = (128 + c % 64) ∷ []; are = refl; go_on = (next-goes_on c, tt) }
    go false false true = record { first = 224 + c / 4096; others = (128 + c / 64 % 64) ∷ (128 + c % 64) ∷ []; are = refl; go_on = (next-goes_on (c / 64), (next-goes_on c, tt)) }
    go false false false = record { first = 240 + c / 262144; others = (128 + c / 4096 % 64) ∷ (128 + c / 64 % 64) ∷ (128 + c % 64) ∷ []; are = refl; go_on = (next-goes_on (c / 4096), (next-goes_on (c / 64), (next-goes_on c, tt))) }

letters-parted : (t : List ℕ) → Parted (letters byte t)
letters-parted [] = parted _ _
letters-parted (c ∷ t) = go (goes_on byte c)
  where
    go : (b : Bool) → Parted (cond b (onto_first c (letters byte t)) ([] ∷ onto_first c (letters byte t)))
    go true = onto-parted c _
    go false = parted _ _

others-stay : (to bs t : List ℕ) → AllByRecursion GoesOn bs → replaced byte [] to (bs ++ t) ≡ bs ++ replaced byte [] to t
others-stay to [] t h = refl
others-stay to (b ∷ bs) t h = rw h.0 (joined-onto to b (letters-parted (bs ++ t)) ∙ ap (λ q. b ∷ q) (others-stay to bs t h.1))

pub begins-char : (b : ℕ) (t : List ℕ) → IsUtf8 (b ∷ t) → goes_on byte b ≡ false
begins-char b t u =
    let at : IsCharBoundary (b ∷ t) 0 = IsCharBoundary-start (b ∷ t) u in
    let h : 128 ≤ b → 192 ≤ b = at.1 (omega arith) in
    go (nat_lt b 128) (nat_lt b 192) refl refl h
  where
    go : (x y : Bool) → nat_lt b 128 ≡ x → nat_lt b 192 ≡ y → (128 ≤ b → 192 ≤ b) → (not x && y) ≡ false
    go true y e f h = refl
    go false false e f h = refl
    go false true e f h = let l : 128 ≤ b = grind (arith, common_steps, e) in let m : b < 192 = grind (arith, common_steps, f) in absurd (omega (arith, h l, m))

-- what is made of one character and a text, where the pattern is empty
before-char : (to : List ℕ) (c : ℕ) (t : List ℕ) → IsUtf8 (encode_utf8 c ++ t) → replaced byte [] to (encode_utf8 c ++ t) ≡ to ++ (encode_utf8 c ++ replaced byte [] to t)
before-char to c t u =
    let e = encoded c in
    subst (λ bs. IsUtf8 (bs ++ t) → replaced byte [] to (bs ++ t) ≡ to ++ (bs ++ replaced byte [] to t)) (sym e.are) (go e.first e.others e.go_on) u
  where
    go : (b : ℕ) (bs : List ℕ) → AllByRecursion GoesOn bs → IsUtf8 (b ∷ bs ++ t) → replaced byte [] to (b ∷ bs ++ t) ≡ to ++ (b ∷ bs ++ replaced byte [] to t)
    go b bs h u =
        rw (begins-char b (bs ++ t) u)
        (joined-more to [] (onto-parted b (letters byte (bs ++ t)))
        ∙ ap (λ q. to ++ q) (joined-onto to b (letters-parted (bs ++ t)) ∙ ap (λ q. b ∷ q) (others-stay to bs t h)))

none-is : (to : List ℕ) (n : ℕ) (from : Bor (List ℕ)) (s out : List ℕ) → from.now ≡ [] → IsUtf8 s → ReplacesMatches finds keeps to n from s out → out ≡ replaced byte [] to s
none-is to zero from s out e u (f, h) = let g : FindsText [] s None = subst (λ q. FindsText q s None) e f in absurd (g 0 (omega arith) s refl)
none-is to (suc n) from s out e u (suc a, b, q, rest, f, k, c, h) =
    let g : FindsText [] s (Some (suc a, b)) = subst (λ q. FindsText q s (Some (suc a, b))) e f in
    absurd (g.0 0 (omega arith) s refl)
none-is to (suc n) from s out e u (zero, b, q, rest, f, k, inl (l, on), h) =
    let g : FindsText [] s (Some (0, b)) = subst (λ q. FindsText q s (Some (0, b))) e f in
    let near : b ≡ 0 = g.1.ends in
    absurd (omega (arith, l, near))
none-is to (suc n) from s out e u (zero, b, q, rest, f, k, inr (l, inl (z, r)), h) =
    let at : length s ≡ 0 = subst (λ m. length (drop m s) ≡ 0) (sym l) z in
    let empty : s ≡ [] = nil_from_length s at in
    h ∙ ap (λ r. to ++ r) r ∙ sym (append-nil (to ++ [])) ∙ ap (replaced byte [] to) (sym empty)
none-is to (suc n) from s out e u (zero, b, q, rest, f, k, inr (l, inr (c, t, more, split, on, r)), h) =
    let whole : s ≡ encode_utf8 c ++ t = subst (λ m. drop m s ≡ encode_utf8 c ++ t) (sym l) split in
    let next : more ≡ replaced byte [] to t = none-is to n q t more (k ∙ e) (IsUtf8-past_char s t c u whole) on in
    h ∙ ap (λ r. to ++ r) (r ∙ ap (λ m. encode_utf8 c ++ m) next) ∙ sym (before-char to c t (subst IsUtf8 whole u)) ∙ ap (replaced byte [] to) (sym whole)

pub replace-is : (from : Bor (List ℕ)) (to s out : List ℕ) → IsUtf8 s → ((n : ℕ) × ReplacesMatches finds keeps to n from s out) → out ≡ replaced byte from.now to s
replace-is from to s out u (n, h) = go from.now refl
  where
    go : (pat : List ℕ) → from.now ≡ pat → out ≡ replaced byte pat to s
    go [] e = none-is to n from s out e u h
    go (p ∷ ps) e = some-is p ps to n from s out e h
