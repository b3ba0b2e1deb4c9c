-- What a text is after the trims of std by a pattern.
use Rattle.std.proofs.Common.{◌≡◌, ◌≢◌, ℕ, suc, ◌-◌, Bool, true, false, ◌&&◌, nat_eq, List, [], ◌∷◌, ◌++◌, length, take, drop, reverse, refl, sym, ap, ◌∙◌, Some, None, arith}
use Rattle.std.proofs.lemmas.Grind.{common_steps}
use Rattle.std.proofs.lemmas.List.{reverse-append, reverse-reverse}
use Rattle.std.specs.Str.Pattern.{FindsTextPrefix, FindsTextSuffix, CutsPrefixes, CutsSuffixes, IsFullyTrimmed, IsTrimStartMatches, IsTrimEndMatches}
use Rattle.tera_built_ins.specs.Pieces.{begins, without_front, trimmed_start, trimmed_end}

abbrev pub byte : ℕ → ℕ
byte b = b

-- a text begins with itself
pub begins-own : (ps t : List ℕ) → begins byte ps (ps ++ t) ≡ true
begins-own [] t = refl
begins-own (p ∷ ps) t = rw (begins-own ps t) (grind (arith, common_steps))

-- and a text that begins with another is that one and more
pub begins-split : (ps t : List ℕ) → begins byte ps t ≡ true → t ≡ ps ++ drop (length ps) t
begins-split [] t h = refl
begins-split (p ∷ ps) [] h = cc
begins-split (p ∷ ps) (c ∷ t) h = go (begins-split ps t) (nat_eq p c) (begins byte ps t) refl refl h
  where
    go : (begins byte ps t ≡ true → t ≡ ps ++ drop (length ps) t) → (a b : Bool) → nat_eq p c ≡ a → begins byte ps t ≡ b → (a && b) ≡ true → c ∷ t ≡ p ∷ (ps ++ drop (length ps) t)
    go rest true true e f h = let s : p ≡ c = grind (arith, common_steps, e) in let r = rest f in cc
    go rest true false e f h = cc
    go rest false b e f h = cc

-- so one that is not that and more does not
pub lacks : (p : ℕ) (ps t : List ℕ) → ((rest : List ℕ) → t ≢ (p ∷ ps) ++ rest) → begins byte (p ∷ ps) t ≡ false
lacks p ps t h = go (begins byte (p ∷ ps) t) refl
  where
    go : (b : Bool) → begins byte (p ∷ ps) t ≡ b → b ≡ false
    go true e = absurd (h (drop (length (p ∷ ps)) t) (begins-split (p ∷ ps) t e))
    go false e = refl

past : (p : ℕ) (ps qs t : List ℕ) → without_front byte p ps (length qs) (qs ++ t) ≡ without_front byte p ps 0 t
past p ps [] t = refl
past p ps (q ∷ qs) t = past p ps qs t

-- the pattern at the start goes
pub off-start : (pat t : List ℕ) → trimmed_start byte pat (pat ++ t) ≡ trimmed_start byte pat t
off-start [] t = refl
off-start (p ∷ ps) t = rw (begins-own (p ∷ ps) t) (past p ps ps t)

-- a text that does not begin with the pattern stays
pub none-off : (p : ℕ) (ps t : List ℕ) → begins byte (p ∷ ps) t ≡ false → trimmed_start byte (p ∷ ps) t ≡ t
none-off p ps [] h = refl
none-off p ps (c ∷ t) h = rw h refl

fully : (pat r : List ℕ) → IsFullyTrimmed (FindsTextPrefix pat) r → trimmed_start byte pat r ≡ r
fully [] r h = refl
fully (p ∷ ps) r (None, f, e) = none-off p ps r (lacks p ps r f)
fully (p ∷ ps) r (Some n, f, e) = let k : n ≡ suc (length ps) = f.0 in let z : n ≡ 0 = e in absurd (omega arith)

cuts : (pat s r : List ℕ) (ns : List ℕ) → CutsPrefixes (FindsTextPrefix pat) s ns r → trimmed_start byte pat s ≡ trimmed_start byte pat r
cuts pat s r [] h = rw h refl
cuts pat s r (n ∷ ns) (m, h, f, e) =
    let off : trimmed_start byte pat m ≡ trimmed_start byte pat (drop n m) = ap (trimmed_start byte pat) f.1 ∙ off-start pat (drop n m) in
    cuts pat s m ns h ∙ off ∙ ap (trimmed_start byte pat) (sym e)

pub trim_start-is : (pat s r : List ℕ) → IsTrimStartMatches (FindsTextPrefix pat) s r → r ≡ trimmed_start byte pat s
trim_start-is pat s r (((ns, h), f)) = sym (cuts pat s r ns h ∙ fully pat r f)

-- the same from the end
fully-end : (pat r : List ℕ) → IsFullyTrimmed (FindsTextSuffix pat) r → trimmed_start byte (reverse pat) (reverse r) ≡ reverse r
fully-end pat r (None, f, e) = go (reverse pat) refl
  where
    split : (ps : List ℕ) → reverse pat ≡ ps → begins byte ps (reverse r) ≡ true → ⊥
    split ps e h =
        let front = drop (length ps) (reverse r) in
        let whole : reverse r ≡ reverse pat ++ front = begins-split ps (reverse r) h ∙ ap (λ q. q ++ front) (sym e) in
        let turned : r ≡ reverse front ++ pat =
        sym (reverse-reverse r) ∙ ap reverse whole ∙ reverse-append (reverse pat) front ∙ ap (λ q. reverse front ++ q) (reverse-reverse pat) in
        f (reverse front) turned

    go : (ps : List ℕ) → reverse pat ≡ ps → trimmed_start byte ps (reverse r) ≡ reverse r
    go [] e = refl
    go (p ∷ ps) e = go_on (begins byte (p ∷ ps) (reverse r)) refl
      where
        go_on : (b : Bool) → begins byte (p ∷ ps) (reverse r) ≡ b → trimmed_start byte (p ∷ ps) (reverse r) ≡ reverse r
        go_on true h = absurd (split (p ∷ ps) e h)
        go_on false h = none-off p ps (reverse r) h
fully-end [] r (Some n, f, e) = refl
fully-end (p ∷ ps) r (Some n, f, e) = let k : n ≡ suc (length ps) = f.0 in let z : n ≡ 0 = e in absurd (omega arith)

cuts-end : (pat s r : List ℕ) (ns : List ℕ) → CutsSuffixes (FindsTextSuffix pat) s ns r → trimmed_start byte (reverse pat) (reverse s) ≡ trimmed_start byte (reverse pat) (reverse r)
cuts-end pat s r [] h = rw h refl
cuts-end pat s r (n ∷ ns) (m, h, f, e) =
    let front = take (length m - n) m in
    let turned : reverse m ≡ reverse pat ++ reverse front = ap reverse f.1 ∙ reverse-append front pat in
    let off : trimmed_start byte (reverse pat) (reverse m) ≡ trimmed_start byte (reverse pat) (reverse front) =
    ap (trimmed_start byte (reverse pat)) turned ∙ off-start (reverse pat) (reverse front) in
    cuts-end pat s m ns h ∙ off ∙ ap (λ q. trimmed_start byte (reverse pat) (reverse q)) (sym e)

pub trim_end-is : (pat s r : List ℕ) → IsTrimEndMatches (FindsTextSuffix pat) s r → r ≡ trimmed_end byte pat s
trim_end-is pat s r (((ns, h), f)) = sym (ap reverse (cuts-end pat s r ns h ∙ fully-end pat r f) ∙ reverse-reverse r)
