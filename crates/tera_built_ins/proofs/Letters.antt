-- The letters of a text are its characters.
use Rattle.std.proofs.Common.{◌≡◌, ℕ, List, [], ◌∷◌, ◌++◌, map, refl, sym, ap, subst, ◌∙◌, append-nil}
use lib.Utf8.{encodes}
use Rattle.std.specs.Char.{encode_utf8}
use Rattle.std.specs.List.{AllByRecursion, onto_first}
use Rattle.std.specs.Str.{IsUtf8, chars}
use Rattle.std.proofs.lemmas.Str.{IsUtf8-past_char, encodes-chars}
use Rattle.tera_built_ins.specs.Pieces.{letters}
use Rattle.tera_built_ins.proofs.Trimming.{byte}
use Rattle.tera_built_ins.proofs.Replacing.{GoesOn, encoded, begins-char}

-- bytes that go on belong to the first letter
letters-on : (bs t u : List ℕ) (us : List (List ℕ)) → AllByRecursion GoesOn bs → letters byte t ≡ u ∷ us → letters byte (bs ++ t) ≡ (bs ++ u) ∷ us
letters-on [] t u us h e = e
letters-on (b ∷ bs) t u us h e = rw h.0 (ap (onto_first b) (letters-on bs t u us h.1 e))

letters-char : (c : ℕ) (t : List ℕ) (us : List (List ℕ)) → IsUtf8 (encode_utf8 c ++ t) → letters byte t ≡ [] ∷ us → letters byte (encode_utf8 c ++ t) ≡ [] ∷ encode_utf8 c ∷ us
letters-char c t us u e =
    let parts = encoded c in
    subst (λ bs. IsUtf8 (bs ++ t) → letters byte (bs ++ t) ≡ [] ∷ bs ∷ us) (sym parts.are) (go parts.first parts.others parts.go_on) u
  where
    go : (b : ℕ) (bs : List ℕ) → AllByRecursion GoesOn bs → IsUtf8 (b ∷ bs ++ t) → letters byte (b ∷ bs ++ t) ≡ [] ∷ (b ∷ bs) ∷ us
    go b bs h u =
        rw (begins-char b (bs ++ t) u)
        (ap (λ q. [] ∷ onto_first b q) (letters-on bs t [] us h e) ∙ ap (λ q. [] ∷ (b ∷ q) ∷ us) (append-nil bs))

spelled-letters : (cs t : List ℕ) → IsUtf8 t → encodes cs ≡ t → letters byte t ≡ [] ∷ (map encode_utf8 cs ++ ([] ∷ []))
spelled-letters [] t u e = ap (letters byte) (sym e)
spelled-letters (c ∷ cs) t u e =
    let whole : t ≡ encode_utf8 c ++ encodes cs = sym e in
    let rest = spelled-letters cs (encodes cs) (IsUtf8-past_char t (encodes cs) c u whole) refl in
    ap (letters byte) whole ∙ letters-char c (encodes cs) (map encode_utf8 cs ++ ([] ∷ [])) (subst IsUtf8 whole u) rest

-- an empty text, the characters, and an empty text
pub letters-are : (t : List ℕ) → IsUtf8 t → letters byte t ≡ [] ∷ (map encode_utf8 (chars t) ++ ([] ∷ []))
letters-are t u = spelled-letters (chars t) t u (encodes-chars t u)
