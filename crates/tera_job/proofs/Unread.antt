-- Texts that spell no tree, one after another.
use Rattle.std.proofs.Common.{◌≡◌, inl, inr, ℕ, ◌+◌, ◌<◌, List, [], ◌∷◌, ◌++◌, length, take, Bor, refl, sym, ap, ◌∙◌, subst}
use Rattle.std.proofs.Math.ListN.{get_or}
use Rattle.std.proofs.lemmas.List.{map_more, take-map}
use Rattle.tera.specs.Site.{Name, Text}
use Rattle.tera.specs.Answer.{SeenError}
use Rattle.tera.specs.Delimiters.{Delims}
use Rattle.tera.specs.Batch.{pairs_of}
use Rattle.tera_job.specs.Unread.{IsRead, IsUnread, AreUnread}

-- a name and a text as they are lent
abbrev Lent : Type 0
Lent = Bor (List ℕ) × Bor (List ℕ)

-- one more that is read
read_more : (d : Delims) (ts : List (Name × Text)) (t : Name × Text) (es : List SeenError) → AreUnread d ts es → IsRead d t → AreUnread d (ts ++ t ∷ []) es
read_more d [] t es h k = inl (k, h)
read_more d (x ∷ ts) t es (inl p) k = inl (p.0, read_more d ts t es p.1 k)
read_more d (x ∷ ts) t es (inr p) k = inr (p.0, p.1, p.2, p.3, read_more d ts t p.1 p.4 k)

-- one more that is not
unread_more : (d : Delims) (ts : List (Name × Text)) (t : Name × Text) (es : List SeenError) (e : SeenError) → AreUnread d ts es → IsUnread d t e → AreUnread d (ts ++ t ∷ []) (es ++ e ∷ [])
unread_more d [] t es e h k = inr (e, [], ap (λ xs. xs ++ e ∷ []) h, k, refl)
unread_more d (x ∷ ts) t es e (inl p) k = inl (p.0, unread_more d ts t es e p.1 k)
unread_more d (x ∷ ts) t es e (inr p) k = inr (p.0, p.1 ++ e ∷ [], ap (λ xs. xs ++ e ∷ []) p.2, p.3, unread_more d ts t p.1 e p.4 k)

-- the same of the text at a position
front : (xs : List Lent) (i : ℕ) (x : Lent) → i < length xs → take (i + 1) (pairs_of xs) ≡ take i (pairs_of xs) ++ ((get_or xs i x).0.now, (get_or xs i x).1.now) ∷ []
front xs i x lt =
    let f : Lent → Name × Text = λ p. (p.0.now, p.1.now) in
    take-map f (i + 1) xs ∙ map_more f xs i x lt ∙ ap (λ (ys : List (Name × Text)). ys ++ f (get_or xs i x) ∷ []) (sym (take-map f i xs))

pub read_at : (d : Delims) (xs : List Lent) (i : ℕ) (x : Lent) (es : List SeenError) → i < length xs → AreUnread d (take i (pairs_of xs)) es → IsRead d ((get_or xs i x).0.now, (get_or xs i x).1.now) → AreUnread d (take (i + 1) (pairs_of xs)) es
read_at d xs i x es lt h k = subst (λ ts. AreUnread d ts es) (sym (front xs i x lt)) (read_more d (take i (pairs_of xs)) _ es h k)

pub unread_at : (d : Delims) (xs : List Lent) (i : ℕ) (x : Lent) (es : List SeenError) (e : SeenError) → i < length xs → AreUnread d (take i (pairs_of xs)) es → IsUnread d ((get_or xs i x).0.now, (get_or xs i x).1.now) e → AreUnread d (take (i + 1) (pairs_of xs)) (es ++ e ∷ [])
unread_at d xs i x es e lt h k = subst (λ ts. AreUnread d ts (es ++ e ∷ [])) (sym (front xs i x lt)) (unread_more d (take i (pairs_of xs)) _ es e h k)
