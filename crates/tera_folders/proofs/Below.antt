-- What lies in a folder, by the texts of paths.
use Rattle.std.proofs.Common.{◌≡◌, ◌≢◌, ℕ, Bool, true, false, nat_eq, inl, inr, List, [], ◌∷◌, ◌++◌, drop, append_assoc, append-nil, refl, sym, ap, ◌∙◌, Option, Some, None, MatchOption, Bor, codes, if◌then◌else◌}
use Rattle.std.proofs.lemmas.List.{append_cancel_left}
use Rattle.std.specs.List.{ends_with}
use Rattle.std.specs.Str.Pattern.{FindsTextPrefix, StripsPrefix}
use Rattle.tera_folders.specs.Names.{with_slash, IsBelow}

-- what `strip_prefix` answers of a text
pub strip_text : (n s : List ℕ) (r : Option (Bor (List ℕ)))
    → MatchOption r (FindsTextPrefix n s None) (λ x. StripsPrefix (FindsTextPrefix n) s x.now)
    → MatchOption r ((rest : List ℕ) → s ≢ n ++ rest) (λ x. s ≡ n ++ x.now)
strip_text n s None h = h
strip_text n s (Some x) h = h.1.1 ∙ ap (λ l. n ++ l) (sym h.2)

pub slash_kept : (folder : List ℕ) → ends_with nat_eq folder (codes "/") ≡ true → with_slash folder ≡ folder
slash_kept folder e = ap (λ b. if b then folder else folder ++ codes "/") e

pub slash_added : (folder : List ℕ) → ends_with nat_eq folder (codes "/") ≡ false → with_slash folder ≡ folder ++ codes "/"
slash_added folder e = ap (λ b. if b then folder else folder ++ codes "/") e

-- a path that does not begin with the folder does not lie in it
pub apart_from_start : (folder path : List ℕ) → ((rest : List ℕ) → path ≢ folder ++ rest)
    → (rest : List ℕ) → ¬ IsBelow folder path rest
apart_from_start folder path lacks rest (inl h) = lacks [] (h.0 ∙ sym (append-nil folder))
apart_from_start folder path lacks rest (inr e) = by_slash (ends_with nat_eq folder (codes "/")) refl
  where
    by_slash : (b : Bool) → ends_with nat_eq folder (codes "/") ≡ b → ⊥
    by_slash true s = lacks rest (e ∙ ap (λ l. l ++ rest) (slash_kept folder s))
    by_slash false s = lacks (codes "/" ++ rest) (e ∙ ap (λ l. l ++ rest) (slash_added folder s) ∙ append_assoc folder (codes "/") rest)

-- the path is below the folder where it goes on with a `/`, and else is apart from it
pub by_next_slash : (folder path left : List ℕ) (r : Option (Bor (List ℕ))) → path ≢ folder → path ≡ folder ++ left
    → ends_with nat_eq folder (codes "/") ≡ false
    → MatchOption r ((rest : List ℕ) → left ≢ codes "/" ++ rest) (λ x. left ≡ codes "/" ++ x.now)
    → MatchOption r ((rest : List ℕ) → ¬ IsBelow folder path rest) (λ x. IsBelow folder path x.now)
by_next_slash folder path left None other e s h = apart
  where
    apart : (rest : List ℕ) → ¬ IsBelow folder path rest
    apart rest (inl g) = other g.0
    apart rest (inr g) = h rest (append_cancel_left folder left (codes "/" ++ rest) (sym e ∙ g ∙ ap (λ l. l ++ rest) (slash_added folder s) ∙ append_assoc folder (codes "/") rest))
by_next_slash folder path left (Some x) other e s h =
    inr (e ∙ ap (λ l. folder ++ l) h ∙ sym (append_assoc folder (codes "/") x.now) ∙ ap (λ l. l ++ x.now) (sym (slash_added folder s)))
