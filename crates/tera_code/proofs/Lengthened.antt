-- Listings that grow.
use Rattle.std.proofs.Common.{◌≡◌, ℕ, suc, ◌+◌, ◌<◌, List, [], ◌∷◌, ◌++◌, length, drop, get_or, sym, ap, ◌∙◌, append_assoc, append-nil, add-one, drop-cons}
use Rattle.tera_code.specs.Listing.{Listing}
use Rattle.tera_code.specs.Code.{Code, lengthened}

-- with instructions behind, and with further ones
pub lengthened-lengthened : (l : Listing) (a b : Code) → lengthened (lengthened l a) b ≡ lengthened l (a ++ b)
lengthened-lengthened l a b = ap (λ code. record l { code = code }) (append_assoc l.code a b)

-- with no instruction behind
pub lengthened-nothing : (l : Listing) → l ≡ lengthened l []
lengthened-nothing l = ap (λ code. record l { code = code }) (sym (append-nil l.code))

-- what is to come at a position: the element there, and what comes after it
pub drop-here : {A : Type 0} (xs : List A) (i : ℕ) (x : A) → i < length xs → x ≡ get_or xs i x → drop i xs ≡ x ∷ drop (i + 1) xs
drop-here xs i x l e = drop-cons xs i x l ∙ ap (λ y. y ∷ drop (suc i) xs) (sym e) ∙ ap (λ n. x ∷ drop n xs) (sym (add-one i))
