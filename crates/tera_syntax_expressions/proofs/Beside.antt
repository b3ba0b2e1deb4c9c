-- Names that are told apart one after the other, beside those that were seen before.
use Rattle.std.proofs.Common.{◌≡◌, Bool, true, false, not, cond, ◌&&◌, ◌||◌, List, [], ◌∷◌, refl, sym, ap, ◌∙◌}
use Rattle.std.specs.List.{list_any}
use Rattle.std.specs.Str.{bytes_eq}
use Rattle.std.specs.Borrow.{Bor}
use Rattle.std.specs.BTreeSet.{BTreeSet, contains_by, IsEmpty, UpdatesBy}
use Rattle.std.specs.Cmp.Lexicographic.{slice_cmp}
use Rattle.std.specs.Ordering.{is_eq, nat_cmp}
use Rattle.std.proofs.lemmas.Map.Text.{is_eq-slice_cmp}
use Rattle.tera_errors.specs.Site.{Name}
use Rattle.tera_syntax_tree.specs.Blocks.{are_distinct, is_among}

-- no two of the names are one, and none of them was seen
abbrev pub are_new : (Name → Bool) → List Name → Bool
are_new seen names = not (list_any seen names) && are_distinct names

any-none : (seen : Name → Bool) (names : List Name) → ((q : Name) → seen q ≡ false) → list_any seen names ≡ false
any-none seen [] h = refl
any-none seen (n ∷ names) h = ap (λ b. b || list_any seen names) (h n) ∙ any-none seen names h

-- where nothing was seen
pub are_new-none : (seen : Name → Bool) (names : List Name) → ((q : Name) → seen q ≡ false) → are_new seen names ≡ are_distinct names
are_new-none seen names h = ap (λ b. not b && are_distinct names) (any-none seen names h)

any-more : (old new : Name → Bool) (n : Name) (names : List Name) → ((q : Name) → new q ≡ cond (bytes_eq n q) true (old q)) → list_any new names ≡ (is_among n names || list_any old names)
any-more old new n [] h = refl
any-more old new n (m ∷ names) h =
    ap (λ b. b || list_any new names) (h m) ∙ ap (λ b. cond (bytes_eq n m) true (old m) || b) (any-more old new n names h) ∙ go (bytes_eq n m) (old m) (is_among n names) (list_any old names)
  where
    go : (a b c d : Bool) → (cond a true b || (c || d)) ≡ ((a || c) || (b || d))
    go true b c d = refl
    go false true true d = refl
    go false true false d = refl
    go false false c d = refl

-- one that was not seen is seen from then on
pub are_new-cons : (old new : Name → Bool) (n : Name) (names : List Name) → ((q : Name) → new q ≡ cond (bytes_eq n q) true (old q)) → old n ≡ false → are_new old (n ∷ names) ≡ are_new new names
are_new-cons old new n names h fresh =
    ap (λ b. not (b || list_any old names) && (not (is_among n names) && are_distinct names)) fresh ∙ go (is_among n names) (list_any old names) (are_distinct names) ∙ ap (λ b. not b && are_distinct names) (sym (any-more old new n names h))
  where
    go : (a b d : Bool) → (not (false || b) && (not a && d)) ≡ (not (a || b) && d)
    go true true d = refl
    go true false d = refl
    go false true d = refl
    go false false d = refl

-- one that was seen is not new
pub are_new-seen : (old : Name → Bool) (n : Name) (names : List Name) → old n ≡ true → are_new old (n ∷ names) ≡ false
are_new-seen old n names seen = ap (λ b. not (b || list_any old names) && (not (is_among n names) && are_distinct names)) seen

-- whether the set has a name
abbrev pub has : BTreeSet (Bor Name) → Name → Bool
has seen q = contains_by (λ k. slice_cmp nat_cmp q k.now) seen

-- a set without names
pub has-empty : (seen : BTreeSet (Bor Name)) → IsEmpty seen → (q : Name) → has seen q ≡ false
has-empty seen empty q = ap (list_any (λ k. is_eq (slice_cmp nat_cmp q k.now))) empty

-- a set with one name more
pub has-more : (n : Name) (old new : BTreeSet (Bor Name)) → UpdatesBy (λ x y. slice_cmp nat_cmp x.now y.now) (λ k. slice_cmp nat_cmp n k.now) old new true → (q : Name) → has new q ≡ cond (bytes_eq n q) true (has old q)
has-more n old new updates q = updates.0 (record { ref_ptr = (0, 0); now = q }) ∙ ap (λ b. cond b true (has old q)) (is_eq-slice_cmp n q)
