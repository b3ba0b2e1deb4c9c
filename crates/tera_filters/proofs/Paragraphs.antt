-- Paragraphs that are written line by line are those of the runs of lines.
use Rattle.std.proofs.Common.{◌≡◌, ℕ, ◌+◌, ◌<◌, Bool, true, false, cond, not, List, [], ◌∷◌, ◌++◌, length, get_or, drop, filter, flat_map, codes, refl, sym, ap, ◌∙◌, append_assoc, append-nil}
use Rattle.std.specs.List.{slice_split, onto_first, join_by}
use Rattle.std.proofs.lemmas.List.{at_drop_more}
use Rattle.tera_built_ins.specs.Words.{has_some}
use Rattle.tera_filters.specs.Lines.{runs_of, paragraph, paragraphs}
use Rattle.tera_filters.specs.LineMarks.{opening, added, begun_behind, added_by}

abbrev Text : Type 0
Text = List ℕ

abbrev is_blank : Text → Bool
is_blank l = not (has_some l)

-- the other lines of a paragraph, and the other paragraphs
abbrev other_lines : List Text → Text
other_lines ls = flat_map (λ l. codes "<br>" ++ l) ls

abbrev others : List (List Text) → Text
others rs = flat_map (λ r. codes "\n\n" ++ paragraph r) rs

-- paragraphs, where others stand before them or not
abbrev all_of : Bool → List (List Text) → Text
all_of begun rs = cond begun (others rs) (join_by paragraph (codes "\n\n") rs)

-- what these pieces between empty lines add to an open paragraph
abbrev closing : List (List Text) → Text
closing [] = codes "</p>"
closing (r ∷ rs) = other_lines r ++ (codes "</p>" ++ others (filter has_some rs))

inside-more : (l : Text) (rs : List (List Text)) → closing (onto_first l rs) ≡ (codes "<br>" ++ l) ++ closing rs
inside-more l [] = ap (λ t. t ++ codes "</p>") (append-nil (codes "<br>" ++ l))
inside-more l (r ∷ rs) = append_assoc (codes "<br>" ++ l) (other_lines r) (codes "</p>" ++ others (filter has_some rs))

-- a paragraph behind its `<p>`, and what follows it
core : (l r m : Text) → ((l ++ r) ++ codes "</p>") ++ m ≡ l ++ (r ++ (codes "</p>" ++ m))
core l r m = append_assoc (l ++ r) (codes "</p>") m ∙ append_assoc l r (codes "</p>" ++ m)

core-nil : (l : Text) → ((l ++ []) ++ codes "</p>") ++ [] ≡ l ++ codes "</p>"
core-nil l = append-nil ((l ++ []) ++ codes "</p>") ∙ ap (λ t. t ++ codes "</p>") (append-nil l)

outside-more : (begun : Bool) (c : ℕ) (l : Text) (rs : List (List Text)) → all_of begun (filter has_some (onto_first (c ∷ l) rs)) ≡ (opening begun false ++ (c ∷ l)) ++ closing rs
outside-more true c l [] = ap (λ t. codes "\n\n<p>" ++ t) (core-nil (c ∷ l))
outside-more true c l (r ∷ rs) = ap (λ t. codes "\n\n<p>" ++ t) (core (c ∷ l) (other_lines r) (others (filter has_some rs)))
outside-more false c l [] = ap (λ t. codes "<p>" ++ t) (core-nil (c ∷ l))
outside-more false c l (r ∷ rs) = ap (λ t. codes "<p>" ++ t) (core (c ∷ l) (other_lines r) (others (filter has_some rs)))

abbrev AddedBoth : List Text → Type 0
AddedBoth ls = ((begun : Bool) → added_by begun false ls ≡ all_of begun (runs_of ls)) × (added_by true true ls ≡ closing (slice_split is_blank ls))

none-added : (begun : Bool) → added_by begun false [] ≡ all_of begun (runs_of [])
none-added true = refl
none-added false = refl

added-both : (ls : List Text) → AddedBoth ls
added-both [] = (none-added, refl)
added-both ([] ∷ ls) = let more = added-both ls in (more.0, ap (λ t. codes "</p>" ++ t) (more.0 true))
added-both ((c ∷ l) ∷ ls) =
    let more = added-both ls in
    let pieces = slice_split is_blank ls in (
      λ begun. ap (λ t. (opening begun false ++ (c ∷ l)) ++ t) more.1 ∙ sym (outside-more begun c l pieces),
      ap (λ t. (codes "<br>" ++ (c ∷ l)) ++ t) more.1 ∙ sym (inside-more (c ∷ l) pieces),
    )

pub paragraphs-are : (ls : List Text) → added_by false false ls ≡ paragraphs ls
paragraphs-are ls = (added-both ls).0 false

pub added-drop : (begun inside : Bool) (ls : List Text) (n : ℕ) (l : Text) → (n < length ls) × (l ≡ get_or ls n l)
    → added_by begun inside (drop n ls) ≡ added begun inside l ++ added_by (begun_behind begun l) (has_some l) (drop (n + 1) ls)
added-drop begun inside ls n l h =
    at_drop_more (added_by begun inside) ls n l h.0
    ∙ ap (λ (k : Text). added begun inside k ++ added_by (begun_behind begun k) (has_some k) (drop (n + 1) ls)) (sym h.1)

-- a line more
pub added-more : (old out whole l : Text) (begun inside b i : Bool) (ls : List Text) (n m : ℕ) → out ≡ old ++ added begun inside l → b ≡ begun_behind begun l → i ≡ has_some l → m ≡ n + 1 → (n < length ls) × (l ≡ get_or ls n l)
    → old ++ added_by begun inside (drop n ls) ≡ whole → out ++ added_by b i (drop m ls) ≡ whole
added-more old out whole l begun inside b i ls n m written eb ei em turn before =
    let more : Text = added_by (begun_behind begun l) (has_some l) (drop (n + 1) ls) in
    ap (λ (q : Bool). out ++ added_by q i (drop m ls)) eb ∙ ap (λ (q : Bool). out ++ added_by (begun_behind begun l) q (drop m ls)) ei
    ∙ ap (λ (k : ℕ). out ++ added_by (begun_behind begun l) (has_some l) (drop k ls)) em ∙ ap (λ (t : Text). t ++ more) written
    ∙ append_assoc old (added begun inside l) more ∙ ap (λ (t : Text). old ++ t) (sym (added-drop begun inside ls n l turn)) ∙ before
