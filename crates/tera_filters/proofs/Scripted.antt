-- A text for a script, letter by letter.
use Rattle.std.proofs.Common.{◌≡◌, ℕ, ◌+◌, ◌<◌, ◌≤◌, List, ◌∷◌, ◌++◌, length, drop, get_or, ap, sym, ◌∙◌, append_assoc}
use Rattle.std.specs.Prelude.{flat_map}
use Rattle.std.proofs.lemmas.List.{append-nil, at_drop_more, at_drop_all}
use Rattle.tera_filters.specs.JsonTexts.{script_char}

abbrev pub rest_of : List ℕ → List ℕ
rest_of cs = flat_map script_char cs

pub letter-put : (out new piece whole cs : List ℕ) (n m c : ℕ) → (n < length cs) × (c ≡ get_or cs n c) → m ≡ n + 1 → new ≡ out ++ piece → piece ≡ script_char c → out ++ rest_of (drop n cs) ≡ whole → new ++ rest_of (drop m cs) ≡ whole
letter-put out new piece whole cs n m c at more written is kept =
    let later = rest_of (drop (n + 1) cs) in
    let next : rest_of (drop n cs) ≡ script_char c ++ later
    = at_drop_more rest_of cs n c at.0 ∙ ap (λ (x : ℕ). rest_of (x ∷ drop (n + 1) cs)) (sym at.1) in
    ap (λ (l : List ℕ). l ++ rest_of (drop m cs)) written
    ∙ ap (λ (k : ℕ). (out ++ piece) ++ rest_of (drop k cs)) more
    ∙ append_assoc out piece later
    ∙ ap (λ (p : List ℕ). out ++ (p ++ later)) is
    ∙ ap (λ (l : List ℕ). out ++ l) (sym next)
    ∙ kept

pub script-end : (out cs : List ℕ) (n : ℕ) → length cs ≤ n → out ++ rest_of (drop n cs) ≡ out
script-end out cs n h = at_drop_all (λ (l : List ℕ). out ++ rest_of l) cs n h ∙ append-nil out
