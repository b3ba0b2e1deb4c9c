-- Texts taken apart and put together stand to each other as they did whole, where characters that do are of one byte.
use Rattle.std.proofs.Common.{◌≡◌, ℕ, zero, suc, List, [], ◌∷◌, length, reverse, refl}
use Rattle.std.specs.List.{slice_split}
use Rattle.tera_built_ins.specs.Pieces as of
use Rattle.tera_meaning.proofs.Marks.Each.{Each, none, more, one_of, each-reverse, each-onto_first, each-join_by}

module _ {C : Type 0} {code : C → ℕ} {R : C → ℕ → Type 0} (decodes : (c : C) (b : ℕ) → R c b → code c ≡ b) where
  begins-same : (pattern : List ℕ) {t : List C} {u : List ℕ} → Each R t u → of.begins code pattern t ≡ of.begins (λ b. b) pattern u
  begins-same [] rs = refl
  begins-same (p ∷ ps) none = refl
  begins-same (p ∷ ps) (more {x = c} {y = b} r rs) = rw (decodes c b r) (rw (begins-same ps rs) refl)

  each-without_front : (p : ℕ) (ps : List ℕ) (k : ℕ) {t : List C} {u : List ℕ} → Each R t u → Each R (of.without_front code p ps k t) (of.without_front (λ b. b) p ps k u)
  each-without_front p ps k none = none
  each-without_front p ps (suc k) (more r rs) = each-without_front p ps k rs
  each-without_front p ps zero (more r rs) =
      rw (begins-same (p ∷ ps) (more r rs)) (one_of (Each R) _ (each-without_front p ps (length ps) rs) (more r rs))

  pub each-trimmed_start : (pattern : List ℕ) {t : List C} {u : List ℕ} → Each R t u → Each R (of.trimmed_start code pattern t) (of.trimmed_start (λ b. b) pattern u)
  each-trimmed_start [] rs = rs
  each-trimmed_start (p ∷ ps) rs = each-without_front p ps 0 rs

  pub each-trimmed_end : (pattern : List ℕ) {t : List C} {u : List ℕ} → Each R t u → Each R (of.trimmed_end code pattern t) (of.trimmed_end (λ b. b) pattern u)
  each-trimmed_end pattern rs = each-reverse (each-trimmed_start (reverse pattern) (each-reverse rs))

  each-cut : (p : ℕ) (ps : List ℕ) (k : ℕ) {t : List C} {u : List ℕ} → Each R t u → Each (Each R) (of.cut code p ps k t) (of.cut (λ b. b) p ps k u)
  each-cut p ps k none = more none none
  each-cut p ps (suc k) (more r rs) = each-cut p ps k rs
  each-cut p ps zero (more {x = c} {y = b} r rs) =
      rw (begins-same (p ∷ ps) (more r rs))
      (one_of (Each (Each R)) _ (more none (each-cut p ps (length ps) rs)) (each-onto_first c b r (each-cut p ps 0 rs)))

  each-letters : {t : List C} {u : List ℕ} → Each R t u → Each (Each R) (of.letters code t) (of.letters (λ b. b) u)
  each-letters none = more none (more none none)
  each-letters (more {x = c} {y = b} r rs) =
      rw (decodes c b r) (one_of (Each (Each R)) _ (each-onto_first c b r (each-letters rs)) (more none (each-onto_first c b r (each-letters rs))))

  pub each-pieces : (pattern : List ℕ) {t : List C} {u : List ℕ} → Each R t u → Each (Each R) (of.pieces code pattern t) (of.pieces (λ b. b) pattern u)
  each-pieces [] rs = each-letters rs
  each-pieces (p ∷ ps) rs = each-cut p ps 0 rs

  pub each-joined : {between : List C} {other : List ℕ} {ts : List (List C)} {us : List (List ℕ)} → Each R between other → Each (Each R) ts us → Each R (of.joined code between ts) (of.joined (λ b. b) other us)
  each-joined s rs = each-join_by _ _ (λ t u r. r) s rs

  each-split : (p : ℕ) {t : List C} {u : List ℕ} → Each R t u → Each (Each R) (slice_split (of.is_code code p) t) (slice_split (of.is_code (λ b. b) p) u)
  each-split p none = more none none
  each-split p (more {x = c} {y = b} r rs) =
      rw (decodes c b r) (one_of (Each (Each R)) _ (more none (each-split p rs)) (each-onto_first c b r (each-split p rs)))

  each-without_return : {t : List C} {u : List ℕ} → Each R t u → Each R (of.without_return code t) (of.without_return (λ b. b) u)
  each-without_return none = none
  each-without_return (more {x = c} {y = b} r none) = rw (decodes c b r) (one_of (Each R) _ none (more r none))
  each-without_return (more r (more s rs)) = more r (each-without_return (more s rs))

  each-lines_of : {ts : List (List C)} {us : List (List ℕ)} → Each (Each R) ts us → Each (Each R) (of.lines_of code ts) (of.lines_of (λ b. b) us)
  each-lines_of none = none
  each-lines_of (more none none) = none
  each-lines_of (more (more r rs) none) = more (more r rs) none
  each-lines_of (more r (more s rs)) = more (each-without_return r) (each-lines_of (more s rs))

  pub each-lines : {t : List C} {u : List ℕ} → Each R t u → Each (Each R) (of.lines code t) (of.lines (λ b. b) u)
  each-lines rs = each-lines_of (each-split 10 rs)

  pub ends_line-same : {t : List C} {u : List ℕ} → Each R t u → of.ends_line code t ≡ of.ends_line (λ b. b) u
  ends_line-same none = refl
  ends_line-same (more {x = c} {y = b} r none) = rw (decodes c b r) refl
  ends_line-same (more r (more s rs)) = ends_line-same (more s rs)
