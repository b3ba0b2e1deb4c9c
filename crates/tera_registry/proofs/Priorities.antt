-- The priority that the first fitting prefix gives.
use Rattle.std.proofs.Common.{◌≡◌, ℕ, suc, ◌+◌, ◌<◌, Bool, true, false, List, [], length, get_or, cond, ltb, nat_eq, Some, None, option_map, unwrap_or, sym, ap, ◌∙◌, add-one, inl, inr, arith}
use Rattle.std.specs.List.{starts_with, position, position_or_len}
use Rattle.std.proofs.lemmas.Bool.{cases_Bool, lt-ltb, ltb-true}
use Rattle.std.proofs.lemmas.List.Sums.{position_or_len_is}
use Rattle.tera_errors.specs.Site.{Name, Text}

not_itself : (n : ℕ) → ltb n n ≡ false
not_itself n = elim (cases_Bool (ltb n n)) [ inl less ↦ absurd (omega (arith, ltb-true n n less)) | inr e ↦ e ]

position-at : {X : Type 0} (p : X → Bool) (xs : List X) (i : ℕ) → position_or_len p xs ≡ i → (b : Bool) → ltb i (length xs) ≡ b → position p xs ≡ cond b (Some i) None
position-at p xs i e b t = ap (λ n. cond (ltb n (length xs)) (Some n) None) e ∙ ap (λ c. cond c (Some i) None) t

abbrev pub first_fit : List Text → Name → ℕ
first_fit ps n = unwrap_or (option_map suc (position (λ p. starts_with nat_eq n p) ps)) 0

pub first-fit-at : (ps : List Text) (n : Name) (i : ℕ) → i < length ps → ((k : ℕ) → k < i → starts_with nat_eq n (get_or ps k []) ≡ false) → starts_with nat_eq n (get_or ps i []) ≡ true → first_fit ps n ≡ i + 1
first-fit-at ps n i lt none here =
    let e = position_or_len_is (λ p. starts_with nat_eq n p) ps i [] (omega arith) none (λ _. here) in
    ap (λ o. unwrap_or (option_map suc o) 0) (position-at (λ p. starts_with nat_eq n p) ps i e true (lt-ltb i (length ps) lt)) ∙ sym (add-one i)

pub first-fit-none : (ps : List Text) (n : Name) → ((k : ℕ) → k < length ps → starts_with nat_eq n (get_or ps k []) ≡ false) → first_fit ps n ≡ 0
first-fit-none ps n none =
    let e = position_or_len_is (λ p. starts_with nat_eq n p) ps (length ps) [] (omega arith) none (λ lt. absurd (omega arith)) in
    ap (λ o. unwrap_or (option_map suc o) 0) (position-at (λ p. starts_with nat_eq n p) ps (length ps) e false (not_itself (length ps)))
