-- Paths, one after another: all have places of their own, or one of them has none.
use Rattle.std.proofs.Common.{◌≡◌, ℕ, ◌+◌, ◌<◌, Bool, true, false, cond, not, Option, Some, ◌&&◌, ◌||◌, List, [], ◌∷◌, ◌++◌, length, take, drop, map, refl, sym, ap, ◌∙◌, arith}
use Rattle.std.specs.Cmp.{both_ways}
use Rattle.std.specs.List.{list_all}
use Rattle.std.specs.Str.{bytes_eq}
use Rattle.std.proofs.lemmas.List.{take_more, drop_more, take-append-drop, get_or-map, length-map}
use Rattle.std.proofs.lemmas.List.Folds.{list_any-append, list_all-append}
use Rattle.std.proofs.lemmas.Slice.Eq.{bytes_eq-Decides}
use Rattle.std.proofs.Math.ListN.{get_or}
use Rattle.std.specs.Option.{is_some}
use Rattle.std.specs.Prelude.{String, string_bytes, None, IfSome}
use Rattle.tera.specs.Site.{Text}
use Rattle.tera.specs.Fault.{message}
use Rattle.tera.specs.Answer.{SeenError, Tells}
use Rattle.tera.specs.Named.{is_one_of}
use Rattle.tera_job.specs.Paths.{output_path, stays_inside}
use Rattle.tera_job.specs.Pages.{are_distinct, have_places}

eq_sym : (a b : Text) → bytes_eq a b ≡ bytes_eq b a
eq_sym a b = both_ways (bytes_eq a b) (bytes_eq b a) (λ h. (bytes_eq-Decides b a).1 (sym ((bytes_eq-Decides a b).0 h))) (λ h. (bytes_eq-Decides a b).1 (sym ((bytes_eq-Decides b a).0 h)))

both : (a b : Bool) → a ≡ true → b ≡ true → a && b ≡ true
both a b h k = rw (h, k) refl

first : (a b : Bool) → a && b ≡ true → a ≡ true
first true b h = refl
first false b h = h

second : (a b : Bool) → a && b ≡ true → b ≡ true
second true b h = h
second false b h = absurd (cc)

neither : (a b : Bool) → a || b ≡ false → (a ≡ false) × (b ≡ false)
neither true b h = absurd (cc)
neither false b h = (refl, h)

left_false : (a b : Bool) → a ≡ false → a && b ≡ false
left_false a b h = rw h refl

right_false : (a b : Bool) → b ≡ false → a && b ≡ false
right_false true b h = h
right_false false b h = refl

-- one path more
distinct_more : (qs : List Text) (p : Text) → are_distinct qs ≡ true → is_one_of qs p ≡ false → are_distinct (qs ++ p ∷ []) ≡ true
distinct_more [] p h k = refl
distinct_more (q ∷ qs) p h k =
    let apart = neither (bytes_eq p q) (is_one_of qs p) k in
    let old = first (not (is_one_of qs q)) (are_distinct qs) h in
    let other : is_one_of (qs ++ p ∷ []) q ≡ is_one_of qs q =
    list_any-append (λ n. bytes_eq q n) qs (p ∷ []) ∙ ap (λ b. is_one_of qs q || (b || false)) (eq_sym q p ∙ apart.0) ∙ or_false (is_one_of qs q) in
    both (not (is_one_of (qs ++ p ∷ []) q)) (are_distinct (qs ++ p ∷ [])) (ap not other ∙ old) (distinct_more qs p (second (not (is_one_of qs q)) (are_distinct qs) h) apart.1)
  where
    or_false : (b : Bool) → b || (false || false) ≡ b
    or_false true = refl
    or_false false = refl

pub placed_more : (qs : List Text) (p : Text) → have_places qs ≡ true → stays_inside p ≡ true → is_one_of qs p ≡ false → have_places (qs ++ p ∷ []) ≡ true
placed_more qs p h k new =
    both (list_all stays_inside (qs ++ p ∷ [])) (are_distinct (qs ++ p ∷ []))
    (list_all-append stays_inside qs (p ∷ []) ∙ both (list_all stays_inside qs) (stays_inside p && true) (first (list_all stays_inside qs) (are_distinct qs) h) (both (stays_inside p) true k refl))
    (distinct_more qs p (second (list_all stays_inside qs) (are_distinct qs) h) new)

-- one that leads out of the folder
pub leads_out : (qs : List Text) (p : Text) (ps : List Text) → stays_inside p ≡ false → have_places (qs ++ p ∷ ps) ≡ false
leads_out qs p ps k =
    left_false (list_all stays_inside (qs ++ p ∷ ps)) (are_distinct (qs ++ p ∷ ps))
    (list_all-append stays_inside qs (p ∷ ps) ∙ right_false (list_all stays_inside qs) (stays_inside p && list_all stays_inside ps) (left_false (stays_inside p) (list_all stays_inside ps) k))

-- one that is there before
met_again : (qs : List Text) (p : Text) (ps : List Text) → is_one_of qs p ≡ true → are_distinct (qs ++ p ∷ ps) ≡ false
met_again [] p ps k = absurd (cc)
met_again (q ∷ qs) p ps k = by (bytes_eq p q) refl k (met_again qs p ps)
  where
    or_true : (b : Bool) → b || true ≡ true
    or_true true = refl
    or_true false = refl

    by : (b : Bool) → bytes_eq p q ≡ b → b || is_one_of qs p ≡ true → (is_one_of qs p ≡ true → are_distinct (qs ++ p ∷ ps) ≡ false) → not (is_one_of (qs ++ p ∷ ps) q) && are_distinct (qs ++ p ∷ ps) ≡ false
    by true e k further =
        left_false (not (is_one_of (qs ++ p ∷ ps) q)) (are_distinct (qs ++ p ∷ ps))
        (ap not (list_any-append (λ n. bytes_eq q n) qs (p ∷ ps) ∙ ap (λ b. is_one_of qs q || (b || is_one_of ps q)) (eq_sym q p ∙ e) ∙ or_true (is_one_of qs q)))
    by false e k further = right_false (not (is_one_of (qs ++ p ∷ ps) q)) (are_distinct (qs ++ p ∷ ps)) (further k)

pub has_place_of_other : (qs : List Text) (p : Text) (ps : List Text) → is_one_of qs p ≡ true → have_places (qs ++ p ∷ ps) ≡ false
has_place_of_other qs p ps k = right_false (list_all stays_inside (qs ++ p ∷ ps)) (are_distinct (qs ++ p ∷ ps)) (met_again qs p ps k)

-- what is known of one more
pub known_more : (qs : List Text) (p q : Text) → is_one_of (qs ++ p ∷ []) q ≡ (bytes_eq p q || is_one_of qs q)
known_more qs p q = list_any-append (λ n. bytes_eq q n) qs (p ∷ []) ∙ ap (λ b. is_one_of qs q || (b || false)) (eq_sym q p) ∙ turned (is_one_of qs q) (bytes_eq p q)
  where
    turned : (a b : Bool) → a || (b || false) ≡ (b || a)
    turned true true = refl
    turned true false = refl
    turned false true = refl
    turned false false = refl

-- the same of the path p at a position of a list
parts_at : (ps : List Text) (i : ℕ) (p : Text) → i < length ps → get_or ps i [] ≡ p → ps ≡ take i ps ++ p ∷ drop (i + 1) ps
parts_at ps i p lt at = sym (take-append-drop i ps) ∙ ap (λ (rest : List Text). take i ps ++ rest) (drop_more ps i [] lt) ∙ ap (λ x. take i ps ++ x ∷ drop (i + 1) ps) at

front_at : (ps : List Text) (i : ℕ) (p : Text) → i < length ps → get_or ps i [] ≡ p → take (i + 1) ps ≡ take i ps ++ p ∷ []
front_at ps i p lt at = take_more ps i [] lt ∙ ap (λ x. take i ps ++ x ∷ []) at

pub out_at : (ps : List Text) (i : ℕ) (p : Text) → i < length ps → get_or ps i [] ≡ p → stays_inside p ≡ false → have_places ps ≡ false
out_at ps i p lt at k = ap have_places (parts_at ps i p lt at) ∙ leads_out (take i ps) p (drop (i + 1) ps) k

pub met_at : (ps : List Text) (i : ℕ) (p : Text) → i < length ps → get_or ps i [] ≡ p → is_one_of (take i ps) p ≡ true → have_places ps ≡ false
met_at ps i p lt at k = ap have_places (parts_at ps i p lt at) ∙ has_place_of_other (take i ps) p (drop (i + 1) ps) k

pub placed_at : (ps : List Text) (i : ℕ) (p : Text) → i < length ps → get_or ps i [] ≡ p → have_places (take i ps) ≡ true → stays_inside p ≡ true → is_one_of (take i ps) p ≡ false → have_places (take (i + 1) ps) ≡ true
placed_at ps i p lt at h k new = ap have_places (front_at ps i p lt at) ∙ placed_more (take i ps) p h k new

pub known_at : (ps : List Text) (i : ℕ) (p q : Text) → i < length ps → get_or ps i [] ≡ p → is_one_of (take (i + 1) ps) q ≡ (bytes_eq p q || is_one_of (take i ps) q)
known_at ps i p q lt at = ap (λ qs. is_one_of qs q) (front_at ps i p lt at) ∙ known_more (take i ps) p q

pub path_at : {Z : Type 0} (names : List (String Z)) (i : ℕ) (name : String Z) → i < length names → get_or (map output_path (map string_bytes names)) i [] ≡ output_path (string_bytes (get_or names i name))
path_at names i name lt =
    let within : i < length (map string_bytes names) = omega (arith, length-map names string_bytes) in
    get_or-map output_path (map string_bytes names) i [] [] within ∙ ap output_path (get_or-map string_bytes names i name [] lt)

pub paths_within : {Z : Type 0} (names : List (String Z)) (i : ℕ) → i < length names → i < length (map output_path (map string_bytes names))
paths_within names i lt = omega (arith, length-map (map string_bytes names) output_path, length-map names string_bytes)

pub is_some_update : {X : Type 0} (b : Bool) (x : X) (o : Option X) → is_some (cond b (Some x) o) ≡ (b || is_some o)
is_some_update true x o = refl
is_some_update false x o = refl

-- an error of a message, where something else holds
pub told : (e : SeenError) (P : Type 0) → Tells e message → P → IfSome e (λ fault. (fault ≡ message) × P)
told None P h p = tt
told (Some fault) P h p = (h, p)
