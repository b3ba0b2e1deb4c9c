-- How comparable values stand, by one walk along their items.
use Rattle.std.proofs.Common.{◌≡◌, ◌⊎◌, inl, inr, ℕ, ◌≤◌, Bool, true, cond, List, length, drop, ap, ◌∙◌, Some, None}
use Rattle.std.specs.Ordering.{nat_cmp}
use Rattle.std.specs.Cmp.Lexicographic.{slice_cmp}
use Rattle.tera_value_types.specs.Val.{Val, vals}
use Rattle.tera_value_types.specs.Order.{order, comparable_items, checked_items}
use Rattle.tera_value_types.proofs.Steps.{ends}
use Rattle.tera_value_types.proofs.Counts.{past, with_none}

none_left : (xs ys : List Val) (i : ℕ) → (length xs ≤ i) ⊎ (length ys ≤ i) → comparable_items (vals (drop i xs)) (vals (drop i ys)) ≡ true
none_left xs ys i (inl e) = ap (λ (l : List Val). comparable_items (vals l) (vals (drop i ys))) (past xs i e)
none_left xs ys i (inr e) = ap (λ (l : List Val). comparable_items (vals (drop i xs)) (vals l)) (past ys i e) ∙ with_none (vals (drop i xs))

pub checked_ends : (xs ys : List Val) (i : ℕ) → i ≤ length xs → i ≤ length ys → (length xs ≤ i) ⊎ (length ys ≤ i) → checked_items (drop i xs) (drop i ys) ≡ Some (nat_cmp (length xs) (length ys))
checked_ends xs ys i h g e =
    ap (λ (b : Bool). cond b (Some (slice_cmp order (drop i xs) (drop i ys))) None) (none_left xs ys i e) ∙ ap Some (ends order xs ys i h g e)
