-- Filters that are registered one after another.
use Rattle.std.proofs.Common.{◌≡◌, ℕ, ◌+◌, ◌<◌, List, length, drop, ap}
use Rattle.std.proofs.Math.ListN.{get_or}
use Rattle.std.proofs.lemmas.List.{drop_more}
use Rattle.std.specs.Borrow.{Bor}
use Rattle.tera_errors.specs.Site.{Text}
use Rattle.tera_state.specs.Engine.{Engine, OwnFilter, with_filter}
use Rattle.tera_filters.specs.Pack.{with_filters, rows_of}

-- one more
pub next-row : {F : Type 0} (meaning : F → OwnFilter) (rows : List (Bor Text × F)) (i : ℕ) (d : Bor Text × F) (engine : Engine) → i < length rows
    → with_filters meaning (rows_of (drop i rows)) engine ≡ with_filters meaning (rows_of (drop (i + 1) rows)) (with_filter (get_or rows i d).0.now (meaning (get_or rows i d).1) engine)
next-row meaning rows i d engine lt = ap (λ rs. with_filters meaning (rows_of rs) engine) (drop_more rows i d lt)
