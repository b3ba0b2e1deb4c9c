-- Names that are read from behind, beside those that stand behind them.
use Rattle.std.proofs.Common.{◌≡◌, cond, ℕ, ◌+◌, ◌-◌, ◌<◌, ◌≤◌, arith, List, [], ◌∷◌, drop, get_or, length, Option, Some, sym, ap, ap₂, ◌∙◌}
use Rattle.std.specs.Str.{bytes_eq}
use Rattle.std.specs.Borrow.{Bor}
use Rattle.std.specs.BTreeMap.{BTreeMap, get_by, UpdatesBy}
use Rattle.std.specs.Cmp.Lexicographic.{slice_cmp}
use Rattle.std.specs.Ordering.{nat_cmp}
use Rattle.std.specs.Option.{option_or}
use Rattle.std.proofs.lemmas.List.{drop_more}
use Rattle.std.proofs.lemmas.Map.Text.{btree_map_updates_str}
use Rattle.tera_errors.specs.Site.{Name}
use Rattle.tera_errors.specs.declared.span.Span.{Span}
use Rattle.tera_syntax.specs.declared.blocks.PlacedName.{PlacedName}
use Rattle.tera_syntax.specs.Names.{NameAt, first_at, again}
use Rattle.tera_syntax.specs.View.{names_of}

-- where a name stands first, of those that were read
abbrev pub position : BTreeMap (Bor Name) Span → Name → Option Span
position names q = get_by (λ k. slice_cmp nat_cmp q k.now) names

-- what is beyond the names
abbrev pub blank : PlacedName
blank = record { name = record { ref_ptr = (0, 0); now = [] }; span = record { start = 0; end = 0 } }

-- The names from a position on were read: where each stands first is known, and where the first that stands again stands next.
abbrev pub AreRead : List PlacedName → ℕ → (Name → Option Span) → Option Span → Type 0
AreRead names at known found = let rest = names_of (drop at names) in
    (at ≤ length names) × ((q : Name) → known q ≡ first_at q rest) × (found ≡ again rest)

module _ (names : List PlacedName) (at : ℕ) (old new : BTreeMap (Bor Name) Span) (found : Option Span) (some_left : 0 < at) (before : AreRead names at (position old) found) where
  abbrev read : PlacedName
  read = get_or names (at - 1) blank

  abbrev rest : List NameAt
  rest = names_of (drop at names)

  -- the name before the position, and those from there on
  with_read : names_of (drop (at - 1) names) ≡ (read.name.now, read.span) ∷ rest
  with_read =
      let fits = before.0 in
      let inside : at - 1 < length names = omega arith in
      let one : at - 1 + 1 ≡ at = omega arith in
      ap names_of (drop_more names (at - 1) blank inside) ∙ ap (λ i. (read.name.now, read.span) ∷ names_of (drop i names)) one

  -- One name more. Where it stood first among those behind it is found; otherwise what was found before.
  pub read_more : UpdatesBy (λ x y. slice_cmp nat_cmp x.now y.now) (λ k. slice_cmp nat_cmp read.name.now k.now) old new (Some read.span) → (next : Option Span) → position old read.name.now ≡ next
      → AreRead names (at - 1) (position new) (option_or next found)
  read_more put next e =
      let fits = before.0 in (
        (omega arith),
        (λ q. btree_map_updates_str read.name.now old new (Some read.span) put q ∙ ap (cond (bytes_eq read.name.now q) (Some read.span)) (before.1 q) ∙ ap (first_at q) (sym with_read)),
        ap₂ option_or (sym e ∙ before.1 read.name.now) before.2 ∙ ap again (sym with_read),
      )
