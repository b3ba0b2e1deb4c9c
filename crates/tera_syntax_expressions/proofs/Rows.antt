-- Rows of items and of entries, one behind another.
use Rattle.std.proofs.Common.{◌≡◌, ℕ, max, Option, Some, refl, ap, arith}
use Rattle.tera_syntax_tree.specs.Tree.{Items, NoItems, MoreItems, Entries, NoEntries, MoreEntries}
use Rattle.tera_syntax_tokens.specs.Input.{Input}
use Rattle.tera_syntax_expressions.specs.Expressions.{join_items, join_entries}

pub join-none : (xs : Items) → join_items xs NoItems ≡ xs
join-none NoItems = refl
join-none (MoreItems s x rest) = ap (MoreItems s x) (join-none rest)

pub join-join : (xs ys zs : Items) → join_items (join_items xs ys) zs ≡ join_items xs (join_items ys zs)
join-join NoItems ys zs = refl
join-join (MoreItems s x rest) ys zs = ap (MoreItems s x) (join-join rest ys zs)

pub join-no-entries : (xs : Entries) → join_entries xs NoEntries ≡ xs
join-no-entries NoEntries = refl
join-no-entries (MoreEntries s x rest) = ap (MoreEntries s x) (join-no-entries rest)

pub join-entries : (xs ys zs : Entries) → join_entries (join_entries xs ys) zs ≡ join_entries xs (join_entries ys zs)
join-entries NoEntries ys zs = refl
join-entries (MoreEntries s x rest) ys zs = ap (MoreEntries s x) (join-entries rest ys zs)

-- a row that was read with how deep it is: none behind those that were found, one, and one with more behind it
abbrev pub got : {A : Type 0} → A → ℕ → Input → Option ((A × ℕ) × Input)
got xs d j = Some ((xs, d), j)

pub got-none : {A : Type 0} {all xs : A} (d : ℕ) (j : Input) → all ≡ xs → got xs d j ≡ got all (max d 0) j
got-none d j e = let f : max d 0 ≡ d = omega arith in rw (e, f) refl

pub got-one : {A : Type 0} {xs : A} (d n : ℕ) (j : Input) → got xs (max d n) j ≡ got xs (max d (max n 0)) j
got-one d n j = let f : max n 0 ≡ n = omega arith in rw f refl

pub got-more : {A : Type 0} {all xs : A} (d n m : ℕ) (j : Input) → all ≡ xs → got all (max (max d n) m) j ≡ got xs (max d (max n m)) j
got-more d n m j e = let f : max (max d n) m ≡ max d (max n m) = omega arith in rw (e, f) refl

pub got-first : {A : Type 0} {xs : A} (d : ℕ) (j : Input) → got xs (max 0 d) j ≡ got xs d j
got-first d j = let f : max 0 d ≡ d = omega arith in rw f refl
