-- The positions of a map's entries in the order of their keys.
use Rattle.std.specs.Prelude.{◌≡◌, ℕ, ◌<◌, ◌≤◌, List, length, slice_index_or, false, map}
use Rattle.std.specs.declared.cmp.Ordering.TheVariants.{Less, Greater}
use Rattle.tera_value_types.specs.Val.{Val, KeyVal, kbool, undefined}
use Rattle.tera_value_types.specs.Keys.{key_cmp}

-- the key of the entry at position i
abbrev pub key_at : List (KeyVal × Val) → ℕ → KeyVal
key_at es i = let e = slice_index_or es i (kbool false, undefined) in e.0

-- the key that stands p-th in the order
abbrev pub nth_key : List ℕ → List (KeyVal × Val) → ℕ → KeyVal
nth_key by_key es p = key_at es (slice_index_or by_key p 0)

-- Every position of an entry stands in by_key, nothing else does, and the keys rise along it.
pub record IsIndex (by_key : List ℕ) (es : List (KeyVal × Val)) : Type 0 where
  pub below : (p : ℕ) → p < length by_key → slice_index_or by_key p 0 < length es
  pub rising : (p q : ℕ) → p < q → q < length by_key
      → key_cmp (nth_key by_key es p) (nth_key by_key es q) ≡ Less
  pub reached : (i : ℕ) → i < length es
      → (p : ℕ) × (p < length by_key) × (slice_index_or by_key p 0 ≡ i)

-- Of some positions: they are positions of entries, and the keys rise along them.
pub record IsRising (by_key : List ℕ) (es : List (KeyVal × Val)) : Type 0 where
  pub below : (p : ℕ) → p < length by_key → slice_index_or by_key p 0 < length es
  pub rising : (p q : ℕ) → p < q → q < length by_key
      → key_cmp (nth_key by_key es p) (nth_key by_key es q) ≡ Less

-- the key stands p-th
pub record IsAt (by_key : List ℕ) (es : List (KeyVal × Val)) (k : KeyVal) (p : ℕ) : Type 0 where
  pub in_range : p < length by_key
  pub has_key : nth_key by_key es p ≡ k

-- the key would stand p-th: smaller keys before it, and greater ones from it on
pub record IsGapFor (by_key : List ℕ) (es : List (KeyVal × Val)) (k : KeyVal) (p : ℕ) : Type 0 where
  pub in_range : p ≤ length by_key
  pub smaller_before : (j : ℕ) → j < p → key_cmp (nth_key by_key es j) k ≡ Less
  pub greater_after : (j : ℕ) → p ≤ j → j < length by_key
      → key_cmp (nth_key by_key es j) k ≡ Greater

-- no two entries have one key
abbrev pub IsDistinct : List (KeyVal × Val) → Type 0
IsDistinct es = (i j : ℕ) → i < length es → j < length es → key_at es i ≡ key_at es j → i ≡ j

-- the pairs at the positions of a list, in its order
abbrev pub picked : List ℕ → List (KeyVal × Val) → List (KeyVal × Val)
picked positions es = map (λ i. slice_index_or es i (kbool false, undefined)) positions
