-- The bodies of templates, in one row.
use Rattle.std.specs.Prelude.{◌≡◌, ◌<◌, ℕ, List, length, map, take, slice_get, Some}
use Rattle.std.specs.List.{flat_map}
use Rattle.tera_code.specs.Listing.{Listing}
use Rattle.tera_code.specs.Code.{listing_of}
use Rattle.tera_meaning.specs.Registry.{Entry, Registry}
use Rattle.tera_meaning.specs.Resolve.{root}
use Rattle.tera_meaning.specs.Known.{bodies}

-- the code of a template's own body, of its blocks and of its components
abbrev pub codes_of : Entry → List Listing
codes_of t = map (listing_of t.0) (bodies t.1.tree)

-- the code of all bodies of templates
abbrev pub listings : List Entry → List Listing
listings = flat_map codes_of

-- the number of the first body of the template at a position
abbrev pub start : List Entry → ℕ → ℕ
start es i = length (listings (take i es))

-- these are the numbers of the first bodies of the first so many templates
pub record AreStarts (es : List Entry) (starts : List ℕ) (many : ℕ) : Type 0 where
  pub as_many : length starts ≡ many
  pub those : (i n : ℕ) → slice_get starts i ≡ Some n → n ≡ start es i

-- at the positions of the roots of templates stand templates, and the code of their own bodies is
-- that of the roots
pub record AreRooted (r : Registry) (roots : List ℕ) : Type 0 where
  pub as_many : length roots ≡ length r.templates
  pub inside : (i k : ℕ) → slice_get roots i ≡ Some k → k < length r.templates
  pub those : (i k : ℕ) (t : Entry) → slice_get roots i ≡ Some k → slice_get r.templates i ≡ Some t
      → slice_get (listings r.templates) (start r.templates k)
      ≡ Some (listing_of (root r t).0 (root r t).1.tree.nodes)
