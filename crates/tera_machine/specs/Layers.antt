-- Texts around one another.
use Rattle.std.specs.Prelude.{◌≡◌, ◌≤◌, ◌++◌, ℕ, zero, suc, List, [], ◌∷◌, length, take, drop}
use Rattle.std.specs.Str.{IsUtf8}
use Rattle.tera_errors.specs.Site.{Text}

-- the text that is written, and those around it, the innermost first
pub record Layers : Type 0 where
  pub now : Text
  pub below : List Text

-- the text around so many captures
abbrev pub around_layers : ℕ → Text → List Text → Text
around_layers zero t ts = t
around_layers (suc k) t [] = t
around_layers (suc k) t (u ∷ us) = around_layers k u us

-- the innermost text behind the one around it
abbrev pub behind : Text → List Text → Layers
behind t [] = record { now = t; below = [] }
behind t (u ∷ us) = record { now = u ++ t; below = us }

abbrev pub joined : Layers → Layers
joined l = behind l.now l.below

-- the texts that begin at these positions of all that is written, the innermost first
abbrev pub below_at : ℕ → List ℕ → Text → List Text
below_at start [] all = []
below_at start (o ∷ os) all = drop o (take start all) ∷ below_at o os (take start all)

abbrev pub layers_at : ℕ → List ℕ → Text → Layers
layers_at start outer all = record { now = drop start all; below = below_at start outer all }

-- each of these positions is between two characters, none is before those further out, and the
-- outermost text begins in front
abbrev pub AreStarts : ℕ → List ℕ → Text → Type 0
AreStarts start [] all = start ≡ 0
AreStarts start (o ∷ os) all =
    (start ≤ length all) × IsUtf8 (drop start all) × AreStarts o os (take start all)
