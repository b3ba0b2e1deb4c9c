-- The first template that is of a kind, by position. No public contract speaks of it.
use Rattle.std.specs.Prelude.{◌≡◌, ◌<◌, ℕ, Bool, true, false, slice_get, Option, Some, None}
use Rattle.tera_meaning.specs.Registry.{Entry, Registry}

-- no template before this position is of the kind
abbrev pub NoneBefore : Registry → (ℕ → Entry → Bool) → ℕ → Type 0
NoneBefore r kind position =
    (i : ℕ) (t : Entry) → i < position → slice_get r.templates i ≡ Some t → kind i t ≡ false

-- there stands the first of the first so many templates that is of the kind,
-- or nowhere where none is
abbrev pub IsFirstAmong : Registry → (ℕ → Entry → Bool) → ℕ → Option ℕ → Type 0
IsFirstAmong r kind many None = NoneBefore r kind many
IsFirstAmong r kind many (Some c) =
    NoneBefore r kind c × ((t : Entry) → slice_get r.templates c ≡ Some t → kind c t ≡ true)

-- there stands the first template that is of the kind, or nowhere where none is
abbrev pub IsFirstOne : Registry → (ℕ → Entry → Bool) → Option ℕ → Type 0
IsFirstOne r kind None = (i : ℕ) (t : Entry) → slice_get r.templates i ≡ Some t → kind i t ≡ false
IsFirstOne r kind (Some c) =
    NoneBefore r kind c × ((t : Entry) → slice_get r.templates c ≡ Some t → kind c t ≡ true)
