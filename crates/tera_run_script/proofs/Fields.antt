-- The fields of a command line.
use Rattle.std.proofs.Common.{◌≡◌, ◌≢◌, ℕ, List, [], ◌∷◌, None, refl}
use Rattle.tera_run_script.specs.Script.{only_field, two_fields, add_of}
use Rattle.tera_run_script.specs.Words.{is_space, words_of}
use Rattle.tera_run_script.proofs.Splits.{slice_split-some}

only_field-more : (field : List ℕ) (more : List (List ℕ)) → more ≢ [] → only_field (field ∷ more) ≡ None
only_field-more field [] h = absurd (h refl)
only_field-more field (next ∷ more) h = refl

-- a field behind which another stands is not alone
pub only_field-words : (field rest : List ℕ) → only_field (field ∷ words_of rest) ≡ None
only_field-words field rest = only_field-more field (words_of rest) (slice_split-some is_space rest)

two_fields-more : (first second : List ℕ) (more : List (List ℕ)) → more ≢ [] → two_fields (first ∷ second ∷ more) ≡ None
two_fields-more first second [] h = absurd (h refl)
two_fields-more first second (next ∷ more) h = refl

-- two fields behind which a third stands are not two
pub two_fields-words : (first second rest : List ℕ) → two_fields (first ∷ second ∷ words_of rest) ≡ None
two_fields-words first second rest = two_fields-more first second (words_of rest) (slice_split-some is_space rest)

add_of-more : (more : List (List ℕ)) → more ≢ [] → add_of more ≡ None
add_of-more [] h = absurd (h refl)
add_of-more (field ∷ fields) h = refl

-- behind a space there is a field
pub add_of-words : (rest : List ℕ) → add_of (words_of rest) ≡ None
add_of-words rest = add_of-more (words_of rest) (slice_split-some is_space rest)
