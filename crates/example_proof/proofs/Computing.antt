-- What the texts of the pages compute to.
use Rattle.std.proofs.Common.{◌≡◌, true, Some, Ok, codes, refl}
use Rattle.tera.specs.Site.{Text}
use Rattle.tera.specs.Registry.{new_registry}
use Rattle.tera.specs.TreeRead.{tree_read}
use Rattle.tera.specs.FixedText.{text_rendered, TextMarksNoneSafe}
use Rattle.tera.proofs.Foreign.{none_answers}
use Rattle.example_proof.specs.Pages.{greeting, word_list, context_of}

-- the first page, for any name
pub greets : (name : Text) → text_rendered new_registry (codes "<p>Hello {{ name }}!</p>") (context_of (codes "name") name) true ≡ Some (Ok (greeting name))
unfolding tree_read
greets name = refl

-- nothing is marked safe in the second, whatever the message
pub none_safe : (message : Text) → TextMarksNoneSafe new_registry word_list (context_of (codes "message") message)
unfolding tree_read
none_safe message = record { values_are_unsafe = refl; answers_are_unsafe = none_answers; none_applies_safe = refl }
