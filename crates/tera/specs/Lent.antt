-- What definitions see of texts that are lent to a call.
use Rattle.std.specs.Prelude.{ℕ, List, map, Option, option_map}
use Rattle.std.specs.Borrow.{Bor}
use Rattle.tera_errors.specs.Site.{Text}

abbrev pub texts_of : List (Bor (List ℕ)) → List Text
texts_of = map (λ t. t.now)

abbrev pub lent_text : Option (Bor (List ℕ)) → Option Text
lent_text = option_map (λ t. t.now)
