use Rattle.std.proofs.Common.{◌≡◌, ℕ, Option, Some, None, refl, ◌∙◌, option_map}
use Rattle.std.proofs.lemmas.Iterator.{YieldsList-from_chars}
use Rattle.std.proofs.lemmas.Iterator.Consumers.{nth_from_yields_List}
use Rattle.tera_value_types.proofs.item.char_at.Goals as goal

itself : (r : Option ℕ) → r ≡ option_map (λ c. c) r
itself None = refl
itself (Some c) = refl

pub returns : goal.returns
returns c = itself c.nth.result ∙ nth_from_yields_List c.nth.result c.nth.new.self c.args.position c.nth.ensures.ran (YieldsList-from_chars c.args.text.now c.utf8.text c.chars.ensures.rest)
