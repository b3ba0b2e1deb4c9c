use Rattle.std.proofs.Common.{true, string_bytes, refl, subst}
use Rattle.tera.specs.Prelude.{GivesOneOf}
use Rattle.tera.specs.Registry.{new_registry}
use Rattle.tera.specs.Rendering.{OneOff}
use Rattle.tera.proofs.FixedText.{gives_own_markup}
use Rattle.example_proof.specs.Pages.{word_list}
use Rattle.example_proof.proofs.Computing.{none_safe}
use Rattle.example_proof.proofs.pages.list_words.Goals as goal

pub returns : goal.returns
returns c = record {
  is = subst (λ x. GivesOneOf string_bytes c.one_off.result (OneOff new_registry word_list x true)) c.in_ok-context.ensures.is c.one_off.ensures;
  own_markup = gives_own_markup string_bytes c.one_off.result new_registry word_list _ _ c.in_ok-context.ensures.is refl (none_safe c.args.message.now) c.one_off.ensures;
}
