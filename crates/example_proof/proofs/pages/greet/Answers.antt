use Rattle.std.proofs.Common.{true, string_bytes}
use Rattle.tera.specs.Registry.{new_registry}
use Rattle.tera.proofs.FixedText.{gives_computed}
use Rattle.example_proof.proofs.Computing.{greets}
use Rattle.example_proof.proofs.pages.greet.Goals as goal

pub returns : goal.returns
returns c = gives_computed string_bytes c.one_off.result new_registry _ _ _ c.in_ok-context.ensures.is true _ (greets c.args.name.now) c.one_off.ensures
