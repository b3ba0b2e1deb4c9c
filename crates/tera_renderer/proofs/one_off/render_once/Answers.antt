use Rattle.std.proofs.Common.{◌∷◌, [], Some, refl, ap, subst, ◌∙◌, string_bytes}
use Rattle.tera.specs.Registering.{new_registry_with}
use Rattle.tera_renderer.specs.Calls.{Reads}
use Rattle.tera_renderer.specs.Held.{fresh}
use Rattle.tera_renderer.specs.Meanings.{OneOffText}
use Rattle.tera_renderer.specs.Outcomes.{copied}
use Rattle.tera_renderer.proofs.Ends.{copies_text, copies_none}
use Rattle.tera_renderer.proofs.one_off.render_once.Goals as goal

pub returns-in-Ok : goal.returns-in-Ok
returns-in-Ok g c =
    let bytes = c.args.text.now ∷ c.args.json.now ∷ [] in
    let Meant = OneOffText c.args.text.now c.args.json.now c.args.autoescape (fresh (new_registry_with (g.O.Objects.engine c.args.objects)) c.args.floats) in
    copies_text bytes Meant c.args.room.now c.copy_text.new.room c.copy_text.result c.in-Ok.text
    (subst (λ r. Reads bytes string_bytes r Meant) c.in-Ok.is c.text_once.ensures)
    (c.copy_text.ensures ∙ ap (λ t. copied (Some t) c.args.room.now) c.as_str.ensures.value)

pub returns-in-Err : goal.returns-in-Err
returns-in-Err g c =
    let bytes = c.args.text.now ∷ c.args.json.now ∷ [] in
    let Meant = OneOffText c.args.text.now c.args.json.now c.args.autoescape (fresh (new_registry_with (g.O.Objects.engine c.args.objects)) c.args.floats) in
    copies_none bytes Meant c.args.room.now c.args.room.now c.answer_of.result c.in-Err.error
    (subst (λ r. Reads bytes string_bytes r Meant) c.in-Err.is c.text_once.ensures) c.answer_of.ensures refl
