use Rattle.std.proofs.Common.{◌≡◌, List, [], ap, subst, ◌∙◌, string_bytes, map}
use Rattle.tera.specs.Site.{Name, Text}
use Rattle.tera.specs.Prelude.{Adds, ConfiguresOneOf, pairs_of, registry_of}
use Rattle.tera_renderer.specs.Held.{Held, held_by}
use Rattle.tera_renderer.proofs.renderer.Renderer.add_batch.Goals as goal

-- the same with these templates waiting
abbrev with_batch : Held → List (Name × Text) → Held
with_batch h batch = record h { batch = batch }

pub returns : goal.returns
returns g c =
    let old = held_by g.O.Objects.engine c.args.self.now in
    let seen = registry_of g.O.Objects.engine in
    let left : Held = record old { registry = seen c.add_raw_templates.new.self } in
    let emptied : c.replace-batch.new.dest.items ≡ [] = ap (λ v. v.items) c.replace-batch.ensures.after ∙ c.new.ensures.items in
    let taken : c.replace-batch.result.items ≡ c.args.self.now.batch.items = ap (λ v. v.items) c.replace-batch.ensures.value in
    let same : pairs_of c.as_slice-2.result.now ≡ old.batch = ap pairs_of c.as_slice-2.ensures.value ∙ c.in_ok-pairs.ensures ∙ ap (λ items. map (λ p. (string_bytes p.0, string_bytes p.1)) items) (c.as_slice.ensures.value ∙ taken) in
    record {
      stays = ap (λ items. with_batch left (map (λ p. (string_bytes p.0, string_bytes p.1)) items)) emptied;
      means = λ texts. subst (λ b. ConfiguresOneOf c.add_raw_templates.result (Adds old.registry b) old.registry (seen c.add_raw_templates.new.self)) same c.add_raw_templates.ensures;
      unread = λ no. absurd (no tt);
    }
