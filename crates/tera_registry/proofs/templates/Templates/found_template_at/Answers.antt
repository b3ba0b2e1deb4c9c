use Rattle.std.proofs.Common.{◌≡◌, Some, option_map, refl, sym, ap, ◌∙◌, slice_get}
use Rattle.std.proofs.lemmas.Option.{slice_get-map}
use Rattle.tera_meaning.specs.Registry.{Entry}
use Rattle.tera_registry.specs.Kept.{entry_of, entries_of}
use Rattle.tera_registry.proofs.Kept.{entry-at-position}
use Rattle.tera_registry.proofs.templates.Templates.found_template_at.Goals as goal

pub invariant_of-result : goal.invariant_of-result
invariant_of-result c =
    let all = c.args.self.now.all.items in
    let position = c.args.position in
    let at : slice_get (entries_of all) position ≡ Some (entry_of c.deref-template.result.now) = entry-at-position all position c.index.result.now c.requires c.index.ensures ∙ ap (λ t. Some (entry_of t)) (sym c.deref-template.ensures) in
    record {
      stands = slice_get-map (λ (t : Entry). t.0) (entries_of all) position ∙ ap (option_map (λ (t : Entry). t.0)) at ∙ ap Some (sym c.as_str.ensures.value);
    }

pub returns : goal.returns
returns c = λ r name is.
    let all = c.args.self.now.all.items in
    let position = c.args.position in
    let kept = c.deref-template.result.now in
    let at : slice_get (entries_of all) position ≡ Some (entry_of kept) = entry-at-position all position c.index.result.now c.requires c.index.ensures ∙ ap (λ t. Some (entry_of t)) (sym c.deref-template.ensures) in
    record {
      entry = entry_of kept;
      resolves = is.0 ∙ at;
      named = c.as_str.ensures.value;
      among = refl;
    }
