use Rattle.std.proofs.Common.{Ok, ap, map, sym, string_bytes, ◌∙◌}
use Rattle.tera.proofs.Renders.{same_ok}
use Rattle.tera.proofs.Registered.{is-new}
use Rattle.tera.proofs.engine.TeraOver.with_objects.Goals as goal

pub returns : goal.returns
returns g c =
    let prefixes = c.new-2.ensures.prefixes ∙ ap (map string_bytes) c.new.ensures.items in
    let suffixes = sym (same_ok _ _ c.in_ok-standard_suffixes.ensures) in
    let delimiters = sym (same_ok _ _ c.in_ok-standard.ensures.value) in
    ap Ok (is-new _ _ _ _ _ _ c.new-2.ensures.templates prefixes suffixes delimiters c.new-3.ensures)
