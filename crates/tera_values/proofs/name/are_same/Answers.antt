use Rattle.std.proofs.Common.{◌≡◌, rules, ap, ap₂, ◌∙◌}
use Rattle.std.specs.Ordering.{is_eq}
use Rattle.std.specs.Str.{bytes_eq}
use Rattle.std.proofs.lemmas.Map.Text.{is_eq-slice_cmp}
use Rattle.tera_values.proofs.name.are_same.Goals as goal

pub returns : goal.returns
returns c =
    let first : c.as_bytes.result.now ≡ c.args.a.now = search rules in
    let second : c.as_bytes-2.result.now ≡ c.args.b.now = search rules in
    c.is_eq.ensures ∙ ap is_eq c.cmp.ensures ∙ is_eq-slice_cmp c.as_bytes.result.now c.as_bytes-2.result.now ∙ ap₂ bytes_eq first second
