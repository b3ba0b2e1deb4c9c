use Rattle.std.proofs.Common.{rules, ◌≡◌, sym, ap, ◌∙◌, string_bytes}
use Rattle.std.proofs.lemmas.Map.Text.{is_eq-slice_cmp}
use Rattle.tera_errors.specs.Site.{Name}
use Rattle.tera_syntax_tree.specs.View.{key_option}
use Rattle.tera_values.specs.Val.{ktext}
use Rattle.tera_values.specs.Access.{key_eq}
use Rattle.tera_operators.specs.Entries.{is_at}
use Rattle.tera_operators.proofs.map_entries.is_at.Goals as goal

pub returns-in-Some-Text : goal.returns-in-Some-Text
returns-in-Some-Text c =
    let n = c.args.name.now in
    let here : is_at (ktext n) (key_option c.args.key.now) ≡ key_eq (ktext n) (ktext (string_bytes c.in-Some-Text.text)) = search rules in
    c.eq.ensures
    ∙ sym (is_eq-slice_cmp n c.as_str.result.now)
    ∙ ap (λ (t : Name). key_eq (ktext n) (ktext t)) c.as_str.ensures.value
    ∙ sym here
