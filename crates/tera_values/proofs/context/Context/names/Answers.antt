use Rattle.std.proofs.Common.{◌≡◌, Ok, string_bytes, map, sym, ap, ◌∙◌, rules}
use Rattle.std.specs.Map.{keys_of}
use Rattle.tera_values.proofs.Named.{texts, text_names}
use Rattle.tera_values.proofs.context.Context.names.Goals as goal

pub returns-clause-names : goal.returns-clause-names
returns-clause-names c =
    let es = c.in_ok-to_sorted_map.field-0.entries in
    let all : texts es ≡ c.args.self.now = cc c.in_ok-to_sorted_map.ensures.all in
    let taken : c.in_ok-names.names.items ≡ keys_of es = search rules in
    ap Ok (sym (ap (map string_bytes) taken ∙ text_names es ∙ ap (map (λ e. e.0)) all))
