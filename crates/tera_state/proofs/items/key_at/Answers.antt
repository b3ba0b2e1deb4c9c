use Rattle.std.proofs.Common.{rules, sym, ◌∙◌, ap, option_map}
use Rattle.tera_state.specs.FoundValue.{key_as_value}
use Rattle.tera_state.proofs.Walked.{map_key, array_key, bytes_key}
use Rattle.tera_state.proofs.items.key_at.Goals as goal

pub returns-in-Some : goal.returns-in-Some
returns-in-Some c =
    sym (map_key c.args.items.now c.args.index c.in-Map.entries.now (search rules) ∙ ap (option_map (λ e. key_as_value e.0)) (sym c.in-Some.ensures))

pub returns-in-None : goal.returns-in-None
returns-in-None c =
    sym (map_key c.args.items.now c.args.index c.in-Map.entries.now (search rules) ∙ ap (option_map (λ e. key_as_value e.0)) (sym c.in-None.ensures))

pub returns-in-Array : goal.returns-in-Array
returns-in-Array c = sym (array_key c.args.items.now c.args.index c.in-Array.field-0.now (search rules))

pub returns-in-Bytes : goal.returns-in-Bytes
returns-in-Bytes c = sym (bytes_key c.args.items.now c.args.index c.in-Bytes.field-0.now (search rules))
