use Rattle.std.proofs.Common.{rules, refl, sym, ◌∙◌, ap, option_map}
use Rattle.std.specs.Prelude.{pos}
use Rattle.std.proofs.lemmas.Option.{slice_get_read, slice_get_past}
use Rattle.tera_values.specs.Val.{int}
use Rattle.tera_state.proofs.Walked.{array_value, map_value, bytes_value}
use Rattle.tera_state.proofs.items.value_at.Goals as goal

pub returns-in-Some : goal.returns-in-Some
returns-in-Some c =
    let vs = c.in-Array.items.now in
    let i = c.args.index in
    sym (array_value c.args.items.now i vs (search rules) ∙ slice_get_read vs _ i c.in-Some.value.now refl c.in-Some.ensures.lookup.3.0 c.in-Some.ensures.lookup.1)

pub returns-in-None : goal.returns-in-None
returns-in-None c =
    let vs = c.in-Array.items.now in
    let i = c.args.index in
    sym (array_value c.args.items.now i vs (search rules) ∙ slice_get_past vs i c.in-None.ensures.lookup.3)

pub returns-in-Some-entry_at : goal.returns-in-Some-entry_at
returns-in-Some-entry_at c =
    sym (map_value c.args.items.now c.args.index c.in-Map.entries.now (search rules) ∙ ap (option_map (λ e. e.1)) (sym c.in-Some-entry_at.ensures))

pub returns-in-None-entry_at : goal.returns-in-None-entry_at
returns-in-None-entry_at c =
    sym (map_value c.args.items.now c.args.index c.in-Map.entries.now (search rules) ∙ ap (option_map (λ e. e.1)) (sym c.in-None-entry_at.ensures))

pub returns-in-Some-get : goal.returns-in-Some-get
returns-in-Some-get c =
    let bs = c.in-Bytes.bytes.now in
    let i = c.args.index in
    sym (bytes_value c.args.items.now i bs (search rules) ∙ ap (option_map (λ b. int (pos b))) (slice_get_read bs _ i c.in-Some-get.byte.now refl c.in-Some-get.ensures.lookup.3.0 c.in-Some-get.ensures.lookup.1))

pub returns-in-None-get : goal.returns-in-None-get
returns-in-None-get c =
    let bs = c.in-Bytes.bytes.now in
    let i = c.args.index in
    sym (bytes_value c.args.items.now i bs (search rules) ∙ ap (option_map (λ b. int (pos b))) (slice_get_past bs i c.in-None-get.ensures.lookup.3))
