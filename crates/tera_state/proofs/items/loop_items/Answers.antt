use Rattle.std.proofs.Common.{◌≡◌, Some, None, ap, ◌∙◌, rules}
use Rattle.tera_values.specs.Access.{text_of}
use Rattle.tera_values.specs.Val.{text}
use Rattle.tera_state.proofs.Started.{gives_clusters}
use Rattle.tera_state.proofs.items.loop_items.Goals as goal

pub returns-in-Text-clause-items : goal.returns-in-Text-clause-items
returns-in-Text-clause-items c =
    gives_clusters c.args.is_keyed c.in-Text.content.now c.in-Text.field-1 c.args.target c.clusters.result (search rules) (search rules) c.clusters.ensures

pub returns-in-Text-clause-ready : goal.returns-in-Text-clause-ready
returns-in-Text-clause-ready c = λ none fits.
    let is : text c.in-Text.content.now c.in-Text.field-1 ≡ c.args.target = search rules in
    let clash : Some c.in-Text.content.now ≡ None = ap text_of is ∙ none in
    absurd (cc)
