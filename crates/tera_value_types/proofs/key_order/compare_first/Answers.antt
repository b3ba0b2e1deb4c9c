use Rattle.std.proofs.Common.{◌∙◌, sym, ap}
use Rattle.tera_value_types.specs.View.{wanted_view}
use Rattle.tera_value_types.specs.Keys.{key_cmp}
use Rattle.tera_value_types.proofs.Entries.{nth_key_of}
use Rattle.tera_value_types.proofs.key_order.compare_first.Goals as goal

pub returns : goal.returns
returns c =
    c.compare_key.ensures
    ∙ ap (λ k. key_cmp k (wanted_view c.args.wanted.now)) (sym (nth_key_of c.args.by_key.now c.args.all.now c.requires.rising 0 c.index-all-by_key.result c.requires.some))
