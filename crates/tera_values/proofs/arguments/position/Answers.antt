use Rattle.std.proofs.Common.{rules}
use Rattle.std.proofs.lemmas.Fn.{always_returns_same}
use Rattle.tera_values.specs.Named.{name_cmp}
use Rattle.tera_values.proofs.Positions.{searched}
use Rattle.tera_values.proofs.arguments.position.Goals as goal

pub returns : goal.returns
returns c =
    let facts = c.binary_search_by.ensures in
    searched c.args.name.now c.args.entries.now _ c.requires facts.bound
    (facts.position (λ e. name_cmp e.0 c.args.name.now) (always_returns_same _ _ _ (λ a r f' called. search rules)))
