use Rattle.std.proofs.Common.{List, Ok, ap, sym, ◌∙◌}
use Rattle.tera_value_types.specs.Val.{Val, KeyVal}
use Rattle.tera_value_types.specs.Access.{key_of}
use Rattle.tera_value_types.specs.Slices.{has_key, contains}
use Rattle.tera_value_types.proofs.Pairs.{pairs_entries}
use Rattle.tera_value_types.proofs.value.Value.contains.Goals as goal

pub returns-in-Map-clause-found : goal.returns-in-Map-clause-found
returns-in-Map-clause-found c = ap (λ (v : Val). contains v c.args.wanted.now) (sym c.in-Map.ensures) ∙ ap (λ (l : List (KeyVal × Val)). Ok (has_key (key_of c.args.wanted.now) l)) (pairs_entries c.in-Map.all.now) ∙ ap Ok (sym c.has_key.ensures)
