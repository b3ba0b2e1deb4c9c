use Rattle.std.proofs.Common.{ap, sym, ◌∙◌, Some}
use Rattle.tera_operators.specs.Literals.{pairs_of}
use Rattle.tera_operators.proofs.Views.{pairs_entries}
use Rattle.tera_operators.proofs.map_literals.entries_in.Goals as goal

pub returns-in-Map : goal.returns-in-Map
returns-in-Map c = ap Some (sym (pairs_entries c.in-Map.entries.now)) ∙ ap pairs_of c.in-Map.ensures
