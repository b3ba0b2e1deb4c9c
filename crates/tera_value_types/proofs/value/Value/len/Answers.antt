use Rattle.std.proofs.Common.{ℕ, List, ap, sym, ◌∙◌, Some, length}
use Rattle.tera_value_types.specs.Val.{Val, KeyVal}
use Rattle.tera_value_types.specs.Access.{count}
use Rattle.tera_value_types.proofs.Counts.{list_vals}
use Rattle.tera_value_types.proofs.Pairs.{pairs_entries}
use Rattle.tera_value_types.proofs.value.Value.len.Goals as goal

pub returns-in-Array : goal.returns-in-Array
returns-in-Array c = ap (λ (l : List Val). Some (length l)) (sym (list_vals c.in-Array.items.now)) ∙ ap count c.in-Array.ensures

pub returns-in-Map : goal.returns-in-Map
returns-in-Map c = ap (λ (n : ℕ). Some n) c.len.ensures.count ∙ ap (λ (l : List (KeyVal × Val)). Some (length l)) (sym (pairs_entries c.in-Map.all.now)) ∙ ap count c.in-Map.ensures
