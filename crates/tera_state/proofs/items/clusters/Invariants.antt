use Rattle.std.proofs.Common.{◌≡◌, false, ◌++◌, map}
use Rattle.tera_values.specs.Val.{text}
use Rattle.tera_state.specs.Items.{clusters_in}
use Rattle.tera_values.specs.Alphabet.{plain}
use Rattle.unicode_segmentation.specs.Iter.{graphemes_left}
use Rattle.tera_state.proofs.items.clusters.Given as goal

abbrev pub invariant-loop-cluster : goal.invariant-loop-cluster
invariant-loop-cluster l = l.parts.items ++ map (λ g. text g false) (graphemes_left l.cluster-iterator) ≡ clusters_in plain l.fn.content
