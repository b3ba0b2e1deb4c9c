-- Names in layers, as a map's keys.
use Rattle.std.specs.Prelude.{ℕ}
use Rattle.std.specs.Cmp.{IsTotalOrder, nat_cmp_total, on_total, then_total}
use Rattle.std.specs.Cmp.Lexicographic.{nat_list_cmp_total}
use Rattle.std.specs.declared.cmp.Ordering.{Ordering}
use Rattle.std.specs.Ordering.{nat_cmp, ordering_then}
use Rattle.tera_errors.specs.Site.{Name}
use Rattle.tera_values.specs.Named.{name_cmp}
use Rattle.tera_state.specs.declared.layer_name.LayerName.{LayerName}

abbrev pub key : ℕ → ℕ → Name → LayerName
key f l n = record { frame = f; layer = l; name = n }

-- by frame, by layer, and then by name
abbrev pub layer_name_cmp : LayerName → LayerName → Ordering
layer_name_cmp a b = ordering_then (nat_cmp a.frame b.frame) (ordering_then (nat_cmp a.layer b.layer) (name_cmp a.name b.name))

pub layer_names_total : IsTotalOrder layer_name_cmp
layer_names_total =
    then_total (on_total (λ k. k.frame) nat_cmp_total)
    (then_total (on_total (λ k. k.layer) nat_cmp_total) (on_total (λ k. k.name) nat_list_cmp_total))
