use Rattle.std.proofs.Common.{◌≡◌, ap, sym, ◌∙◌, is_eq, subst}
use Rattle.tera_value_types.specs.Val.{map, entries}
use Rattle.tera_value_types.specs.View.{entry_views}
use Rattle.tera_value_types.specs.KeyOrder.{left}
use Rattle.tera_value_types.specs.Index.{IsIndex}
use Rattle.tera_value_types.specs.Order.{same}
use Rattle.tera_value_types.specs.Finite.{IsSameMap}
use Rattle.tera_value_types.proofs.Compared.{as_entries}
use Rattle.tera_value_types.proofs.Same.{plain_from_same, same_from_plain, finds_from_plain, plain_from_finds}
use Rattle.tera_value_types.proofs.value.Map.is_same_as.Goals as goal

pub returns : goal.returns
returns c =
    let a = c.entries.result.now in
    let ka = left c.by_key.result in
    let b = c.entries-2.result.now in
    let kb = left c.by_key-2.result in
    let es = entry_views a in
    let fs = entry_views b in
    let ia : IsIndex ka es = subst (IsIndex ka) (sym c.entries.ensures) c.by_key.ensures in
    let ib : IsIndex kb fs = subst (IsIndex kb) (sym c.entries-2.ensures) c.by_key-2.ensures in
    let r : c.is_eq.result ≡ same (map (entries es)) (map (entries fs)) = c.is_eq.ensures ∙ ap is_eq (c.compare_entries-answer.ensures ∙ as_entries ka kb es fs ia ib) in
    let law : IsSameMap c.is_eq.result es fs = (λ h. finds_from_plain es fs (plain_from_same (map (entries es)) (map (entries fs)) (sym r ∙ h)), λ h. r ∙ same_from_plain (map (entries es)) (map (entries fs)) (plain_from_finds es fs h)) in
    subst (λ x. IsSameMap c.is_eq.result c.args.self.now x) c.entries-2.ensures (subst (λ x. IsSameMap c.is_eq.result x fs) c.entries.ensures law)
