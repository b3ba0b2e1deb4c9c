use Rattle.std.proofs.Common.{rules, ◌≡◌, Some, OnOk, length, sym, subst, ℕ}
use Rattle.std.specs.BTreeMap.{Updates}
use Rattle.tera_errors.specs.Site.{Name}
use Rattle.tera_state.specs.LayerNames.{key, layer_name_cmp}
use Rattle.tera_state.proofs.binding_map.place.Goals as goal
use Rattle.tera_state.proofs.binding_map.place.Goals.{in-Ok-insert, in-Err}

pub returns-clause-places : goal.returns-clause-places
returns-clause-places c =
    let b = c.args.binding in
    let old = c.args.places.now in
    let new = c.insert.new.self in
    let size = length c.args.items.now.items in
    let name : c.in-Ok.name ≡ b.name = search rules in
    let at : c.len-at.result ≡ size = search rules in
    elim c.match-insert.branch [
      | in-Ok-insert w ↦
          subst (λ r. OnOk r (Updates layer_name_cmp old new (key b.frame b.layer b.name) (Some size))) (sym w.result-is)
          (subst (λ (i : ℕ). Updates layer_name_cmp old new (key b.frame b.layer b.name) (Some i)) at
          (subst (λ (n : Name). Updates layer_name_cmp old new (key b.frame b.layer n) (Some c.len-at.result)) name w.in-Ok-insert.ensures.updates))
      | in-Err w ↦ subst (λ r. OnOk r (Updates layer_name_cmp old new (key b.frame b.layer b.name) (Some size))) (sym w.result-is) tt
    ]
