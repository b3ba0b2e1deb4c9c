use Rattle.std.proofs.Common.{length, arith, ◌≡◌, Ok, Err, sym, ap, ◌∙◌, subst}
use Rattle.tera_errors.specs.Site.{Name}
use Rattle.tera_values.specs.Named.{position, put, IsAscending}
use Rattle.tera_values.proofs.Contexts.{put_ascends}
use Rattle.tera_values.proofs.Positions.{stands_within, put_over, put_in}
use Rattle.tera_values.proofs.kwargs.Kwargs.put.Goals as goal
use Rattle.tera_values.proofs.kwargs.Kwargs.put.Goals.{in-Ok, in-Err+in_ok-insert-in-Err}

pub index_mut-requires : goal.index_mut-requires
index_mut-requires c =
    let es = c.self.inside.entries.items in
    let stands : position c.args.name es ≡ Ok c.in-Ok.at = sym (c.in-Ok.ensures ∙ ap (λ (n : Name). position n c.as_slice.result.now) c.as_str.ensures ∙ ap (position c.args.name) c.as_slice.ensures.value) in
    omega (arith, stands_within c.args.name es c.in-Ok.at stands, c.as_slice.ensures.len, ap length c.as_slice.ensures.value)

pub invariant_of-self : goal.invariant_of-self
invariant_of-self c =
    let es = c.self.inside.entries.items in
    let stands : position c.args.name es ≡ Ok c.in-Ok.at = sym (c.in-Ok.ensures ∙ ap (λ (n : Name). position n c.as_slice.result.now) c.as_str.ensures ∙ ap (position c.args.name) c.as_slice.ensures.value) in
    subst IsAscending (put_over c.args.name c.args.value es c.in-Ok.at stands) (put_ascends c.args.name c.args.value es c.self.invariant)

pub insert-requires : goal.insert-requires
insert-requires c =
    let es = c.self.inside.entries.items in
    let goes : position c.args.name es ≡ Err c.in-Err.at = sym (c.in-Err.ensures ∙ ap (λ (n : Name). position n c.as_slice.result.now) c.as_str.ensures ∙ ap (position c.args.name) c.as_slice.ensures.value) in
    omega (arith, (put_in c.args.name c.args.value es c.in-Err.at goes).0, c.as_slice.ensures.len, ap length c.as_slice.ensures.value)

pub invariant_of-self-in-Continue-1 : goal.invariant_of-self-in-Continue-1
invariant_of-self-in-Continue-1 c =
    let es = c.self.inside.entries.items in
    let goes : position c.args.name es ≡ Err c.in-Err.at = sym (c.in-Err.ensures ∙ ap (λ (n : Name). position n c.as_slice.result.now) c.as_str.ensures ∙ ap (position c.args.name) c.as_slice.ensures.value) in
    subst IsAscending ((put_in c.args.name c.args.value es c.in-Err.at goes).1 ∙ sym c.in_ok-insert-in-Err.ensures.items) (put_ascends c.args.name c.args.value es c.self.invariant)

pub returns-clause-ok : goal.returns-clause-ok
returns-clause-ok c =
    let es = c.self.inside.entries.items in
    elim c.match-position.branch [
      | in-Ok w ↦
          let stands : position c.args.name es ≡ Ok w.in-Ok.at = sym (w.in-Ok.ensures ∙ ap (λ (n : Name). position n c.as_slice.result.now) c.as_str.ensures ∙ ap (position c.args.name) c.as_slice.ensures.value) in
          w.self-is ∙ sym (put_over c.args.name c.args.value es w.in-Ok.at stands) ∙ ap (put c.args.name c.args.value) c.self.view_is
      | in-Err+in_ok-insert-in-Err w ↦
          let goes : position c.args.name es ≡ Err w.in-Err.at = sym (w.in-Err.ensures ∙ ap (λ (n : Name). position n c.as_slice.result.now) c.as_str.ensures ∙ ap (position c.args.name) c.as_slice.ensures.value) in
          w.self-is ∙ w.in_ok-insert-in-Err.ensures.items ∙ sym (put_in c.args.name c.args.value es w.in-Err.at goes).1 ∙ ap (put c.args.name c.args.value) c.self.view_is
    ]
