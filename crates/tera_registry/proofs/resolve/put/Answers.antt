use Rattle.std.proofs.Common.{string_bytes, ap, ◌∙◌}
use Rattle.tera_registry.proofs.Placed.{put-rises}
use Rattle.tera_registry.proofs.Kept.{put-in-position, put-between}
use Rattle.tera_registry.proofs.resolve.put.Goals as goal

pub returns-in-Ok-clause-ok : goal.returns-in-Ok-clause-ok
returns-in-Ok-clause-ok c =
    put-in-position _ c.args.template _ c.in-Ok.position c.requires (c.as_str.ensures.value ∙ ap (λ t. string_bytes t.name) c.deref-2.ensures) (rw c.deref.ensures.value at c.in-Ok.ensures)

pub returns-in-Ok-clause-rises : goal.returns-in-Ok-clause-rises
returns-in-Ok-clause-rises c =
    rw (put-in-position _ c.args.template _ c.in-Ok.position c.requires (c.as_str.ensures.value ∙ ap (λ t. string_bytes t.name) c.deref-2.ensures) (rw c.deref.ensures.value at c.in-Ok.ensures)) (put-rises _ _ _ c.requires)

pub returns-in_ok-insert-in-Err-clause-ok : goal.returns-in_ok-insert-in-Err-clause-ok
returns-in_ok-insert-in-Err-clause-ok c =
    rw c.in_ok-insert-in-Err.ensures.items (put-between _ c.args.template _ c.in-Err.position (c.as_str.ensures.value ∙ ap (λ t. string_bytes t.name) c.deref-2.ensures) (rw c.deref.ensures.value at c.in-Err.ensures))

pub returns-in_ok-insert-in-Err-clause-rises : goal.returns-in_ok-insert-in-Err-clause-rises
returns-in_ok-insert-in-Err-clause-rises c =
    rw (c.in_ok-insert-in-Err.ensures.items, put-between c.args.templates.now.items c.args.template _ c.in-Err.position (c.as_str.ensures.value ∙ ap (λ t. string_bytes t.name) c.deref-2.ensures) (rw c.deref.ensures.value at c.in-Err.ensures)) (put-rises _ _ _ c.requires)
