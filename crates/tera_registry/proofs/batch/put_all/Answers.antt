use Rattle.std.proofs.Common.{◌∙◌, [], Ok, subst, sym, ap, ap₂}
use Rattle.tera_syntax_tree.specs.Delimiters.{delimiters_of}
use Rattle.tera_values.specs.Named.{put_all}
use Rattle.tera_registry.specs.Order.{Rises}
use Rattle.tera_registry.specs.Batch.{pairs_of}
use Rattle.tera_registry.specs.Put.{Puts}
use Rattle.tera_registry.specs.Kept.{entries_of}
use Rattle.tera_registry.proofs.Merged.{put-through, put_all-rises}
use Rattle.tera_registry.proofs.batch.put_all.Goals as goal

pub merge-requires-clause-templates : goal.merge-requires-clause-templates
merge-requires-clause-templates c =
    subst (λ l. Rises l) (sym (ap entries_of c.as_slice-in_default.ensures.value ∙ c.in_ok-sorted-in_default.ensures)) (put_all-rises (entries_of c.as_slice.result.now) [] tt)

pub returns-clause-answer : goal.returns-clause-answer
returns-clause-answer c =
    let old = entries_of c.args.templates.now.items in
    let whole =
    c.in_ok-templates-in_default.ensures
    ∙ ap₂ put_all (ap entries_of c.as_slice-in_default.ensures.value ∙ c.in_ok-sorted-in_default.ensures) (ap entries_of c.as_slice-in_default-2.ensures.value)
    ∙ put-through (entries_of c.as_slice.result.now) [] old tt
    ∙ ap (λ ts. put_all (entries_of ts) old) c.as_slice.ensures.value in
    subst (λ l. Puts (delimiters_of c.args.delimiters.now) old (pairs_of c.args.batch.now) (Ok l)) (sym whole) (c.in-Ok.ensures old)

pub returns-clause-rises : goal.returns-clause-rises
returns-clause-rises c =
    let ts = entries_of c.as_slice-in_default.result.now in
    subst (λ l. Rises l) (sym (c.in_ok-templates-in_default.ensures ∙ ap (put_all ts) (ap entries_of c.as_slice-in_default-2.ensures.value))) (put_all-rises ts (entries_of c.args.templates.now.items) c.requires.rises)
