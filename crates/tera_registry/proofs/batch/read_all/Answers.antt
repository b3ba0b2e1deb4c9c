use Rattle.std.proofs.Common.{◌≡◌, ◌++◌, ◌+◌, ◌∙◌, [], ◌∷◌, subst, sym, ap, arith}
use Rattle.std.proofs.lemmas.List.{map-append}
use Rattle.tera_syntax_tree.specs.Delimiters.{delimiters_of}
use Rattle.tera_values.specs.Named.{put_all}
use Rattle.tera_registry.specs.Batch.{pairs_of}
use Rattle.tera_registry.specs.Kept.{entry_of, entries_of}
use Rattle.tera_registry.proofs.Batches.{Putting, putting-begins, putting-on, putting-stops, putting-ends, pair-at, length-pairs}
use Rattle.tera_registry.proofs.Merged.{put_all-append}
use Rattle.tera_registry.proofs.batch.read_all.Goals as goal

pub loop-name-init : goal.loop-name-init
loop-name-init c = λ old.
    subst (λ ts. Putting (delimiters_of c.args.delimiters.now) old (pairs_of c.args.batch.now) (put_all (entries_of ts) old) 0) (sym c.new-all.ensures.items) (putting-begins _ old _)

pub loop-name-preserved : goal.loop-name-preserved
loop-name-preserved c = λ old.
    let es = entries_of c.loop-name.all.items in
    let e = entry_of c.in-Ok.template in
    let pushed : entries_of c.push.new.self.items ≡ es ++ e ∷ [] =
    ap entries_of c.in_ok-push.ensures.items ∙ map-append (λ t. entry_of t.value) c.loop-name.all.items _ ∙ ap (λ v. es ++ entry_of v ∷ []) c.in_ok-new.ensures.ok in
    subst (λ m. Putting (delimiters_of c.args.delimiters.now) old (pairs_of c.args.batch.now) m (c.loop-name.name-index + 1)) (sym (ap (λ l. put_all l old) pushed ∙ put_all-append es (e ∷ []) old))
    (putting-on _ old _ _ c.loop-name.name-index _ _ (c.loop-name.invariant old) (pair-at c.args.batch.now c.loop-name.name-index _ c.loop-name-test.true) c.in-Ok.ensures)

pub returns-in-Err : goal.returns-in-Err
returns-in-Err c = λ old.
    putting-stops c.in-Err.error _ old _ _ c.loop-name.name-index _ (c.loop-name.invariant old) (pair-at c.args.batch.now c.loop-name.name-index _ c.loop-name-test.true) c.in-Err.ensures

pub returns : goal.returns
returns c = λ old.
    putting-ends _ old _ _ _ (c.loop-name.invariant old) (omega (arith, length-pairs c.args.batch.now, c.loop-name-test.false))
