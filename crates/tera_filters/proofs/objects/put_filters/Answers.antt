use Rattle.std.proofs.Common.{refl, sym, ap, ◌+◌, ◌∙◌, drop}
use Rattle.std.proofs.lemmas.List.{drop_all}
use Rattle.tera_state.specs.Prelude.{engine_of}
use Rattle.tera_filters.specs.Pack.{in_extra, rows_of, with_filters}
use Rattle.tera_filters.proofs.Packing.{next-row}
use Rattle.tera_filters.proofs.objects.put_filters.Goals as goal

pub loop-row-init : goal.loop-row-init
loop-row-init g c m = refl

pub loop-row-preserved : goal.loop-row-preserved
loop-row-preserved g c m =
    ap (with_filters (in_extra m.filter) (rows_of (drop (c.loop-row.row-index + 1) c.args.rows.now))) (c.in_ok-register_filter.ensures.ok m)
    ∙ sym (next-row (in_extra m.filter) c.args.rows.now c.loop-row.row-index _ (engine_of m c.loop-row.objects) c.loop-row-test.true)
    ∙ c.loop-row.invariant m

pub returns-clause-ok : goal.returns-clause-ok
returns-clause-ok g c m =
    ap (λ rs. with_filters (in_extra m.filter) (rows_of rs) (engine_of m c.loop-row.objects)) (sym (drop_all c.loop-row.row-index c.args.rows.now c.loop-row-test.false)) ∙ c.loop-row.invariant m
