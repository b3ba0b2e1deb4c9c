use Rattle.std.proofs.Common.{◌≡◌, Some, map, ap, ◌∙◌, slice_get}
use Rattle.tera_registry.specs.Kept.{entries_of}
use Rattle.tera_registry.specs.Numbers.{above_of}
use Rattle.tera_registry.specs.References.{chunk_of}
use Rattle.tera_registry.proofs.Aboves.{aboves-on}
use Rattle.tera_registry.proofs.Ancestors.{entry-there}
use Rattle.tera_registry.proofs.Tabled.{listings-on}
use Rattle.tera_registry.proofs.body_table.table_of.Goals as goal

pub loop-position-preserved : goal.loop-position-preserved
loop-position-preserved g c =
    let r = g.registry in
    let es = entries_of c.args.templates.now in
    let i = c.loop-position.position in
    let inv = c.loop-position.invariant in
    let before = c.loop-position.entries.items in
    let t = entry-there r c.args.templates.now _ i c.requires.1 c.loop-position-test.true in
    let at : slice_get es i ≡ Some t.0 = ap (λ l. slice_get l i) c.requires.1.same ∙ t.1 in
    record {
      codes = listings-on es i t.0 (map chunk_of before) (map chunk_of c.add.new.entries.items) at inv.codes (c.in_ok-add.ensures.codes t.0 t.1);
      aboves = aboves-on r r.templates i t.0 (map above_of before) (map above_of c.add.new.entries.items) t.1 inv.aboves (c.in_ok-add.ensures.aboves t.0 t.1);
      right = c.in_ok-add.ensures.right;
    }
