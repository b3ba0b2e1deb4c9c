use Rattle.std.proofs.Common.{refl}
use Rattle.tera_syntax_tree.specs.Delimiters.{delimiters_of}
use Rattle.tera_registry.specs.Batch.{pairs_of}
use Rattle.tera_registry.proofs.Aboves.{kept-climbed}
use Rattle.tera_registry.proofs.Adds.{copies-rise, add-unread, add-unlinked, add-linked, kept-faultless, kept-placed, kept-rooted, kept-chosen}
use Rattle.tera_registry.proofs.Leading.{kept-right, kept-whole, kept-starting}
use Rattle.tera_registry.proofs.templates.Templates.add.Goals as goal

pub put_all-requires-clause-rises : goal.put_all-requires-clause-rises
put_all-requires-clause-rises g c = copies-rise _ _ c.in_ok-all.ensures.cases.0 c.args.self.now.rises

pub returns-in-Err : goal.returns-in-Err
returns-in-Err g c = λ r same of.
    (add-unread r (delimiters_of c.args.delimiters.now) (pairs_of c.args.batch.now) c.args.self.now.all.items c.in_ok-all.all.items c.args.self.now.prefixes.items same c.in_ok-all.ensures.cases.0 c.in-Err.error c.in-Err.ensures.answer, refl)

pub returns-in-Err-link : goal.returns-in-Err-link
returns-in-Err-link g c = λ r same of.
    (add-unlinked r (delimiters_of c.args.delimiters.now) (pairs_of c.args.batch.now) c.args.self.now.all.items c.in_ok-all.all.items c.args.self.now.prefixes.items same c.in_ok-all.ensures.cases.0 (g.O.Objects.engine c.args.objects.now) c.put_all.new.templates.items _ _ of c.as_slice.ensures.value c.as_slice-2.ensures.value c.in-Ok.ensures.answer c.in-Err-link.fault c.in-Err-link.ensures.answer, refl)

pub invariant_of-self : goal.invariant_of-self
invariant_of-self g c = record {
  rises = c.in-Ok.ensures.rises;
  faultless = kept-faultless (g.O.Objects.engine c.args.objects.now) c.put_all.new.templates.items _ c.args.self.now.prefixes.items _ c.as_slice.ensures.value c.as_slice-2.ensures.value c.in-Ok-link.ensures.answer;
  placed = kept-placed (g.O.Objects.engine c.args.objects.now) c.put_all.new.templates.items _ c.args.self.now.prefixes.items _ c.as_slice.ensures.value c.as_slice-2.ensures.value _ c.in-Ok-link.ensures.ups;
  rooted = kept-rooted (g.O.Objects.engine c.args.objects.now) c.put_all.new.templates.items _ c.args.self.now.prefixes.items _ c.as_slice.ensures.value c.as_slice-2.ensures.value _ c.in-Ok-link.ensures.roots;
  chosen = kept-chosen (g.O.Objects.engine c.args.objects.now) c.put_all.new.templates.items _ c.args.self.now.prefixes.items _ c.as_slice.ensures.value c.as_slice-2.ensures.value c.in-Ok-link.links.choices c.in-Ok-link.ensures.choices;
  whole = kept-whole c.put_all.new.templates.items _ c.in-Ok-link.links.table.entries.items c.as_slice.ensures.value c.in-Ok-link.ensures.whole;
  starting = kept-starting c.put_all.new.templates.items _ c.in-Ok-link.links.table.starts.items c.as_slice.ensures.value c.in-Ok-link.ensures.starts;
  right = kept-right c.put_all.new.templates.items _ c.args.self.now.prefixes.items _ c.in-Ok-link.links.choices c.in-Ok-link.links.table.entries.items c.as_slice.ensures.value c.as_slice-2.ensures.value c.in-Ok-link.ensures.right;
  climbed = kept-climbed (g.O.Objects.engine c.args.objects.now) c.put_all.new.templates.items _ c.args.self.now.prefixes.items _ c.in-Ok-link.links.table.entries.items c.as_slice.ensures.value c.as_slice-2.ensures.value c.in-Ok-link.ensures.aboves;
}

pub returns : goal.returns
returns g c = λ r same of.
    add-linked r (delimiters_of c.args.delimiters.now) (pairs_of c.args.batch.now) c.args.self.now.all.items c.in_ok-all.all.items c.args.self.now.prefixes.items same c.in_ok-all.ensures.cases.0 (g.O.Objects.engine c.args.objects.now) c.put_all.new.templates.items _ _ of c.as_slice.ensures.value c.as_slice-2.ensures.value c.in-Ok.ensures.answer c.in-Ok-link.ensures.answer
