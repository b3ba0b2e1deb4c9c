use Rattle.std.proofs.Common.{ℕ, ◌++◌, ◌∷◌, [], map, Global, Option, None, sym, ap, ◌∙◌}
use Rattle.std.specs.declared.rc.Rc.{Rc}
use Rattle.std.proofs.lemmas.List.{map-append}
use Rattle.tera_registry.specs.declared.code.TemplateBlock.{TemplateBlock}
use Rattle.tera_registry.specs.declared.components.Component.{Component}
use Rattle.tera_registry.specs.declared.template.Template.{Template as Stored}
use Rattle.tera_registry.specs.Bodies.{codes_of}
use Rattle.tera_registry.specs.Kept.{entry_of}
use Rattle.tera_registry.specs.Linking.{above_block}
use Rattle.tera_registry.specs.Numbers.{above_in, above_of, blocks_in}
use Rattle.tera_registry.specs.References.{chunk_of}
use Rattle.tera_registry.proofs.Aboves.{aboves-added}
use Rattle.tera_registry.proofs.Bodies.{on_ok_by}
use Rattle.tera_registry.proofs.Kept.{entry-among, entry-is}
use Rattle.tera_registry.proofs.Tabled.{template-added}
use Rattle.tera_registry.proofs.body_table.Linking.add.Goals as goal

pub returns-clause-codes : goal.returns-clause-codes
returns-clause-codes g c = λ t at.
    let kept = c.deref-template.result.now in
    let value = c.deref-template.ensures ∙ sym (ap (λ (u : Rc Stored Global). u.value) c.index-self-of.is) in
    let same = entry-is g.registry c.args.self.now.targets.templates.now c.args.of _ _ t c.requires.0.climbable.same c.requires.1.0 c.index-self-of.is value at in
    let old = map chunk_of c.args.entries.now.items in
    let one = map chunk_of c.push.new.self.items in
    let two = map chunk_of c.add_blocks.new.entries.items in
    let three = two ++ map (λ (k : Component). k.code.value.chunk) c.as_slice-2.result.now in
    let pushed = ap (map chunk_of) c.in_ok-push.ensures.items ∙ map-append chunk_of c.args.entries.now.items (c.in_ok-entry.field-0 ∷ []) in
    let blocks = c.in_ok-add_blocks.ensures.codes ∙ ap (λ l. one ++ map (λ (b : TemplateBlock). b.code.value.chunk) l) c.as_slice.ensures.value in
    let components = ap (λ l. two ++ map (λ (k : Component). k.code.value.chunk) l) c.as_slice-2.ensures.value in
    on_ok_by c.add_all.result _ _ _ (template-added kept old one two three (chunk_of c.in_ok-entry.field-0) c.in_ok-entry.ensures.code pushed blocks components ∙ ap (λ u. old ++ codes_of u) same) c.add_all.ensures.codes

pub returns-clause-aboves : goal.returns-clause-aboves
returns-clause-aboves g c = λ t at.
    let r = g.registry in
    let kept = c.deref-template.result.now in
    let value = c.deref-template.ensures ∙ sym (ap (λ (u : Rc Stored Global). u.value) c.index-self-of.is) in
    let ts = c.args.self.now.targets.templates.now in
    let same = entry-is r ts c.args.of _ _ t c.requires.0.climbable.same c.requires.1.0 c.index-self-of.is value at in
    let here = entry-among r ts c.args.of _ kept c.requires.0.climbable.same c.requires.1.0 c.index-self-of.is value in
    let old = map above_of c.args.entries.now.items in
    let one = map above_of c.push.new.self.items in
    let two = map above_of c.add_blocks.new.entries.items in
    let none : Component → Option ℕ = λ _. None in
    let three = two ++ map none c.as_slice-2.result.now in
    let pushed = ap (map above_of) c.in_ok-push.ensures.items ∙ map-append above_of c.args.entries.now.items (c.in_ok-entry.field-0 ∷ []) in
    let blocks = c.in_ok-add_blocks.ensures.aboves (entry_of kept) here ∙ ap (λ l. one ++ map (above_block r (entry_of kept)) l) c.as_slice.ensures.value in
    let components = ap (λ l. two ++ map none l) c.as_slice-2.ensures.value in
    on_ok_by c.add_all.result _ _ _ (aboves-added r kept old one two three (above_of c.in_ok-entry.field-0) c.in_ok-entry.ensures.above pushed blocks components ∙ ap (λ u. old ++ map (above_in r) (blocks_in u)) same) c.add_all.ensures.aboves
