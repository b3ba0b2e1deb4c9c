use Rattle.std.proofs.Common.{◌≡◌, Bool, Global, true, false, ◌||◌, refl, sym, ap, ap₂, ◌∙◌}
use Rattle.std.specs.declared.rc.Rc.{Rc}
use Rattle.tera_meaning.specs.Accepted.{knows, loses_a_block, lacks_something}
use Rattle.tera_meaning.specs.Known.{lacks_a_callee}
use Rattle.tera_meaning.specs.Registry.{Registry, Entry}
use Rattle.tera_registry.specs.declared.template.Template.{Template as Stored}
use Rattle.tera_registry.proofs.Kept.{entry-is}
use Rattle.tera_registry.proofs.definers.is_incomplete.Goals as goal

by-parts : (r : Registry) (t : Entry) (loses callee : Bool) → loses ≡ loses_a_block r t → callee ≡ lacks_a_callee (knows r) t.1.tree → (loses || callee) ≡ lacks_something r t
by-parts r t loses callee e f = ap₂ (λ x y. x || y) e f

pub returns-then-has_orphan_block : goal.returns-then-has_orphan_block
returns-then-has_orphan_block g c = λ t at.
    c.if-has_orphan_block.true ∙ by-parts g.registry t true _ (sym c.if-has_orphan_block.true ∙ c.has_orphan_block.ensures t at) refl

pub returns-else-has_orphan_block : goal.returns-else-has_orphan_block
returns-else-has_orphan_block g c = λ t at.
    let r = g.registry in
    let given = c.requires.1 in
    let value = c.deref-template.ensures ∙ sym (ap (λ (u : Rc Stored Global). u.value) c.index-there-of.is) in
    let same = entry-is r c.args.there.now.templates.now c.args.of _ _ t given.0.same given.1.0 c.index-there-of.is value at in
    by-parts r t false _ (sym c.if-has_orphan_block.false ∙ c.has_orphan_block.ensures t at)
    (c.has_missing_callee.ensures r given.1.1.0 given.1.1.1.1 ∙ ap (λ (u : Entry). lacks_a_callee (knows r) u.1.tree) same)
