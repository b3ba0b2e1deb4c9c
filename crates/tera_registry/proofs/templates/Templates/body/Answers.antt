use Rattle.std.proofs.Common.{sym, ap, ◌∙◌, Some, arith}
use Rattle.std.proofs.lemmas.List.Elements.{All-get_or}
use Rattle.tera_registry.specs.Bodies.{listings}
use Rattle.tera_registry.specs.Kept.{entries_of, seen}
use Rattle.tera_registry.specs.References.{IsLinked}
use Rattle.tera_registry.proofs.Counted.{entry-within}
use Rattle.tera_registry.proofs.Tabled.{entry-code}
use Rattle.tera_registry.proofs.templates.Templates.body.Goals as goal

pub index-requires : goal.index-requires
index-requires c =
    let self = c.args.self.now in
    omega (arith, entry-within self c.args.number c.requires, self.table.entries.ok)

pub new-requires : goal.new-requires
new-requires c =
    let self = c.args.self.now in
    let lt = entry-within self c.args.number c.requires in
    rw c.index.ensures (All-get_or (IsLinked (seen self.all.items self.prefixes.items) self.choices) self.table.entries.items c.args.number c.index.result.now lt self.right)

pub returns-clause-code : goal.returns-clause-code
returns-clause-code c =
    let self = c.args.self.now in
    let lt = entry-within self c.args.number c.requires in
    entry-code self.table.entries.items (listings (entries_of self.all.items)) c.args.number c.index.result.now c.index.result.now self.whole c.index.ensures lt ∙ ap (λ (e : _). Some e.code.value.chunk) (sym c.new.ensures.entry) ∙ ap Some c.new.result.shared
