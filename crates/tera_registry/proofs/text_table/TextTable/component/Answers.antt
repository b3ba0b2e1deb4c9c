use Rattle.std.proofs.Common.{◌≡◌, ◌<◌, length, Some, option_map, sym, ap, ◌∙◌, arith}
use Rattle.std.proofs.lemmas.List.Elements.{All-get_or}
use Rattle.tera_registry.specs.HandedOut.{code_of, found_of}
use Rattle.tera_registry.specs.Kept.{seen}
use Rattle.tera_registry.specs.References.{chunk_of, IsLinked}
use Rattle.tera_registry.proofs.Placing.{component-nowhere, component-at-place}
use Rattle.tera_registry.proofs.Tabled.{entry-each, entry-kept}
use Rattle.tera_registry.proofs.text_table.TextTable.component.Goals as goal

pub returns-in_err-place-clause-first : goal.returns-in_err-place-clause-first
returns-in_err-place-clause-first c =
    let self = c.args.self.now in
    let name = c.args.name.now in
    ap (option_map found_of) c.from_residual.ensures ∙ sym (component-nowhere name self.components.items (c.in_err-place.ensures.value ∙ self.placed name))

pub index-component-requires : goal.index-component-requires
index-component-requires c =
    let self = c.args.self.now in
    let name = c.args.name.now in
    omega (arith, (component-at-place name self.components.items c.in_ok-place.field-0.now (c.in_ok-place.ensures.value ∙ self.placed name)).1, self.components.ok)

pub index-requires : goal.index-requires
index-requires c =
    let self = c.args.self.now in
    let name = c.args.name.now in
    omega (arith, (component-at-place name self.components.items c.in_ok-place.field-0.now (c.in_ok-place.ensures.value ∙ self.placed name)).1, entry-each self.entries.items self.components.items self.whole, self.entries.ok)

pub new-requires : goal.new-requires
new-requires c =
    let self = c.args.self.now in
    let ts = self.templates.now in
    let name = c.args.name.now in
    let k = c.in_ok-place.field-0.now in
    let lt : k < length self.entries.items = omega (arith, (component-at-place name self.components.items k (c.in_ok-place.ensures.value ∙ self.placed name)).1, entry-each self.entries.items self.components.items self.whole) in
    rw c.index.ensures (All-get_or (IsLinked (seen ts.all.items ts.prefixes.items) ts.choices) self.entries.items k c.index.result.now lt self.right)

pub returns-clause-first : goal.returns-clause-first
returns-clause-first c =
    let self = c.args.self.now in
    let cs = self.components.items in
    let name = c.args.name.now in
    let k = c.in_ok-place.field-0.now in
    let own = c.index-component.result.now in
    let at = component-at-place name cs k (c.in_ok-place.ensures.value ∙ self.placed name) in
    let code : code_of c.new.result ≡ chunk_of c.index.result.now = sym c.new.result.shared ∙ ap chunk_of c.new.ensures.entry in
    ap (λ l. Some (own.definition, l)) code ∙ sym (at.0 ∙ entry-kept self.entries.items cs self.whole k c.index.result.now _ own _ at.1 c.index.ensures c.index-component.ensures)
