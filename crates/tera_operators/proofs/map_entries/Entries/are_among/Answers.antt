use Rattle.std.proofs.Common.{rules, ◌≡◌, sym, ap, ◌∙◌, length}
use Rattle.tera_operators.specs.Entries.{listed, are_named}
use Rattle.tera_operators.proofs.Listing.{listed_named, among}
use Rattle.tera_operators.proofs.map_entries.Entries.are_among.Goals as goal

pub returns-in-Listed-clause-is : goal.returns-in-Listed-clause-is
returns-in-Listed-clause-is c =
    let names = c.args.names.now in
    let keys = c.in-Listed.keys.now in
    let xs = c.in-Listed.field-1.items in
    let view : listed keys xs ≡ c.args.self.now = search rules in
    let fits : length keys ≡ length xs = search rules in
    c.are_keys_named.ensures
    ∙ sym (listed_named names keys xs fits)
    ∙ ap (are_named names) view

pub returns-in-Listed-clause-among : goal.returns-in-Listed-clause-among
returns-in-Listed-clause-among c = λ h. among c.args.names.now c.args.self.now (sym (returns-in-Listed-clause-is c) ∙ h)

pub returns-in-Made-clause-among : goal.returns-in-Made-clause-among
returns-in-Made-clause-among c =
    let same : c.map_named.result ≡ are_named c.args.names.now c.args.self.now = search rules in
    λ h. among c.args.names.now c.args.self.now (sym same ∙ h)

pub returns-in-Lent-clause-among : goal.returns-in-Lent-clause-among
returns-in-Lent-clause-among c =
    let same : c.map_named-in-Lent.result ≡ are_named c.args.names.now c.args.self.now = search rules in
    λ h. among c.args.names.now c.args.self.now (sym same ∙ h)
