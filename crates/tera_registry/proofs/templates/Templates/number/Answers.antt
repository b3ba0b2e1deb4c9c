use Rattle.std.proofs.Common.{◌+◌, ap, arith}
use Rattle.tera_registry.specs.Templates.{templates_of}
use Rattle.tera_registry.proofs.Counted.{entry-within}
use Rattle.tera_registry.proofs.Tabled.{start-there}
use Rattle.tera_registry.proofs.templates.Templates.number.Goals as goal

pub index-requires : goal.index-requires
index-requires c =
    let self = c.args.self.now in
    omega (arith, c.requires.template, self.starting.as_many, self.table.starts.ok)

pub overflow_add-result : goal.overflow_add-result
overflow_add-result c =
    let self = c.args.self.now in
    let n = start-there (templates_of self) self.table.starts.items _ self.starting c.args.template c.index.result.now _ c.requires.template c.index.ensures in
    omega (arith, n, c.requires.there, entry-within self _ c.requires.there, self.table.entries.ok)

pub returns : goal.returns
returns c =
    let self = c.args.self.now in
    ap (λ n. n + c.args.offset) (start-there (templates_of self) self.table.starts.items _ self.starting c.args.template c.index.result.now _ c.requires.template c.index.ensures)
