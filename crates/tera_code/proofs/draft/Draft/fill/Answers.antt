use Rattle.std.proofs.Common.{refl}
use Rattle.tera_code.proofs.Growth.{all_stay, all_filled, chunk_filled}
use Rattle.tera_code.proofs.draft.Draft.fill.Goals as goal

pub invariant_of-self : goal.invariant_of-self
invariant_of-self c = all_stay c.self.inside.tables c.pack.new.self c.in_err-packed.ensures.grows c.self.inside.code.items c.self.invariant _ refl

pub invariant_of-self-2 : goal.invariant_of-self-2
invariant_of-self-2 c =
    all_filled c.self.inside.tables c.pack.new.self c.in_ok-packed.ensures.grows c.self.inside.code.items c.self.invariant c.args.position _ c.args.instruction c.in_ok-packed.ensures.ok

pub returns : goal.returns
returns c =
    chunk_filled c.self.inside.tables c.pack.new.self c.in_ok-packed.ensures.grows c.self.inside.code.items c.self.invariant c.args.position _ c.args.instruction c.in_ok-packed.ensures.ok c.self.inside.file _ c.self.view_is
