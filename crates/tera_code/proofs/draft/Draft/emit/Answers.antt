use Rattle.std.proofs.Common.{refl}
use Rattle.tera_code.proofs.Growth.{all_stay, all_grow, chunk_grows}
use Rattle.tera_code.proofs.draft.Draft.emit.Goals as goal

pub invariant_of-self : goal.invariant_of-self
invariant_of-self c = all_stay c.self.inside.tables c.pack.new.self c.in_err-packed.ensures.grows c.self.inside.code.items c.self.invariant _ refl

pub invariant_of-self-in_err-push : goal.invariant_of-self-in_err-push
invariant_of-self-in_err-push c =
    all_stay c.self.inside.tables c.pack.new.self c.in_ok-packed.ensures.grows c.self.inside.code.items c.self.invariant _ c.in_err-push.ensures.items

pub invariant_of-self-2 : goal.invariant_of-self-2
invariant_of-self-2 c =
    all_grow c.self.inside.tables c.pack.new.self c.in_ok-packed.ensures.grows c.self.inside.code.items c.self.invariant _ _ c.args.instruction c.in_ok-packed.ensures.ok c.in_ok-push.ensures.items

pub returns : goal.returns
returns c =
    chunk_grows c.self.inside.tables c.pack.new.self c.in_ok-packed.ensures.grows c.self.inside.code.items c.self.invariant _ _ c.args.instruction c.in_ok-packed.ensures.ok c.in_ok-push.ensures.items c.self.inside.file _ c.self.view_is
