use Rattle.std.proofs.Common.{arith}
use Rattle.tera_registry.proofs.Taking.{ascends}
use Rattle.tera_registry.proofs.Handed.{rank-within, link-some, link-exact, link-none}
use Rattle.tera_registry.proofs.body.Body.link_at.Goals as goal

pub rank-requires : goal.rank-requires
rank-requires c = rw (c.as_slice.ensures.value, c.args.self.now.code.now.taken) (ascends c.args.self.now.code.now.chunk.code)

pub returns-in_err-number-clause-exact : goal.returns-in_err-number-clause-exact
returns-in_err-number-clause-exact c =
    rw c.from_residual.ensures (link-none c.args.self.now c.as_slice.result.now c.args.at c.as_slice.ensures.value c.in_err-number.ensures)

pub index-requires : goal.index-requires
index-requires c =
    omega (arith, rank-within c.args.self.now c.as_slice.result.now c.args.at c.in_ok-number.number c.as_slice.ensures.value c.in_ok-number.ensures, c.args.self.now.entry.now.links.ok)

pub returns-clause-some : goal.returns-clause-some
returns-clause-some c =
    link-some c.args.self.now c.as_slice.result.now c.args.at c.in_ok-number.number c.index.result.now _ c.as_slice.ensures.value c.in_ok-number.ensures c.index.ensures

pub returns-clause-exact : goal.returns-clause-exact
returns-clause-exact c =
    link-exact c.args.self.now c.as_slice.result.now c.args.at c.in_ok-number.number c.index.result.now _ c.as_slice.ensures.value c.in_ok-number.ensures c.index.ensures
