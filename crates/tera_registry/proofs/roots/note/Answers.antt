use Rattle.std.proofs.Common.{◌≡◌, ◌-◌, ◌+◌, suc, ◌∙◌, arith}
use Rattle.tera_registry.specs.Links.{Stands}
use Rattle.tera_registry.proofs.Element.{element}
use Rattle.tera_registry.proofs.Linked.{up-there, next-inside}
use Rattle.tera_registry.proofs.Noted.{noted, one-nearer, length-set}
use Rattle.tera_registry.proofs.roots.note.Goals as goal

pub loop-passed-preserved : goal.loop-passed-preserved
loop-passed-preserved c =
    let i = c.loop-passed.invariant in
    record {
      last_there = next-inside c.args.ups.now c.loop-passed.last c.in-At.next c.requires.inside i.last_there c.in-At.is;
      as_many = length-set c.loop-passed.tops c.loop-passed.last _ ∙ i.as_many;
      known = λ r t a k at s.
          (let e = element r.templates c.loop-passed.last (omega (arith, i.last_there, a.as_many)) in
          noted r _ c.loop-passed.last _ e.0 (i.known r t a k at s) e.1 (i.stands r t e.0 a at s e.1));
      stands = λ r t v a at s v_at.
          (let e = up-there r c.args.ups.now c.loop-passed.last _ a i.last_there c.in-At.is in
          let nearer : c.args.top.parents - c.loop-passed.passed ≡ suc (c.args.top.parents - (c.loop-passed.passed + 1)) = omega (arith, c.loop-passed-test.true) in
          one-nearer r e.0 v e.2.0 c.in-At.next _ _ _ (i.stands r t e.0 a at s e.1) nearer e.2.1 e.2.2.0 v_at);
    }

pub returns-clause-known : goal.returns-clause-known
returns-clause-known c = λ r t a k at s.
    let i = c.loop-passed.invariant in
    let e = element r.templates c.loop-passed.last (omega (arith, i.last_there, a.as_many)) in
    let none : c.args.top.parents - c.loop-passed.passed ≡ 0 = omega (arith, c.loop-passed-test.false) in
    let stands : Stands r e.0 (record { root = c.args.top.root; parents = 0 }) = rw none at (i.stands r t e.0 a at s e.1) in
    noted r _ c.loop-passed.last _ e.0 (i.known r t a k at s) e.1 stands
