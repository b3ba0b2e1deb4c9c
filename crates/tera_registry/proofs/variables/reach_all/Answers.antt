use Rattle.std.proofs.Common.{◌<◌, length, get_or, refl, sym, ap, ◌∙◌, arith, slice_get}
use Rattle.std.proofs.lemmas.List.{drop_all}
use Rattle.std.proofs.lemmas.Option.{get_or_from_slice_get}
use Rattle.tera_registry.proofs.Element.{element}
use Rattle.tera_registry.proofs.Rows.{drop-at}
use Rattle.tera_registry.proofs.Reaching.{reaching-begins, reaching-some, reaching-ends}
use Rattle.tera_registry.proofs.variables.reach_all.Goals as goal

pub loop-position-init : goal.loop-position-init
loop-position-init c = record { as_many = refl; reaching = λ es a. reaching-begins _ _ _ _ _ a }

pub reach-requires : goal.reach-requires
reach-requires c =
    omega (arith, c.requires c.loop-position.position-index c.loop-position-test.true, c.loop-position.invariant.as_many)

pub loop-position-preserved : goal.loop-position-preserved
loop-position-preserved c = record {
  as_many = omega (arith, c.reach.auto.marks, c.loop-position.invariant.as_many);
  reaching = λ es a.
      let i = c.loop-position.invariant.reaching es a in
      let p = element c.args.positions.now c.loop-position.position-index c.loop-position-test.true in
      let is = get_or_from_slice_get c.args.positions.now c.loop-position.position-index p.0 0 p.1 in
      let lt : get_or c.args.positions.now c.loop-position.position-index 0 < length es = omega (arith, c.requires c.loop-position.position-index c.loop-position-test.true, c.loop-position.invariant.as_many, i.reached.as_many) in
      let e = element es (get_or c.args.positions.now c.loop-position.position-index 0) lt in
      reaching-some es (slice_get es) _ _ _ p.0 e.0 _ _ _ _ _ (drop-at c.args.positions.now c.loop-position.position-index p.0 p.1) (ap (slice_get es) (sym is) ∙ e.1) (c.in_ok-reach.ensures es e.0 i.reached e.1) i;
}

pub returns : goal.returns
returns c = λ es a. reaching-ends _ _ _ _ _ _ _ (drop_all c.loop-position.position-index c.args.positions.now (omega (arith, c.loop-position-test.false))) (c.loop-position.invariant.reaching es a)
