use Rattle.std.proofs.Common.{length, ◌+◌, ◌-◌, ◌*◌, count_by, not, sym, ◌∙◌, arith}
use Rattle.std.proofs.lemmas.List.{length-set}
use Rattle.std.proofs.lemmas.List.Sums.{count_by-le-length}
use Rattle.tera_registry.specs.Walks.{rows}
use Rattle.tera_registry.proofs.Rows.{length-push}
use Rattle.tera_registry.proofs.Ways.{mark_ended, pass_edge, back, found, none}
use Rattle.tera_registry.proofs.Walking.{length-rows, here-unknown, all-passed, next-edge, mark-smaller, pass-smaller, begins, goes-on, marked-start, here-there}
use Rattle.tera_registry.proofs.include_circles.leads_into_a_circle.Goals as goal

pub returns-then-ends-from-clause-circles : goal.returns-then-ends-from-clause-circles
returns-then-ends-from-clause-circles c =
    sym (none c.args.from c.requires.explored c.if-ends-from.true (count_by-le-length _ _))

pub way-init : goal.way-init
way-init c = record {
  explored = c.requires.explored;
  here_there = c.requires.there;
  all_passed = c.requires.all_passed;
  all_ends = c.requires.all_ends;
  going = rw c.new-way.ensures.items (begins _ _ _ (omega (arith, length-rows c.args.edges.now, c.requires.there)) c.if-ends-from.false);
}

pub returns-in-None-pop-clause-explored : goal.returns-in-None-pop-clause-explored
returns-in-None-pop-clause-explored c =
    let i = c.way.invariant in
    let all = all-passed c.args.edges.now _ _ _ _ _ i.explored i.here_there c.index-edges-here.is c.deref.ensures.value c.in-None.ensures.lookup.3 in
    mark_ended i.explored c.way.here (omega (arith, length-rows c.args.edges.now, i.here_there)) all (here-unknown _ _ _ _ _ i.going)

pub returns-in-None-pop-clause-circles : goal.returns-in-None-pop-clause-circles
returns-in-None-pop-clause-circles c =
    let i = c.way.invariant in
    let all = all-passed c.args.edges.now _ _ _ _ _ i.explored i.here_there c.index-edges-here.is c.deref.ensures.value c.in-None.ensures.lookup.3 in
    let marked = mark_ended i.explored c.way.here (omega (arith, length-rows c.args.edges.now, i.here_there)) all (here-unknown _ _ _ _ _ i.going) in
    let start = marked-start _ _ c.args.from c.way.way.items c.way.here i.going (omega (arith, c.in-None-pop.ensures.cases)) (omega (arith, i.here_there, i.all_ends)) in
    sym (none c.args.from marked start (count_by-le-length _ _))

pub way-smaller-in-Some-pop : goal.way-smaller-in-Some-pop
way-smaller-in-Some-pop c =
    let i = c.way.invariant in
    mark-smaller (rows c.args.edges.now) c.way.passed c.way.ends c.way.here (length c.args.edges.now) c.way.way.items c.pop.new.self.items c.in-Some-pop.before (omega (arith, i.here_there, i.all_ends)) (here-unknown _ _ _ _ _ i.going) c.in-Some-pop.ensures.items

pub way-preserved-in-Some-pop : goal.way-preserved-in-Some-pop
way-preserved-in-Some-pop c =
    let i = c.way.invariant in
    let all = all-passed c.args.edges.now _ _ _ _ _ i.explored i.here_there c.index-edges-here.is c.deref.ensures.value c.in-None.ensures.lookup.3 in
    let going = back i.explored c.way.way.items c.way.here i.going all in
    let is = c.in-Some-pop.ensures.items in
    record {
      explored = mark_ended i.explored c.way.here (omega (arith, length-rows c.args.edges.now, i.here_there)) all (here-unknown _ _ _ _ _ i.going);
      here_there = here-there c.args.edges.now _ _ _ c.in-Some-pop.before (rw is at going);
      all_passed = i.all_passed;
      all_ends = length-set _ _ _ ∙ i.all_ends;
      going = rw is at going;
    }

pub way-smaller-then-ends-next : goal.way-smaller-then-ends-next
way-smaller-then-ends-next c =
    let i = c.way.invariant in
    let x = next-edge c.args.edges.now _ _ _ _ _ _ i.explored i.here_there c.index-edges-here.is c.deref.ensures.value c.in-Some.ensures.lookup.3.0 c.in-Some.ensures.lookup.1 in
    pass-smaller c.args.edges.now c.way.passed c.way.ends c.way.here _ (2 * count_by not c.way.ends) (length c.args.edges.now + 1 - length c.way.way.items) i.here_there (omega (arith, i.here_there, i.all_passed)) x

pub way-preserved-then-ends-next : goal.way-preserved-then-ends-next
way-preserved-then-ends-next c =
    let i = c.way.invariant in
    let x = next-edge c.args.edges.now _ _ _ _ _ _ i.explored i.here_there c.index-edges-here.is c.deref.ensures.value c.in-Some.ensures.lookup.3.0 c.in-Some.ensures.lookup.1 in
    record {
      explored = pass_edge i.explored c.way.here (omega (arith, length-rows c.args.edges.now, i.here_there)) x.is_edge (rw x.leads c.if-ends-next.true);
      here_there = i.here_there;
      all_passed = length-set _ _ _ ∙ i.all_passed;
      all_ends = i.all_ends;
      going = i.going;
    }

pub returns-then-len-edges-clause-circles : goal.returns-then-len-edges-clause-circles
returns-then-len-edges-clause-circles c =
    let i = c.way.invariant in
    let long = length-push c.way.way.items c.way.here in
    sym (found i.going (omega (arith, length-rows c.args.edges.now)))

pub way-preserved : goal.way-preserved
way-preserved c =
    let i = c.way.invariant in
    let x = next-edge c.args.edges.now _ _ _ _ _ _ i.explored i.here_there c.index-edges-here.is c.deref.ensures.value c.in-Some.ensures.lookup.3.0 c.in-Some.ensures.lookup.1 in
    record {
      explored = i.explored;
      here_there = omega (arith, x.there, length-rows c.args.edges.now);
      all_passed = i.all_passed;
      all_ends = i.all_ends;
      going = rw c.in_ok-push-in-Some.ensures.items (goes-on _ _ _ c.way.way.items c.way.here _ _ i.going x c.if-ends-next.false (omega (arith, length-rows c.args.edges.now)));
    }
