use Rattle.std.proofs.Common.{◌≡◌, ◌<◌, ℕ, List, length, Option, Some, None, Result, Ok, Err, ap, arith, slice_get}
use Rattle.std.proofs.lemmas.List.{length-replicate}
use Rattle.tera_errors.specs.Answer.{SeenError}
use Rattle.tera_registry.specs.declared.roots.Root.{Root}
use Rattle.tera_registry.specs.declared.roots.Parent.{Parent}
use Rattle.tera_registry.proofs.Element.{element}
use Rattle.tera_registry.proofs.Climb.{top-parents, top-root}
use Rattle.tera_registry.proofs.Linked.{no-roots, more-roots, ups-inside}
use Rattle.tera_registry.proofs.Checked.{checked-begins, checked-on, checked-says, checked-circle, checked-tie, checked-all, told}
use Rattle.tera_meaning.specs.Accepted.{leads_into_a_circle}
use Rattle.tera_registry.specs.Choices.{ties_at}
use Rattle.tera_meaning.specs.Registry.{Registry, Entry}
use Rattle.tera_registry.specs.Links.{AreUps, AreTops, IsTop, climbed}
use Rattle.tera_registry.proofs.First.{is-here, is-not-here, not-past-more}
use Rattle.tera_registry.proofs.Noted.{only-none, no-tops}
use Rattle.tera_registry.proofs.roots.roots.Goals as goal

pub climb-requires-clause-inside : goal.climb-requires-clause-inside
climb-requires-clause-inside g c = ups-inside g.registry _ c.requires.0

pub note-requires-clause-inside : goal.note-requires-clause-inside
note-requires-clause-inside g c = ups-inside g.registry _ c.requires.0

-- the template at a position, and what is found at its top
topped : (r : Registry) (ups : List Parent) (tops : List (Option Root)) (position : ℕ) (found : Result Root SeenError) → AreUps r ups (length r.templates) → AreTops r tops → position < length ups → ((q : Registry) (t : Entry) → AreUps q ups (length q.templates) → AreTops q tops → slice_get q.templates position ≡ Some t → IsTop q t found) → (t : Entry) × (slice_get r.templates position ≡ Some t) × IsTop r t found
topped r ups tops position found u k lt at_top =
    let e = element r.templates position (omega (arith, u.as_many, lt)) in
    (e.0, e.1, at_top r e.0 u k e.1)

pub returns-in-Err-clause-answer : goal.returns-in-Err-clause-answer
returns-in-Err-clause-answer g c =
    let i = c.loop-position.invariant in
    let e = topped g.registry _ _ c.loop-position.position (Err c.in-Err.fault) c.requires.0 i.tops c.loop-position-test.true c.in-Err.ensures in
    checked-says c.in-Err.fault g.registry c.loop-position.position e.0 i.checked e.1 e.2

pub returns-then-is_at-clause-answer : goal.returns-then-is_at-clause-answer
returns-then-is_at-clause-answer g c =
    let i = c.loop-position.invariant in
    let e = topped g.registry _ _ c.loop-position.position (Ok c.in-Ok.top) c.requires.0 i.tops c.loop-position-test.true c.in-Ok.ensures in
    let leads = is-here g.registry (λ position t. leads_into_a_circle g.registry t) c.args.circle c.loop-position.position e.0 c.requires.1.0 (c.is_at.ensures.there c.if-is_at.true) e.1 in
    rw c.circular_include.ensures (checked-circle g.registry c.loop-position.position e.0 _ i.checked e.1 (top-parents g.registry e.0 c.in-Ok.top e.2).1 leads)

pub returns-then-is_at-2-clause-answer : goal.returns-then-is_at-2-clause-answer
returns-then-is_at-2-clause-answer g c =
    let r = g.registry in
    let i = c.loop-position.invariant in
    let e = topped r _ _ c.loop-position.position (Ok c.in-Ok.top) c.requires.0 i.tops c.loop-position-test.true c.in-Ok.ensures in
    let leads = is-not-here r (λ position t. leads_into_a_circle r t) c.args.circle c.loop-position.position e.0 c.requires.1.0 i.not_past (c.is_at.ensures.not_there c.if-is_at.false) e.1 in
    let ties = is-here r (ties_at r) c.args.tie c.loop-position.position e.0 c.requires.1.1 (c.is_at-in-Ok.ensures.there c.if-is_at-2.true) e.1 in
    told c.message.result (climbed r) c.message.ensures (checked-tie r c.loop-position.position e.0 _ i.checked e.1 (top-parents r e.0 c.in-Ok.top e.2).1 leads ties)

pub loop-position-preserved : goal.loop-position-preserved
loop-position-preserved g c =
    let r = g.registry in
    let i = c.loop-position.invariant in
    let not = c.is_at.ensures.not_there c.if-is_at.false in
    let no_tie = c.is_at-in-Ok.ensures.not_there c.if-is_at-2.false in
    let e = topped r _ _ c.loop-position.position (Ok c.in-Ok.top) c.requires.0 i.tops c.loop-position-test.true c.in-Ok.ensures in
    let leads = is-not-here r (λ position t. leads_into_a_circle r t) c.args.circle c.loop-position.position e.0 c.requires.1.0 i.not_past not e.1 in
    let ties = is-not-here r (ties_at r) c.args.tie c.loop-position.position e.0 c.requires.1.1 i.no_tie no_tie e.1 in
    record {
      checked = checked-on r c.loop-position.position e.0 _ i.checked e.1 (top-parents r e.0 c.in-Ok.top e.2).1 leads ties;
      not_past = not-past-more c.args.circle c.loop-position.position i.not_past not;
      no_tie = not-past-more c.args.tie c.loop-position.position i.no_tie no_tie;
      all_tops = c.note.ensures.as_many;
      tops = c.note.ensures.known r e.0 c.requires.0 i.tops e.1 e.2.1;
      roots = rw c.in_ok-push-in-Ok.ensures.items (more-roots r _ c.in-Ok.top.root c.loop-position.position e.0 i.roots e.1 (top-root r e.0 c.in-Ok.top e.2));
    }

pub returns-clause-answer : goal.returns-clause-answer
returns-clause-answer g c =
    checked-all _ _ c.loop-position.invariant.checked (omega (arith, c.requires.0.as_many, c.loop-position-test.false))

pub loop-position-init : goal.loop-position-init
loop-position-init g c =
    let r = g.registry in
    let items = c.in_ok-known.ensures.items_if_clones_equal (only-none _ (λ t h. h)) in
    let ups = c.requires.0 in
    record {
      checked = checked-begins _;
      not_past = λ k is. omega arith;
      no_tie = λ k is. omega arith;
      all_tops = omega (arith, ap length c.as_mut_slice-tops.ensures.value, ap length items, length-replicate {A = Option Root} (length c.args.ups.now) None);
      tops = rw (c.as_mut_slice-tops.ensures.value, items) (no-tops _ (length c.args.ups.now));
      roots = rw c.new-roots.ensures.items (no-roots _);
    }
