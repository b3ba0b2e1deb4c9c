use Rattle.std.proofs.Common.{◌≡◌, refl, sym, ap, ◌∙◌, ◌∷◌, [], drop, string_bytes, is_some, ◌||◌}
use Rattle.tera_errors.specs.Site.{Name}
use Rattle.tera_values.specs.Named.{at_name}
use Rattle.tera_state.specs.Table.{listed, moved}
use Rattle.tera_state.proofs.Listed.{by_bytes, listed-insert, GoneThrough, all-moved, step-old, step-new}
use Rattle.tera_state.proofs.objects.table.ObjectTable.move_from.Given.{Over}
use Rattle.tera_state.proofs.objects.table.ObjectTable.move_from.Goals.{After-stands_for}
use Rattle.tera_state.proofs.objects.table.ObjectTable.move_from.Goals as goal

pub loop-name-init : goal.loop-name-init
loop-name-init g c =
    let same : c.into_iter-name-iterator.result ≡ c.args.other.entries.entries = c.into_iter-name-iterator.ensures.into_iter_gives.0 in
    (tt, tt, (0, ap by_bytes same, refl))

-- the next of the others
turn : (g : Over) (c : After-stands_for g) → GoneThrough g.S.BuiltInKind.stands (listed c.args.other) (listed c.args.self.now) ((string_bytes c.in-Some.name, c.in-Some.thing) ∷ by_bytes c.next.new.self) (listed c.loop-name.self)
turn g c =
    let so_far = c.loop-name.invariant.2 in
    (so_far.0, ap by_bytes (sym c.in-Some.ensures.steps) ∙ so_far.1, so_far.2)

-- whether its name stands for something
there : (g : Over) (c : After-stands_for g) → (g.S.BuiltInKind.stands (string_bytes c.in-Some.name) || is_some (at_name (string_bytes c.in-Some.name) (listed c.loop-name.self))) ≡ c.stands_for.result
there g c =
    ap (λ (n : Name). g.S.BuiltInKind.stands n || is_some (at_name n (listed c.loop-name.self))) (sym c.as_str.ensures.value) ∙ sym c.stands_for.ensures

pub loop-name-preserved : goal.loop-name-preserved
loop-name-preserved g c =
    let at = (goal.at.loop-name-preserved g c).After-stands_for in
    (tt, tt, step-old g.S.BuiltInKind.stands (turn g at) (there g at ∙ c.if-not-stands_for.false))

pub loop-name-preserved-in_ok-insert : goal.loop-name-preserved-in_ok-insert
loop-name-preserved-in_ok-insert g c =
    let at = (goal.at.loop-name-preserved-in_ok-insert g c).After-stands_for in
    let put_in = ap by_bytes c.in_ok-insert.ensures.entries ∙ listed-insert c.loop-name.self.entries.entries c.in-Some.name c.in-Some.thing in
    (tt, tt, step-new g.S.BuiltInKind.stands (turn g at) _ (there g at ∙ c.if-not-stands_for.true) put_in)

pub loop-name-preserved-in_ok-insert-2 : goal.loop-name-preserved-in_ok-insert-2
loop-name-preserved-in_ok-insert-2 g c =
    let at = (goal.at.loop-name-preserved-in_ok-insert-2 g c).After-stands_for in
    let put_in = ap by_bytes c.in_ok-insert.ensures.entries ∙ listed-insert c.loop-name.self.entries.entries c.in-Some.name c.in-Some.thing in
    (tt, tt, step-new g.S.BuiltInKind.stands (turn g at) _ (there g at ∙ c.if-not-stands_for.true) put_in)

pub returns-clause-ok : goal.returns-clause-ok
returns-clause-ok g c =
    let os = listed c.args.other in
    let k = c.loop-name.invariant.2.0 in
    let ended : [] ≡ drop k os = ap by_bytes (sym c.in-None.ensures.steps.0) ∙ c.loop-name.invariant.2.1 in
    c.loop-name.invariant.2.2 ∙ ap (moved g.S.BuiltInKind.stands (listed c.args.self.now)) (all-moved g.S.BuiltInKind.stands os k ended)
