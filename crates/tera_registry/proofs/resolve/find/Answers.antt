use Rattle.std.proofs.Common.{◌≡◌, ◌<◌, ◌++◌, ℕ, List, length, get_or, Some, Ordering, Global, sym, ◌∙◌, arith, slice_get, string_bytes}
use Rattle.std.specs.declared.rc.Rc.{Rc}
use Rattle.tera_errors.specs.Site.{Name}
use Rattle.tera_values.specs.Named.{name_cmp}
use Rattle.tera_registry.specs.declared.template.Template.{Template as Stored}
use Rattle.tera_registry.specs.Kept.{entry_of, entries_of}
use Rattle.tera_registry.proofs.Kept.{entry-at-position, length-entries}
use Rattle.tera_registry.proofs.Placed.{go-right, go-left, entry-found, entry-none}
use Rattle.tera_registry.proofs.resolve.find.Goals as goal

-- the template in the middle, and how its name stands to one in two pieces, which is asked of their bytes
middle : (ts : List (Rc Stored Global)) (m : ℕ) (t : Rc Stored Global) (u : Stored) (front back n f b : Name) (o : Ordering) → m < length ts → t ≡ get_or ts m t → u ≡ t.value → n ≡ string_bytes u.name → f ≡ front → b ≡ back → o ≡ name_cmp n (f ++ b) → (slice_get (entries_of ts) m ≡ Some (entry_of t.value)) × (name_cmp (string_bytes t.value.name) (front ++ back) ≡ o)
middle ts m t u front back n f b o lt is value n_is f_is b_is e = (
  entry-at-position ts m t lt is,
  rw (← value, ← n_is, ← f_is, ← b_is) (sym e),
)

pub halves-preserved-in-Less : goal.halves-preserved-in-Less
halves-preserved-in-Less c =
    let i = c.halves.invariant in
    let at = middle c.args.templates.now _ _ _ c.args.front.now c.args.back.now _ _ _ _ (omega (arith, i.high_len, c.halves-test.true)) c.index-templates-middle.is c.deref.ensures c.as_bytes.ensures.value c.as_bytes-in-halves.ensures.value c.as_bytes-in-halves-2.ensures.value c.in-Less.ensures in
    record {
      low_high = omega (arith, c.halves-test.true);
      high_len = i.high_len;
      after = go-right _ _ _ _ c.requires at.0 at.1;
      before = i.before;
    }

pub returns-in-Equal : goal.returns-in-Equal
returns-in-Equal c =
    let i = c.halves.invariant in
    let at = middle c.args.templates.now _ _ _ c.args.front.now c.args.back.now _ _ _ _ (omega (arith, i.high_len, c.halves-test.true)) c.index-templates-middle.is c.deref.ensures c.as_bytes.ensures.value c.as_bytes-in-halves.ensures.value c.as_bytes-in-halves-2.ensures.value c.in-Equal.ensures in
    (entry-found _ _ _ _ c.requires at.0 at.1 ∙ sym at.0, omega (arith, length-entries c.args.templates.now, i.high_len, c.halves-test.true))

pub halves-preserved : goal.halves-preserved
halves-preserved c =
    let i = c.halves.invariant in
    let at = middle c.args.templates.now _ _ _ c.args.front.now c.args.back.now _ _ _ _ (omega (arith, i.high_len, c.halves-test.true)) c.index-templates-middle.is c.deref.ensures c.as_bytes.ensures.value c.as_bytes-in-halves.ensures.value c.as_bytes-in-halves-2.ensures.value c.in-Greater.ensures in
    record {
      low_high = omega (arith, c.halves-test.true);
      high_len = omega (arith, i.high_len, c.halves-test.true);
      after = i.after;
      before = go-left _ _ _ _ c.requires at.0 at.1;
    }

pub returns : goal.returns
returns c =
    let i = c.halves.invariant in
    let same : c.halves.low ≡ c.halves.high = omega (arith, i.low_high, c.halves-test.false) in
    (entry-none _ _ c.halves.low i.after (rw same i.before), omega (arith, length-entries c.args.templates.now, i.low_high, i.high_len), i.after, rw same i.before)
