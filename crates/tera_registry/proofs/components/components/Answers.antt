use Rattle.std.proofs.Common.{length, refl}
use Rattle.std.proofs.lemmas.Option.{slice_get_read}
use Rattle.tera_syntax_tree.specs.View.{defined_of}
use Rattle.tera_registry.specs.Components.{kept_of, kept_as}
use Rattle.tera_registry.proofs.Gathering.{keep-on}
use Rattle.tera_registry.proofs.components.components.Goals as goal

pub loop-defined-preserved : goal.loop-defined-preserved
loop-defined-preserved c =
    let ds = c.args.definitions.now in
    let i = c.loop-defined.defined-index in
    let at = slice_get_read ds (length ds) i c.defined-item.result refl c.loop-defined-test.true c.defined-item.is in
    keep-on defined_of ds i c.defined-item.result at (kept_as c.args.file.now) kept_of c.loop-defined.kept.items _ _ _ c.in_ok-push.ensures.items c.in_ok-kept_component.ensures.ok c.loop-defined.invariant
