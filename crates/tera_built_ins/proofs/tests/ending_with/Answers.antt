use Rattle.std.proofs.Common.{rules, ◌≡◌}
use Rattle.std.specs.Prelude.{eqb}
use Rattle.std.specs.List.{ends_with}
use Rattle.std.proofs.lemmas.Str.Pattern.{ends_text}
use Rattle.tera_built_ins.proofs.tests.ending_with.Goals as goal

-- src/tests.rt
pub returns : goal.returns
returns c =
    let e : c.ends_with.result ≡ ends_with eqb c.in_ok-whole.whole.text.now c.in_ok-part.part.text.now = ends_text _ _ _ c.ends_with.ensures.cases in
    search (rules, e)
