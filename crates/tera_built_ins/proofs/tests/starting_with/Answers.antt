use Rattle.std.proofs.Common.{rules, ◌≡◌}
use Rattle.std.specs.Prelude.{eqb}
use Rattle.std.specs.List.{starts_with}
use Rattle.std.proofs.lemmas.Str.Pattern.{starts_text}
use Rattle.tera_built_ins.proofs.tests.starting_with.Goals as goal

-- src/tests.rt
pub returns : goal.returns
returns c =
    let e : c.starts_with.result ≡ starts_with eqb c.in_ok-whole.whole.text.now c.in_ok-part.part.text.now = starts_text _ _ _ c.starts_with.ensures.cases in
    search (rules, e)
