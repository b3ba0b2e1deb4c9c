use Rattle.std.proofs.Common.{◌≡◌, false, nat_eq, refl, sym, ◌∙◌}
use Rattle.std.specs.Prelude.{codes}
use Rattle.std.specs.List.{ends_with}
use Rattle.std.proofs.lemmas.Str.Pattern.{ends_text}
use Rattle.tera_job.proofs.datum.DataForm.of_file.Goals as goal

pub returns-else-ends_with-3 : goal.returns-else-ends_with-3
returns-else-ends_with-3 c =
    let path = c.args.path.now in
    let json : ends_with nat_eq path (codes ".json") ≡ false = sym (ends_text c.ends_with.result (codes ".json") path c.ends_with.ensures.cases) ∙ c.if-ends_with.false in
    let toml : ends_with nat_eq path (codes ".toml") ≡ false = sym (ends_text c.ends_with-else-ends_with.result (codes ".toml") path c.ends_with-else-ends_with.ensures.cases) ∙ c.if-ends_with-2.false in
    let csv : ends_with nat_eq path (codes ".csv") ≡ false = sym (ends_text c.ends_with-else-ends_with-2.result (codes ".csv") path c.ends_with-else-ends_with-2.ensures.cases) ∙ c.if-ends_with-3.false in
    rw (json, toml, csv) refl
