use Rattle.std.proofs.Common.{rules, ◌≡◌, ◌||◌, ◌==◌, ℕ, List, [], length, codes, false, nat_eq, if◌then◌else◌, sym, ◌∙◌}
use Rattle.std.specs.List.{ends_with}
use Rattle.std.proofs.lemmas.Str.Pattern.{ends_text}
use Rattle.tera_folders.proofs.reading.slash_between.Goals as goal

-- src/reading.rt
pub returns-else-ends_with : goal.returns-else-ends_with
returns-else-ends_with c =
    let a : (length c.args.folder.now == 0) ≡ false = search rules in
    let b : (length c.args.name.now == 0) ≡ false = search rules in
    let s : ends_with nat_eq c.args.folder.now (codes "/") ≡ false =
    sym (ends_text _ (codes "/") c.args.folder.now c.ends_with.ensures.cases) ∙ c.if-ends_with.false in
    sym (λ i. if a i || b i || s i then [] else codes "/")
