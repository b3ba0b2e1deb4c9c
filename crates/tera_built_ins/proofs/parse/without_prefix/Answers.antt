use Rattle.std.proofs.Common.{ℕ, ap, sym, ◌∙◌, codes}
use Rattle.tera_values.specs.Alphabet.{plain}
use Rattle.tera_built_ins.specs.Pieces.{trimmed_start}
use Rattle.tera_built_ins.specs.Parse as spec
use Rattle.tera_built_ins.proofs.Trimming.{trim_start-is}
use Rattle.tera_built_ins.proofs.parse.without_prefix.Goals as goal

-- src/parse.rt
pub returns-in-2 : goal.returns-in-2
returns-in-2 c =
    trim_start-is (codes "0b") c.args.text.now _ c.trim_start_matches.ensures.matches
    ∙ ap (λ (base : ℕ). trimmed_start plain.code (spec.prefix base) c.args.text.now) (sym c.in-2.is)

pub returns-in-8 : goal.returns-in-8
returns-in-8 c =
    trim_start-is (codes "0o") c.args.text.now _ c.trim_start_matches-in-8.ensures.matches
    ∙ ap (λ (base : ℕ). trimmed_start plain.code (spec.prefix base) c.args.text.now) (sym c.in-8.is)

pub returns-in-16 : goal.returns-in-16
returns-in-16 c =
    trim_start-is (codes "0x") c.args.text.now _ c.trim_start_matches-in-16.ensures.matches
    ∙ ap (λ (base : ℕ). trimmed_start plain.code (spec.prefix base) c.args.text.now) (sym c.in-16.is)
