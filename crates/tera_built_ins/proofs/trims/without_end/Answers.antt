use Rattle.std.proofs.Common.{sym, ap, ◌∙◌, option_map}
use Rattle.tera_values.specs.Alphabet.{plain}
use Rattle.tera_built_ins.specs.Reading.{given_of}
use Rattle.tera_built_ins.specs.Trims as spec
use Rattle.tera_built_ins.proofs.Trimming.{trim_end-is}
use Rattle.tera_built_ins.proofs.trims.without_end.Goals as goal

-- src/trims.rt
pub returns-in-Some : goal.returns-in-Some
returns-in-Some c =
    trim_end-is c.in-Some.pattern.text.now c.args.text.now _ c.trim_end_matches.ensures.matches
    ∙ ap (λ o. spec.off_end plain (option_map given_of o) c.args.text.now) (sym c.in-Some.is)
