use Rattle.std.proofs.Common.{◌∙◌}
use Rattle.std.proofs.lemmas.Result.{IfOk-weaker}
use Rattle.regex.specs.Patterns.{SameCaptures}
use Rattle.regex.specs.Strings.{IsReadFrom, matcher_pattern}
use Rattle.tera_filters.proofs.Matching.{replaced_alike}
use Rattle.tera_filters.proofs.patterns.replace_matches.Goals as goal

pub returns : goal.returns
returns c =
    IfOk-weaker c.replace_all.result _ _ (λ s written. λ p compiles.
    let read : IsReadFrom p.1 c.args.rep.now c.in_ok-template.template =
    rw (c.capture_names.ensures, compiles.1) at c.in_ok-template.ensures.read in
    let same : SameCaptures (matcher_pattern c.in_ok-matcher.matcher) p.0 =
    rw c.in_ok-matcher.ensures.pattern compiles.0 in
    written.read p.1 c.args.rep.now read
    ∙ replaced_alike p.1 c.args.rep.now c.args.text.now same (λ k. (c.type_inv.text k).fits))
    c.replace_all.ensures.written
