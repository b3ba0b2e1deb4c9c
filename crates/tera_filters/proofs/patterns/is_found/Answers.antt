use Rattle.std.proofs.Common.{true}
use Rattle.regex.proofs.ForCallers.{is_match_alike}
use Rattle.tera_filters.proofs.patterns.is_found.Goals as goal

pub returns : goal.returns
returns c = λ p compiles. rw (c.is_match.ensures.found, c.in_ok-matcher.ensures.pattern)
    (is_match_alike compiles.0 c.args.text.now (λ k. (c.type_inv.text k).fits) true 0)
