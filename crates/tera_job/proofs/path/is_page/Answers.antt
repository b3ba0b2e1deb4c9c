use Rattle.std.proofs.Common.{rules, tests, ap, not, lit<}
use Rattle.std.proofs.lemmas.Iterator.Search.{any_from_yields_List}
use Rattle.std.proofs.lemmas.Iterator.Splits.{YieldsList-from_str_split}
use Rattle.tera_job.specs.Paths.{is_hidden}
use Rattle.tera_job.proofs.path.is_page.Goals as goal

pub returns : goal.returns
returns c =
    ap not (any_from_yields_List is_hidden _ _ _ c.any.ensures.ran
    (YieldsList-from_str_split 47 c.args.name.now (lit< tt) c.split.ensures.text c.split.ensures.has_more c.split.ensures.pattern)
    (λ x b q k. search (rules, tests)))
