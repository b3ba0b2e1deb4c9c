use Rattle.std.proofs.Common.{option_copied}
use Rattle.tera_filters.proofs.Tagged.{behind-comment, behind-other}
use Rattle.tera_filters.proofs.tags.behind_tag.Goals as goal

pub returns-in-Some-clause-value : goal.returns-in-Some-clause-value
returns-in-Some-clause-value c = behind-comment c.args.text.now c.in-Some.comment.now (option_copied c.text_behind.result) c.in-Some.ensures.cases c.text_behind.ensures.value

pub returns-in-None-clause-value : goal.returns-in-None-clause-value
returns-in-None-clause-value c = behind-other c.args.text.now (option_copied c.text_behind-in-None.result) c.in-None.ensures.cases c.text_behind-in-None.ensures.value
