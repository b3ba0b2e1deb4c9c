use Rattle.tera_filters.proofs.Tagged.{tag-closed, tag-unclosed, no-tag}
use Rattle.tera_filters.proofs.tags.split_at_tag.Goals as goal

pub returns-in-Some-behind_tag-clause-cases : goal.returns-in-Some-behind_tag-clause-cases
returns-in-Some-behind_tag-clause-cases c =
    tag-closed c.args.text.now c.in-Some.before.now c.in-Some.tag.now c.in-Some-behind_tag.rest.now c.in-Some.ensures.cases c.in-Some-behind_tag.ensures.value

pub returns-in-None-behind_tag-clause-cases : goal.returns-in-None-behind_tag-clause-cases
returns-in-None-behind_tag-clause-cases c =
    tag-unclosed c.args.text.now c.in-Some.before.now c.in-Some.tag.now c.in-Some.ensures.cases c.in-None-behind_tag.ensures.value

pub returns-in-None-clause-cases : goal.returns-in-None-clause-cases
returns-in-None-clause-cases c = no-tag c.args.text.now c.in-None.ensures.cases
