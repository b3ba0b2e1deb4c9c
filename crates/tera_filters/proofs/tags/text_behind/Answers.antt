use Rattle.tera_filters.proofs.Tagged.{behind-found, behind-none}
use Rattle.tera_filters.proofs.tags.text_behind.Goals as goal

pub returns-in-Some-clause-value : goal.returns-in-Some-clause-value
returns-in-Some-clause-value c = behind-found c.args.pattern.now c.args.text.now c.in-Some.field-0-0.now c.in-Some.rest.now c.requires c.in-Some.ensures.cases

pub returns-in-None-clause-value : goal.returns-in-None-clause-value
returns-in-None-clause-value c = behind-none c.args.pattern.now c.args.text.now c.requires c.in-None.ensures.cases
