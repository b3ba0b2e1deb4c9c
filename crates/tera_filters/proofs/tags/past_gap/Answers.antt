use Rattle.tera_filters.proofs.Tagged.{gap-some, gap-none}
use Rattle.tera_filters.proofs.tags.past_gap.Goals as goal

pub returns-then-starts_with-clause-value : goal.returns-then-starts_with-clause-value
returns-then-starts_with-clause-value c = gap-some c.args.text.now c.trim_ascii_start-trimmed.result.now c.trim_ascii_start-trimmed.ensures.value c.if-starts_with.ensures.cases

pub returns-else-starts_with-clause-value : goal.returns-else-starts_with-clause-value
returns-else-starts_with-clause-value c = gap-none c.args.text.now c.trim_ascii_start-trimmed.result.now c.trim_ascii_start-trimmed.ensures.value c.if-starts_with.ensures.cases
