use Rattle.std.proofs.Common.{ap, ◌∙◌, refl}
use Rattle.tera_syntax_tree.specs.View.{entries_of, literal_option}
use Rattle.tera_syntax_tokens.specs.Takes.{input}
use Rattle.tera_syntax_expressions.specs.Parts.{deep_of}
use Rattle.tera_syntax_expressions.proofs.Rounds.{entries_of-push}
use Rattle.tera_syntax_expressions.proofs.reader.Reader.entry.Goals as goal

pub returns : goal.returns
returns g c = (
  literal_option c.in-Ok.key,
  input c.entry_key.new.tokens,
  deep_of c.in-Ok-sub.x,
  c.in-Ok.ensures,
  c.in-Ok-sub.ensures,
  refl,
  ap entries_of c.in_ok-push.ensures.items ∙ entries_of-push c.args.found.now.items _,
)
