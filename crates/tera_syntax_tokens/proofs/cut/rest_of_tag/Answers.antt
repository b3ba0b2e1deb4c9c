use Rattle.std.proofs.Common.{rules}
use Rattle.tera_syntax_tree.specs.Delimiters.{delimiters_of}
use Rattle.tera_syntax_tokens.proofs.Openings.{filled}
use Rattle.tera_syntax_tokens.proofs.cut.rest_of_tag.Goals as goal

pub cut_inside-requires-clause-some : goal.cut_inside-requires-clause-some
cut_inside-requires-clause-some c = rw c.as_str.ensures.value (filled (delimiters_of c.args.delimiters.now) c.requires.usable).variable_end

pub comment-requires-clause-some : goal.comment-requires-clause-some
comment-requires-clause-some c = rw c.as_str-in-Comment.ensures.value (filled (delimiters_of c.args.delimiters.now) c.requires.usable).comment_end

pub returns-in-Comment-clause-value : goal.returns-in-Comment-clause-value
returns-in-Comment-clause-value c = let h = c.comment.ensures.value c.args.tokens.now.items in search rules
