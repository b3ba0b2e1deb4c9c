use Rattle.tera_syntax_tree.specs.Delimiters.{delimiters_of}
use Rattle.tera_syntax_tokens.proofs.Openings.{filled}
use Rattle.tera_syntax_tokens.proofs.cut.may_open.Goals as goal

pub bounds-as_bytes-0 : goal.bounds-as_bytes-0
bounds-as_bytes-0 c = rw c.as_bytes.ensures.value (filled (delimiters_of c.args.delimiters.now) c.requires.usable).variable_start

pub bounds-as_bytes-0-else-byte-as_bytes : goal.bounds-as_bytes-0-else-byte-as_bytes
bounds-as_bytes-0-else-byte-as_bytes c = rw c.as_bytes-else-byte-as_bytes.ensures.value (filled (delimiters_of c.args.delimiters.now) c.requires.usable).block_start

pub bounds-as_bytes-0-else-byte-as_bytes-2 : goal.bounds-as_bytes-0-else-byte-as_bytes-2
bounds-as_bytes-0-else-byte-as_bytes-2 c = rw c.as_bytes-else-byte-as_bytes-2.ensures.value (filled (delimiters_of c.args.delimiters.now) c.requires.usable).comment_start
