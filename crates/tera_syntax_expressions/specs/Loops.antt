-- What a loop tells of itself.
use Rattle.std.specs.Prelude.{◌&&◌, bytes_eq, codes, Option, Some, None, if◌then◌else◌}
use Rattle.tera_errors.specs.Site.{Text, Name}
use Rattle.tera_syntax_tokens.specs.declared.token.Kind.TheVariants as k
use Rattle.tera_syntax_tokens.specs.Input.{Input, kind, text, next, same}

-- the name under which a word behind `loop.` is looked up
abbrev pub loop_word : Text → Option Name
loop_word word =
    if bytes_eq word (codes "index") then Some (codes "__tera_loop_index") else (
    if bytes_eq word (codes "index0") then Some (codes "__tera_loop_index0") else (
    if bytes_eq word (codes "first") then Some (codes "__tera_loop_first") else (
    if bytes_eq word (codes "last") then Some (codes "__tera_loop_last") else (
    if bytes_eq word (codes "length") then Some (codes "__tera_loop_length") else None))))

-- inside a loop's body `loop`, a dot and one of five words are one name
unfoldable pub loop_name : Input → Option Name
loop_name i =
    if (i.in_loop && bytes_eq (text i) (codes "loop")) && same k.Dot (kind (next i))
    then loop_word (text (next (next i))) else None

-- the position behind these three
abbrev pub behind_loop : Input → Input
behind_loop i = next (next (next i))
