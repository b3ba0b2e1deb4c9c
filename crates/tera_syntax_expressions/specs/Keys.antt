-- Keys that are written out in a map.
use Rattle.std.specs.Prelude.{true, false, Option, Some, None, option_map}
use Rattle.tera_syntax_tree.specs.Tree.{Key, BoolKey, IntKey, TextKey}
use Rattle.tera_syntax_tokens.specs.declared.token.Kind.{Kind}
use Rattle.tera_syntax_tokens.specs.declared.token.Kind.TheVariants as k
use Rattle.tera_errors.specs.Site.{Text}
use Rattle.tera_syntax_tokens.specs.Input.{Input, kind, text}
use Rattle.tera_syntax_tokens.specs.Literal.{integer, literal}

abbrev pub key_by : Kind → Text → Option Key
key_by k.Text word = option_map TextKey (literal word)
key_by k.Int word = option_map IntKey (integer word)
key_by k.True word = Some (BoolKey true)
key_by k.False word = Some (BoolKey false)
key_by kind word = None

-- the key that the next token is: a text, an integer, true or false
unfoldable pub key_at : Input → Option Key
key_at i = key_by (kind i) (text i)
