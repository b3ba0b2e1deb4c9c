-- What the pages of this program are.
use Rattle.std.specs.Prelude.{◌++◌, [], false, codes}
use Rattle.tera.specs.Site.{Text, Name}
use Rattle.tera.specs.Val.{Val, text}
use Rattle.tera.specs.Named.{Named, put}
use Rattle.tera.specs.Escape.{escape_html}

-- the page that greets someone of this name
abbrev pub greeting : Text → Text
greeting name = codes "<p>Hello " ++ (escape_html name ++ codes "!</p>")

-- the text of the page that lists words
abbrev pub word_list : Text
word_list =
    codes "<ul>{% for word in message | split(pat=' ') %}<li>{{ word }}</li>{% endfor %}</ul>"

-- what a page is given: this text at this name, not marked safe
abbrev pub context_of : Name → Text → Named Val
context_of name t = put name (text t false) []
