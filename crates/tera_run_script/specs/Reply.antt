-- What commands are answered, as plain data, and how it is written.
use Rattle.std.specs.Prelude.{List, [], ◌++◌, codes, decimal, Option, Some, None, Result, Ok, Err, String, string_bytes, map}
use Rattle.std.specs.Global.{Global}
use Rattle.tera.specs.Site.{Site, Text}
use Rattle.tera.specs.Fault.{syntax_error, message, rendering_error, circular_extend, circular_include, missing_parent, template_not_found, component_not_found, invalid_argument, missing_argument}
use Rattle.tera.specs.Answer.{SeenError}
use Rattle.tera_run_script.specs.declared.reply.Reply.{Reply}
use Rattle.tera_run_script.specs.declared.reply.Reply.TheVariants as reply

pub data Replied : Type 0 where
  done : Replied
  says : (text : Text) → Replied
  refuses : (error : SeenError) → Replied

abbrev pub reply_seen : Reply → Replied
reply_seen reply.Done = done
reply_seen (reply.Text text) = says (string_bytes text)
reply_seen (reply.Fault error) = refuses error

-- what is told of a call that has nothing to tell
abbrev pub done_seen : Result (Unit {0}) SeenError → Replied
done_seen (Ok u) = done
done_seen (Err error) = refuses error

-- what is told of a call that answers a text
abbrev pub rendered_seen : Result (String Global) SeenError → Replied
rendered_seen (Ok text) = says (string_bytes text)
rendered_seen (Err error) = refuses error

abbrev pub replies_seen : List Reply → List Replied
replies_seen replies = map reply_seen replies

-- the word for a kind of fault
abbrev pub word_of : SeenError → Text
word_of None = codes "OutOfMemory"
word_of (Some (syntax_error site)) = codes "SyntaxError"
word_of (Some message) = codes "Message"
word_of (Some (rendering_error site)) = codes "RenderingError"
word_of (Some circular_extend) = codes "CircularExtend"
word_of (Some circular_include) = codes "CircularInclude"
word_of (Some missing_parent) = codes "MissingParent"
word_of (Some template_not_found) = codes "TemplateNotFound"
word_of (Some component_not_found) = codes "ComponentNotFound"
word_of (Some invalid_argument) = codes "InvalidArgument"
word_of (Some missing_argument) = codes "MissingArgument"

-- where it is, for the kinds that have a position
abbrev pub site_of : SeenError → Option Site
site_of None = None
site_of (Some (syntax_error site)) = Some site
site_of (Some message) = None
site_of (Some (rendering_error site)) = Some site
site_of (Some circular_extend) = None
site_of (Some circular_include) = None
site_of (Some missing_parent) = None
site_of (Some template_not_found) = None
site_of (Some component_not_found) = None
site_of (Some invalid_argument) = None
site_of (Some missing_argument) = None

-- file, start and end
abbrev pub site_text : Option Site → Text
site_text None = []
site_text (Some site) =
    codes " " ++ site.file ++ codes " " ++ decimal site.span.start ++ codes " "
    ++ decimal site.span.end

abbrev pub fault_line : SeenError → Text
fault_line error = codes "fault " ++ word_of error ++ site_text (site_of error)

-- a reply as it is written
abbrev pub line_of : Replied → Text
line_of done = codes "ok\n"
line_of (says text) = text ++ codes "\n"
line_of (refuses error) = fault_line error ++ codes "\n"
