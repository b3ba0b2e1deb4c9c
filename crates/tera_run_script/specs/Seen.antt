-- What the definitions see of the code's types.
use Rattle.std.specs.Prelude.{Bool, Option, List}
use Rattle.std.specs.Borrow.{Bor}
use Rattle.std.specs.Global.{Vec}
use Rattle.std.specs.Option.{option_map}
use Rattle.tera.specs.Report.{Report}
use Rattle.tera.specs.Site.{Site, Text}
use Rattle.tera_run_script.specs.Act.{Act, act_of, acts_of}
use Rattle.tera_run_script.specs.declared.command.Command.{Command}
use Rattle.tera_run_script.specs.declared.script.CommandStart.{CommandStart}
use Rattle.tera_run_script.specs.declared.script.CommandStart.TheVariants as opening
use Rattle.tera_run_script.specs.declared.script.CommandLine.{CommandLine}
use Rattle.tera_run_script.specs.declared.script.CommandLine.TheVariants as head
use Rattle.tera_run_script.specs.declared.script.Script.{Script}
use Rattle.tera_run_script.specs.Script as script
use Rattle.tera_run_script.specs.Words.{words_after}
use Rattle.tera_run_script.specs.Session.{Session, session}
use Rattle.tera_run_script.specs.declared.execute.Session.{Session as Kept}
use Rattle.tera.specs.Lent.{texts_of}
use Rattle.tera.specs.Batch.{pairs_of}
use Rattle.tera.specs.Registry.{Registry}

abbrev pub text_seen : Option (Bor Text) → Option Text
text_seen text = option_map (λ t. t.now) text

abbrev pub texts_seen : Option (Bor Text × Bor Text) → Option (Text × Text)
texts_seen pair = option_map (λ texts. (texts.0.now, texts.1.now)) pair

abbrev pub fields_seen : Option (Vec (Bor Text)) → Option (List Text)
fields_seen fields = option_map (λ texts. texts_of texts.items) fields

abbrev pub component_head_seen : Option (Bor Text × Bool × Option (Bor Text))
    → Option (Text × Bool × List Text)
component_head_seen head = option_map (λ h. (h.0.now, h.1, words_after h.2)) head

abbrev pub site_seen : Option (Bor Report) → Option Site
site_seen report = option_map (λ r. r.now.site) report

abbrev pub act_seen : Option Command → Option Act
act_seen found = option_map act_of found

abbrev pub plain_opening : CommandStart → script.Opening
plain_opening (opening.Text name) = script.text_opening name.now
plain_opening (opening.Safe name) = script.safe_opening name.now
plain_opening (opening.Str autoescape) = script.str_opening autoescape
plain_opening (opening.Template name) = script.template_opening name.now

abbrev pub opening_seen : Option CommandStart → Option script.Opening
opening_seen found = option_map plain_opening found

abbrev pub plain_head : CommandLine → script.Head
plain_head (head.Alone command) = script.alone (act_of command)
plain_head (head.Opens opened) = script.opens (plain_opening opened)

abbrev pub head_seen : Option CommandLine → Option script.Head
head_seen found = option_map plain_head found

abbrev pub script_seen : Script → script.Script
script_seen read = record { acts = acts_of read.commands.items; unreadable = read.unreadable }

abbrev pub session_of : Registry → Kept → Session
session_of r kept = session r kept.context (pairs_of kept.batch.items)
