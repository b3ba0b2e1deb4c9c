-- What commands ask, as plain data.
use Rattle.std.specs.Prelude.{Bool, true, false, List, map}
use Rattle.tera.specs.Site.{Name, Text}
use Rattle.tera.specs.Val.{Val, int, text}
use Rattle.tera.specs.Lent.{texts_of}
use Rattle.tera_run_script.specs.declared.command.Command.{Command}
use Rattle.tera_run_script.specs.declared.command.Command.TheVariants as command

pub data Act : Type 0 where
  -- put the value into the context under the name
  put_value : (name : Name) (value : Val) → Act
  -- render the text beside the registry
  render_text : (autoescape : Bool) (body : Text) → Act
  -- let the template of this name wait for the next batch
  join_batch : (name : Name) (body : Text) → Act
  -- add the templates that wait, all at once
  add_batch : Act
  -- autoescape the templates whose names end in one of these
  set_suffixes : (suffixes : List Text) → Act
  -- look for a name that is no template behind these, one after another
  set_prefixes : (prefixes : List Text) → Act
  -- render the template of this name
  render_named : (name : Name) → Act
  -- render the block of this name in it
  render_block_named : (name : Name) (block : Name) → Act
  -- render the component of this name, where entries of the context with these names are implicits,
  -- and all others arguments
  render_component_named : (name : Name) (autoescape : Bool) (implicits : List Name) → Act
  -- render each component by itself
  preview_components : (autoescape : Bool) → Act

abbrev pub act_of : Command → Act
act_of (command.Text name body) = put_value name.now (text body.now false)
act_of (command.Safe name body) = put_value name.now (text body.now true)
act_of (command.Int name number) = put_value name.now (int number)
act_of (command.Str autoescape body) = render_text autoescape body.now
act_of (command.Template name body) = join_batch name.now body.now
act_of command.Add = add_batch
act_of (command.Suffix suffixes) = set_suffixes (texts_of suffixes.items)
act_of (command.Prefix prefixes) = set_prefixes (texts_of prefixes.items)
act_of (command.Render name) = render_named name.now
act_of (command.Block name block) = render_block_named name.now block.now
act_of (command.Component name autoescape implicits) =
    render_component_named name.now autoescape (texts_of implicits.items)
act_of (command.Preview autoescape) = preview_components autoescape

abbrev pub acts_of : List Command → List Act
acts_of commands = map act_of commands
