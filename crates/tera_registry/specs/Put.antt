-- A batch that is put among templates, before it is known whether all go together.
-- No public contract speaks of it.
use Rattle.std.specs.Prelude.{◌≡◌, List, Result, Ok, Err}
use Rattle.tera_errors.specs.Site.{Name, Text}
use Rattle.tera_errors.specs.Fault.{Fault}
use Rattle.tera_values.specs.Named.{Named, put_all}
use Rattle.tera_syntax_tree.specs.Tree.{Tree}
use Rattle.tera_syntax_tree.specs.Delimiters.{Delims}
use Rattle.tera_syntax.specs.Reads.{Reads}
use Rattle.tera_meaning.specs.Registry.{Template, Entry}
use Rattle.tera_registry.specs.Batch.{ReadsBatch}

abbrev pub made_of : Name → Text → Result Tree Fault → Result Entry Fault
made_of name text (Ok tree) = Ok (name, record { text = text; tree = tree })
made_of name text (Err fault) = Err fault

-- what may be made of a name and a text
pub record Makes (d : Delims) (name : Name) (text : Text)
    (answer : Result Entry Fault) : Type 0 where
  pub reading : Result Tree Fault
  pub read : Reads name d text reading
  pub is : answer ≡ made_of name text reading

abbrev pub put_among : Named Template → Result (Named Template) Fault
    → Result (Named Template) Fault
put_among old (Ok batch) = Ok (put_all batch old)
put_among old (Err fault) = Err fault

-- what the templates may become
pub record Puts (d : Delims) (old : Named Template) (batch : List (Name × Text))
    (answer : Result (Named Template) Fault) : Type 0 where
  pub reading : Result (Named Template) Fault
  pub read : ReadsBatch d batch reading
  pub is : answer ≡ put_among old reading
