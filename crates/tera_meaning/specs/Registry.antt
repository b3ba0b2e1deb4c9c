-- What an engine holds.
use Rattle.std.specs.Prelude.{[], ◌∷◌, List, codes}
use Rattle.tera_values.specs.Val.{Val}
use Rattle.tera_values.specs.Named.{Named}
use Rattle.tera_errors.specs.Site.{Name, Text}
use Rattle.tera_syntax_tree.specs.Tree.{Tree}
use Rattle.tera_syntax_tree.specs.Delimiters.{Delims, standard}
use Rattle.tera_state.specs.Engine.{Engine, standard_engine}

-- a template: its text, and the tree that the text spells
pub record Template : Type 0 where
  pub text : Text
  pub tree : Tree

-- a template with its name
abbrev pub Entry : Type 0
Entry = Name × Template

-- templates by name; before which a name is looked up that no template has; the ends of names of
-- templates that escape; what texts are read by; the global context and the engine
pub record Registry : Type 0 where
  pub templates : Named Template
  pub prefixes : List Text
  pub suffixes : List Text
  pub delimiters : Delims
  pub global : Named Val
  pub engine : Engine

-- templates of these names escape, where nothing else was said
abbrev pub standard_suffixes : List Text
standard_suffixes = codes ".html" ∷ codes ".htm" ∷ codes ".xml" ∷ []

-- that of an engine to which nothing was said yet
abbrev pub new_registry : Registry
new_registry = record {
  templates = [];
  prefixes = [];
  suffixes = standard_suffixes;
  delimiters = standard;
  global = [];
  engine = standard_engine;
}
