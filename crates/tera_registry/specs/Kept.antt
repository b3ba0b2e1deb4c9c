-- What definitions see of templates as they are kept, in the order of their names.
use Rattle.std.specs.Prelude.{List, map, option_map, string_bytes, String}
use Rattle.std.specs.declared.alloc.Global.{Global}
use Rattle.std.specs.declared.rc.Rc.{Rc}
use Rattle.tera_values.specs.Named.{Named}
use Rattle.tera_state.specs.Engine.{Engine}
use Rattle.tera_meaning.specs.Registry.{Template, Entry, Registry, new_registry}
use Rattle.tera_registry.specs.declared.template.Template.{Template as Stored}
use Rattle.tera_registry.specs.TemplateTree.{tree_meant}
pub use Rattle.tera_registry.specs.Order.{Rises}

abbrev pub entry_of : Stored → Entry
entry_of t = (
  string_bytes t.name,
  record {
    text = string_bytes t.text;
    tree = tree_meant (option_map string_bytes t.parent) t.meant;
  },
)

abbrev pub entries_of : List (Rc Stored Global) → Named Template
entries_of ts = map (λ t. entry_of t.value) ts

-- a registry that has these templates and prefixes
abbrev pub seen : List (Rc Stored Global) → List (String Global) → Registry
seen ts ps = record new_registry { templates = entries_of ts; prefixes = map string_bytes ps }

-- one that has this engine as well
abbrev pub seen_by : Engine → List (Rc Stored Global) → List (String Global) → Registry
seen_by engine ts ps = record (seen ts ps) { engine = engine }
