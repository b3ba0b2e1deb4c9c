-- What the configuring calls make of a registry.
use Rattle.std.specs.Prelude.{◌≡◌, ◌&&◌, cond, List, Result, Ok, Err}
use Rattle.tera_errors.specs.Fault.{Fault, message}
use Rattle.tera_errors.specs.Site.{Text}
use Rattle.tera_errors.specs.Answer.{SeenError, Says}
use Rattle.tera_syntax_tree.specs.Delimiters.{Delims, accepted}
use Rattle.tera_meaning.specs.Registry.{Registry}
use Rattle.tera_registry.specs.Templates.{is_empty}

-- how a configuring call ends: with the registry that is meant,
-- or with an error and the one of before
abbrev pub Configures : Result (Unit {0}) SeenError → Result Registry Fault
    → Registry → Registry → Type 0
Configures (Ok u) meant old new = meant ≡ Ok new
Configures (Err e) meant old new = Says e meant × (new ≡ old)

-- other delimiters, where no template is there yet and they can be told apart
abbrev pub with_delimiters : Delims → Registry → Result Registry Fault
with_delimiters d r =
    cond (is_empty r.templates && accepted d) (Ok (record r { delimiters = d })) (Err message)

-- other prefixes, where no template is there yet
abbrev pub with_prefixes : List Text → Registry → Result Registry Fault
with_prefixes prefixes r =
    cond (is_empty r.templates) (Ok (record r { prefixes = prefixes })) (Err message)

abbrev pub with_suffixes : List Text → Registry → Registry
with_suffixes suffixes r = record r { suffixes = suffixes }
