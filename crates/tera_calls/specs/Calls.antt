-- What calls make of a registry.
use Rattle.std.specs.Prelude.{◌≡◌, List, [], ◌∷◌, Result, Ok}
use Rattle.tera_errors.specs.Site.{Name}
use Rattle.tera_errors.specs.Answer.{SeenError}
use Rattle.tera_syntax_tree.specs.Delimiters.{delimiters_of}
use Rattle.tera_values.specs.Escape.{escape_html}
use Rattle.tera_values.specs.Val.{Val}
use Rattle.tera_values.specs.Named.{Named, put}
use Rattle.tera_state.specs.Engine.{with_escape, with_filter, with_test, with_function}
use Rattle.tera_state.specs.Kept.{Meanings, engine_of}
use Rattle.tera_meaning.specs.Registry.{Registry}
use Rattle.tera_registry.specs.Batch.{Adds, ConfiguresOneOf, pairs_of}
use Rattle.tera.specs.Configuring.{Configures, with_delimiters, with_prefixes, with_suffixes}
use Rattle.tera.specs.Lent.{texts_of}
use Rattle.tera.specs.Registering.{with_engine, MovesFrom}
use Rattle.tera_calls.specs.declared.call.CallOver.{CallOver}
use Rattle.tera_calls.specs.declared.call.CallOver.TheVariants.{SetDelimiters, SetFallbackPrefixes, AutoescapeOn, InsertGlobal, SetGlobal, AddRawTemplate, AddRawTemplates, SetEscapeFn, ResetEscapeFn, RegisterFilter, RegisterTest, RegisterFunction, RegisterFrom}

-- the registry with this value at this name of the global context
abbrev pub with_global : Name → Val → Registry → Registry
with_global name value r = record r { global = put name value r.global }

-- the registry with another global context
abbrev pub with_context : Named Val → Registry → Registry
with_context context r = record r { global = context }

-- what a call answers that has nothing to tell
abbrev pub Answer : Type 0
Answer = Result (Unit {0}) SeenError

-- where the objects of calls mean this
module _ {E F T G : Type 0} (objects : Meanings E F T G) where
  -- How a call ends: with the registry that it makes of the one before, or with an error, for its
  -- fault or for want of memory, and the one before. Only the places of syntax errors are left
  -- open, and how far `register_from` came before memory ran out.
  abbrev pub Ends : CallOver E F T G → Answer → Registry → Registry → Type 0
  Ends (SetDelimiters delimiters) answer now next =
      Configures answer (with_delimiters (delimiters_of delimiters) now) now next
  Ends (SetFallbackPrefixes prefixes) answer now next =
      Configures answer (with_prefixes (texts_of prefixes.now) now) now next
  Ends (AutoescapeOn suffixes) answer now next =
      Configures answer (Ok (with_suffixes (texts_of suffixes.now) now)) now next
  Ends (InsertGlobal name value) answer now next =
      Configures answer (Ok (with_global name.now value now)) now next
  Ends (SetGlobal context) answer now next =
      Configures answer (Ok (with_context context now)) now next
  Ends (AddRawTemplate name content) answer now next =
      ConfiguresOneOf answer (Adds now ((name.now, content.now) ∷ [])) now next
  Ends (AddRawTemplates templates) answer now next =
      ConfiguresOneOf answer (Adds now (pairs_of templates.now)) now next
  Ends (SetEscapeFn escape) answer now next =
      Configures answer (Ok (with_engine (with_escape (objects.escape escape)) now)) now next
  Ends ResetEscapeFn answer now next =
      Configures answer (Ok (with_engine (with_escape escape_html) now)) now next
  Ends (RegisterFilter name filter) answer now next =
      Configures answer
      (Ok (with_engine (with_filter name.now (objects.filter filter)) now)) now next
  Ends (RegisterTest name test) answer now next =
      Configures answer (Ok (with_engine (with_test name.now (objects.test test)) now)) now next
  Ends (RegisterFunction name function) answer now next =
      Configures answer
      (Ok (with_engine (with_function name.now (objects.function function)) now)) now next
  Ends (RegisterFrom other) answer now next =
      MovesFrom answer (engine_of objects other.objects) now next

  -- Calls one after another, with their answers, lead from one registry to another.
  abbrev pub Leads : Registry → List (CallOver E F T G) → List Answer → Registry → Type 0
  Leads now [] [] last = now ≡ last
  Leads now [] (answer ∷ answers) last = ⊥
  Leads now (call ∷ calls) [] last = ⊥
  Leads now (call ∷ calls) (answer ∷ answers) last =
      (next : Registry) × Ends call answer now next × Leads next calls answers last
