-- What a value of TOML is for a template.
use Rattle.std.specs.Prelude.{◌≡◌, List, [], ◌∷◌, false, Float, Result, Ok, Err}
use Rattle.std.specs.Option.{ok_or}
use Rattle.toml.specs.Data.{Data, string, integer, float, boolean, datetime, array as list, table, Items, no_items, item, Members, no_members, member}
use Rattle.toml.specs.Parse.{parse_document}
use Rattle.toml_datetime.specs.Text.{datetime_text}
use Rattle.toml_writer.specs.Text.{IsFloatText}
use Rattle.tera_errors.specs.Prelude.{Fault, message, Text}
use Rattle.tera_value_types.specs.Val.{Val, bool, int, text, array, map, vals, entries}
use Rattle.tera_values.specs.Named.{Named, put_all, text_keys}
use Rattle.tera_data.specs.Values.{once, Follows}
use Rattle.tera_data.specs.Numbers.{of_other}
use Rattle.tera_data.specs.declared.number.Floats.{Floats}

-- a float: as any number that is no integer, by a text that reads back as the float
abbrev pub OfFloat : Floats → Float → Result Val Fault → Type 0
OfFloat f x r = (t : Text) × IsFloatText x t × (r ≡ of_other f t)

abbrev mutual
  pub OfToml : Floats → Data → Result Val Fault → Type 0
  OfToml f (string t) r = r ≡ Ok (text t false)
  OfToml f (integer z) r = r ≡ Ok (int z)
  OfToml f (float x) r = OfFloat f x r
  OfToml f (boolean b) r = r ≡ Ok (bool b)
  OfToml f (datetime when) r = r ≡ Ok (text (datetime_text when) false)
  OfToml f (list ds) r = Follows (OfItems f ds) (λ vs a. a ≡ Ok (array (vals vs))) r
  OfToml f (table ms) r =
      Follows (OfMembers f ms) (λ vs a. a ≡ Ok (map (entries (text_keys (once vs))))) r

  -- the items' values, in their order
  pub OfItems : Floats → Items → Result (List Val) Fault → Type 0
  OfItems f no_items r = r ≡ Ok []
  OfItems f (item d ds) r =
      Follows (OfToml f d) (λ v. Follows (OfItems f ds) (λ vs a. a ≡ Ok (v ∷ vs))) r

  -- the members' names and values, in byte order of the names
  pub OfMembers : Floats → Members → Result (Named Val) Fault → Type 0
  OfMembers f no_members r = r ≡ Ok []
  OfMembers f (member n d ms) r =
      Follows (OfToml f d) (λ v. Follows (OfMembers f ms) (λ vs a. a ≡ Ok ((n, v) ∷ vs))) r

-- the members that a text of TOML has
abbrev pub read_toml : Text → Result Members Fault
read_toml t = ok_or (parse_document t) message

-- the value of a template that a text spells
abbrev pub TomlIn : Floats → Text → Result Val Fault → Type 0
TomlIn f t = Follows (λ ms. ms ≡ read_toml t) (λ ms. OfToml f (table ms))

-- the members' values by name
abbrev pub OfTable : Floats → Members → Result (Named Val) Fault → Type 0
OfTable f ms = Follows (OfMembers f ms) (λ vs a. a ≡ Ok (put_all vs []))

-- the context that a text spells
abbrev pub TomlContextIn : Floats → Text → Result (Named Val) Fault → Type 0
TomlContextIn f t = Follows (λ ms. ms ≡ read_toml t) (OfTable f)

-- what may be meant, put over what is there name by name
abbrev pub Over : Named Val → (Result (Named Val) Fault → Type 0) → Result (Named Val) Fault → Type 0
Over old Meant = Follows Meant (λ new a. a ≡ Ok (put_all new old))
