-- Items by an attribute.
use Rattle.std.specs.Prelude.{cond, List, [], ◌∷◌, map as each, Option, Some, None, Result, Ok, codes}
use Rattle.std.specs.List.{filter, filter_map}
use Rattle.tera_errors.specs.Fault.{Fault}
use Rattle.tera_errors.specs.Site.{Text}
use Rattle.tera_values.specs.Alphabet.{Alphabet}
use Rattle.tera_values.specs.Val.{Val, ValOf, KeyVal, array, map, vals, no_entries, entries}
use Rattle.tera_values.specs.Access.{key_eq, key_of}
use Rattle.tera_values.specs.Named.{Named}
use Rattle.tera_built_ins.specs.Arguments.{◌▸◌, as_array, as_text, needed, some_of}
use Rattle.tera_built_ins.specs.Attributes.{all_of, attribute_of}
use Rattle.tera_built_ins.specs.Sorting.{firsts}
use Rattle.tera_built_ins.specs.Tests.{is_none}

module _ {A : Type 0} where
  -- those at a key, in their order
  abbrev pub items_at : KeyVal → List (KeyVal × A) → List A
  items_at k es = each (λ e. e.1) (filter (λ e. key_eq k e.0) es)

  -- each key where it first appears, with all that stand at it
  abbrev pub groups : List (KeyVal × A) → List (KeyVal × List A)
  groups es = each (λ k. (k, items_at k es)) (firsts key_eq (each (λ e. e.0) es))

-- no key where the attribute is none
abbrev pub key_or_none : Val → Result (Option KeyVal) Fault
key_or_none v = cond (is_none v) (Ok None) (some_of (key_of v))

abbrev pub at_key : {A : Type 0} → A → Option KeyVal → Option (KeyVal × A)
at_key a None = None
at_key a (Some k) = Some (k, a)

abbrev pub attribute_key : Text → Val → Result (Option KeyVal) Fault
attribute_key path v = attribute_of path v ▸ key_or_none

abbrev pub group_arrays : {C : Type 0} → List (KeyVal × List (ValOf C)) → ValOf C
group_arrays gs = map (entries (each (λ g. (g.0, array (vals g.1))) gs))

module _ {C : Type 0} (alphabet : Alphabet C) where
  -- an item with the key that its attribute is
  abbrev pub keyed_by : Text → ValOf C → Result (Option (KeyVal × ValOf C)) Fault
  keyed_by path v = attribute_key path (alphabet.bare v) ▸ λ k. Ok (at_key v k)

  -- no argument is read where there is nothing to group
  abbrev pub grouped_items : Named (ValOf C) → List (ValOf C) → Result (ValOf C) Fault
  grouped_items given [] = Ok (map no_entries)
  grouped_items given (v ∷ vs) =
      needed as_text (codes "attribute") given ▸ λ attribute.
      all_of (keyed_by (alphabet.seen attribute.text)) (v ∷ vs) ▸ λ keyed.
      Ok (group_arrays (groups (filter_map (λ e. e) keyed)))

  abbrev pub group_by_of : ValOf C → Named (ValOf C) → Result (ValOf C) Fault
  group_by_of v given = as_array v ▸ grouped_items given
