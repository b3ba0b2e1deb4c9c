-- What a value of JSON is for a template.
use Rattle.std.specs.Prelude.{◌≡◌, ◌⊎◌, List, [], ◌∷◌, unwrap_or, false, Result, Ok, Err}
use Rattle.std.specs.Option.{ok_or}
use Rattle.json.specs.Json.{Json, null, boolean, number, string, array as list, object, Items, no_items, item, Members, no_members, member, document}
use Rattle.tera_errors.specs.Prelude.{Fault, message, Name, Text}
use Rattle.tera_value_types.specs.Val.{Val, none, bool, text, array, map, vals, entries}
use Rattle.tera_values.specs.Named.{Named, at_name, without_names, text_keys}
use Rattle.tera_data.specs.Numbers.{integer_of, of_number}
use Rattle.tera_data.specs.declared.number.Floats.{Floats}

-- what follows from what is there; a fault stays
abbrev pub then : {A B : Type 0} → Result A Fault → (A → Result B Fault) → Result B Fault
then (Ok a) next = next a
then (Err fault) next = Err fault

-- the same, where more than one answer may be there or follow; a fault stays
abbrev pub Follows : {A B : Type 0} → (Result A Fault → Type 0) → (A → Result B Fault → Type 0)
    → Result B Fault → Type 0
Follows {A} There Next r =
    ((fault : Fault) × There (Err fault) × (r ≡ Err fault)) ⊎ ((a : A) × There (Ok a) × Next a r)

-- a member in front of others: it takes the value of the one among them that has its name, and that
-- one goes
abbrev pub in_front : Name × Val → Named Val → Named Val
in_front m ms = (m.0, unwrap_or (at_name m.0 ms) m.1) ∷ without_names (m.0 ∷ []) ms

-- each name once: at its first place, with its last value
abbrev pub once : Named Val → Named Val
once [] = []
once (m ∷ ms) = in_front m (once ms)

abbrev mutual
  pub of_json : Floats → Json → Result Val Fault
  of_json f null = Ok none
  of_json f (boolean b) = Ok (bool b)
  of_json f (number t) = of_number f t (integer_of t)
  of_json f (string t) = Ok (text t false)
  of_json f (list js) = then (of_items f js) (λ vs. Ok (array (vals vs)))
  of_json f (object ms) = then (of_members f ms) (λ vs. Ok (map (entries (text_keys (once vs)))))

  -- the items' values, in their order
  pub of_items : Floats → Items → Result (List Val) Fault
  of_items f no_items = Ok []
  of_items f (item j js) = then (of_json f j) (λ v. then (of_items f js) (λ vs. Ok (v ∷ vs)))

  -- the members' names and values, in the order of the text
  pub of_members : Floats → Members → Result (Named Val) Fault
  of_members f no_members = Ok []
  of_members f (member n j ms) =
      then (of_json f j) (λ v. then (of_members f ms) (λ vs. Ok ((n, v) ∷ vs)))

-- the value of JSON that a text is
abbrev pub read : Text → Result Json Fault
read t = ok_or (document t) message

-- the value of a template that a text spells
abbrev pub value_in : Floats → Text → Result Val Fault
value_in f t = then (read t) (of_json f)
