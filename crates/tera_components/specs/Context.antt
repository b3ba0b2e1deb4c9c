-- The context in which a component runs.
use Rattle.std.specs.Prelude.{Bool, true, false, not, List, [], ◌∷◌, filter, map as map_list, Option, Some, None, option_map, option_and_then, codes, if◌then◌else◌}
use Rattle.std.specs.Option.{option_or}
use Rattle.tera_errors.specs.Site.{Name}
use Rattle.tera_syntax_tree.specs.declared.component.ArgumentType.{ArgumentType}
use Rattle.tera_syntax_tree.specs.declared.component.ArgumentType.TheVariants as a
use Rattle.tera_syntax_tree.specs.Tree.{Literal, NothingLiteral, BooleanLiteral, IntegerLiteral, TextLiteral, ArrayLiteral, MapLiteral, Literals, NoLiterals, MoreLiterals, LiteralEntries, NoLiteralEntries, MoreLiteralEntries, Parameter, Signature}
use Rattle.tera_syntax_tree.specs.Blocks.{is_among}
use Rattle.tera_values.specs.Alphabet.{Alphabet, plain, made}
use Rattle.tera_values.specs.Val.{ValOf, ValsOf, KeyVal, Val, none, bool, int, text, array, map, no_items, item, entries}
use Rattle.tera_values.specs.Access.{insert_pair}
use Rattle.tera_values.specs.Named.{Named, at_name, put, text_keys}
use Rattle.tera_operators.specs.Literals.{key_val}
use Rattle.tera_state.specs.Scope.{defined}

module _ {C : Type 0} (alphabet : Alphabet C) where
  -- what a default stands for
  abbrev mutual
    pub literal_value_in : Literal → ValOf C
    literal_value_in NothingLiteral = none
    literal_value_in (BooleanLiteral b) = bool b
    literal_value_in (IntegerLiteral z) = int z
    literal_value_in (TextLiteral t) = text (alphabet.spelled made t) false
    literal_value_in (ArrayLiteral all) = array (literal_items_in all)
    literal_value_in (MapLiteral all) = map (entries (literal_pairs_in all []))

    pub literal_items_in : Literals → ValsOf C
    literal_items_in NoLiterals = no_items
    literal_items_in (MoreLiterals v rest) = item (literal_value_in v) (literal_items_in rest)

    -- after the pairs to the left of them
    pub literal_pairs_in : LiteralEntries → List (KeyVal × ValOf C) → List (KeyVal × ValOf C)
    literal_pairs_in NoLiteralEntries all = all
    literal_pairs_in (MoreLiteralEntries k v rest) all =
        literal_pairs_in rest (insert_pair all (key_val k) (literal_value_in v))

module _ {C : Type 0} where
  abbrev pub is_of_type : ArgumentType → ValOf C → Bool
  is_of_type a.String (text t safe) = true
  is_of_type a.Bool (bool b) = true
  is_of_type a.Integer (int z) = true
  is_of_type a.Number (int z) = true
  is_of_type a.Array (array vs) = true
  is_of_type a.Map (map es) = true
  is_of_type _ _ = false

  -- the value, if it is what it must be
  abbrev pub fitting : Option ArgumentType → ValOf C → Option (ValOf C)
  fitting None v = Some v
  fitting (Some of_type) v = if is_of_type of_type v then Some v else None

  -- what an implicit parameter is looked up as
  abbrev pub looked_up : (Name → ValOf C) → Bool → Name → Option (ValOf C)
  looked_up look true name = defined (Some (look name))
  looked_up look false name = None

abbrev pub parameter_names : Signature → List Name
parameter_names s = map_list (λ p. p.name) s.parameters

-- the arguments that no parameter takes, in their order
abbrev pub others : {C : Type 0} → Signature → List (Name × ValOf C) → List (Name × ValOf C)
others s given = filter (λ a. not (is_among a.0 (parameter_names s))) given

-- they go to the map of all others; where there is none, they are a fault
abbrev pub with_rest : {C : Type 0} → Option Name → List (Name × ValOf C) → Named (ValOf C)
    → Option (Named (ValOf C))
with_rest (Some rest) over context = Some (put rest (map (entries (text_keys over))) context)
with_rest None [] context = Some context
with_rest None (a ∷ over) context = None

abbrev pub with_body : {C : Type 0} → Option (ValOf C) → Named (ValOf C) → Named (ValOf C)
with_body None context = context
with_body (Some body) context = put (codes "body") body context

module _ {C : Type 0} (alphabet : Alphabet C) (look : Name → ValOf C)
    (given : List (Name × ValOf C)) where
  -- the value of a parameter: what is given, undefined too; else what is looked up; else the
  -- default
  abbrev pub parameter_value_in : Parameter → Option (ValOf C)
  parameter_value_in p =
      let default = option_map (literal_value_in alphabet) p.default in
      let value =
      option_or (at_name p.name given)
      (option_or (looked_up look p.is_implicit p.name) default) in
      option_and_then (fitting p.of_type) value

  -- each at its name, or none where one has no value that fits
  abbrev pub with_parameters_in : List Parameter → Named (ValOf C) → Option (Named (ValOf C))
  with_parameters_in [] context = Some context
  with_parameters_in (p ∷ ps) context =
      option_and_then (λ v. with_parameters_in ps (put p.name v context)) (parameter_value_in p)

-- The context of a component that is given these arguments and at will a body, where names are
-- looked up like this: its parameters, what takes all other arguments, and `body`. None where an
-- argument is missing, unknown or of another type.
abbrev pub component_context_in : {C : Type 0} → Alphabet C → Signature → List (Name × ValOf C)
    → Option (ValOf C) → (Name → ValOf C) → Option (Named (ValOf C))
component_context_in alphabet s given body look =
    option_and_then (with_rest s.rest (others s given))
    (with_parameters_in alphabet look given s.parameters (with_body body []))

-- of texts of bytes: this is what runs
abbrev pub literal_value : Literal → Val
literal_value = literal_value_in plain

abbrev pub component_context : Signature → List (Name × Val) → Option Val → (Name → Val)
    → Option (Named Val)
component_context = component_context_in plain
