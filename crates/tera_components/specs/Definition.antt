-- What is kept of a signature, for the calls of its component.
use Rattle.std.specs.Prelude.{◌≡◌, Bool, false, not, if◌then◌else◌, List, [], ◌∷◌, filter, map as map_list, Option, Some, None, is_some, option_map, option_and_then, Result, Ok, Err, refl}
use Rattle.std.specs.Option.{option_or}
use Rattle.std.specs.List.{filter_map}
use Rattle.std.specs.Coded.{Coded, code_by, coded×, coded_ℕ, coded_bool, coded_list, coded_option}
use Rattle.tera_errors.specs.Answer.{SeenError, Gives}
use Rattle.tera_errors.specs.Fault.{Fault, message}
use Rattle.tera_errors.specs.Site.{Name}
use Rattle.tera_syntax_tree.specs.declared.component.ArgumentType.{ArgumentType}
use Rattle.tera_syntax_tree.specs.contracts.component.ArgumentType.{the_row}
use Rattle.tera_syntax_tree.specs.Tree.{Parameter, Signature}
use Rattle.tera_syntax_tree.specs.Blocks.{is_among}
use Rattle.tera_values.specs.Val.{ValOf, Val, KeyVal, kbool, kint, ktext}
use Rattle.tera_values.specs.Coding.{val_coding}
use Rattle.tera_values.specs.Access.{find, insert_pair}
use Rattle.tera_values.specs.Named.{Named, at_name, put}
use Rattle.tera_components.specs.Context.{literal_value, fitting, looked_up, component_context}

-- a parameter whose default is a value
pub record Formal : Type 0 where
  pub name : Name
  pub is_implicit : Bool
  pub of_type : Option ArgumentType
  pub default : Option Val

-- a component's name, its parameters, and the name of what takes all other arguments
pub record Definition : Type 0 where
  pub name : Name
  pub formals : List Formal
  pub rest : Option Name

-- a component's name and its parameters alone
pub record Info : Type 0 where
  pub name : Name
  pub formals : List Formal

abbrev pub formal_of : Parameter → Formal
formal_of p =
    record {
      name = p.name;
      is_implicit = p.is_implicit;
      of_type = p.of_type;
      default = option_map literal_value p.default;
    }

abbrev pub definition_of : Signature → Definition
definition_of s = record { name = s.name; formals = map_list formal_of s.parameters; rest = s.rest }

abbrev pub info_of : Definition → Info
info_of d = record { name = d.name; formals = d.formals }

abbrev pub name_coding : Coded Name
name_coding = coded_list coded_ℕ

abbrev pub formal_coding : Coded Formal
formal_coding =
    code_by (Name × (Bool × (Option ArgumentType × Option Val)))
    (coded× name_coding
    (coded× coded_bool (coded× (coded_option the_row.coded) (coded_option val_coding))))
    (λ f. (f.name, (f.is_implicit, (f.of_type, f.default))))
    (λ p. record { name = p.0; is_implicit = p.1.0; of_type = p.1.1.0; default = p.1.1.1 })
    (λ _. refl)

abbrev pub definition_coding : Coded Definition
definition_coding =
    code_by (Name × (List Formal × Option Name))
    (coded× name_coding (coded× (coded_list formal_coding) (coded_option name_coding)))
    (λ d. (d.name, (d.formals, d.rest)))
    (λ p. record { name = p.0; formals = p.1.0; rest = p.1.1 }) (λ _. refl)

abbrev pub info_coding : Coded Info
info_coding =
    code_by (Name × List Formal) (coded× name_coding (coded_list formal_coding))
    (λ i. (i.name, i.formals)) (λ p. record { name = p.0; formals = p.1 }) (λ _. refl)

-- what stands at a text key; other keys name no argument
abbrev pub named_by : {C : Type 0} → KeyVal × ValOf C → Option (Name × ValOf C)
named_by (ktext n, v) = Some (n, v)
named_by (kbool b, v) = None
named_by (kint z, v) = None

-- the arguments that a map of them names, in its order
abbrev pub named_arguments : {C : Type 0} → List (KeyVal × ValOf C) → List (Name × ValOf C)
named_arguments all = filter_map named_by all

abbrev pub formal_names : Definition → List Name
formal_names d = map_list (λ f. f.name) d.formals

-- the text keys of a map are the names of the parameters
abbrev pub AreNames : List (KeyVal × Val) → List Formal → Type 0
AreNames names formals =
    (n : Name) → is_some (find (ktext n) names) ≡ is_among n (map_list (λ f. f.name) formals)

-- the arguments that no parameter takes, in their order
abbrev pub left_over : Definition → List (Name × Val) → List (Name × Val)
left_over d given = filter (λ a. not (is_among a.0 (formal_names d))) given

-- a key is the name of an argument, and no parameter has it
abbrev pub is_left : Definition → KeyVal → Bool
is_left d (ktext n) = not (is_among n (formal_names d))
is_left d (kbool b) = false
is_left d (kint z) = false

-- the entry among those that are there, if it is left over
abbrev pub kept_over : Definition → List (KeyVal × Val) → KeyVal × Val → List (KeyVal × Val)
kept_over d all e = if is_left d e.0 then insert_pair all e.0 e.1 else all

-- what nothing fits is refused in words
abbrev pub or_message : {A : Type 0} → Option A → Result A Fault
or_message (Some a) = Ok a
or_message None = Err message

module _ (look : Name → Val) (given : List (Name × Val)) where
  -- what is given, undefined too; else what is looked up; else the default
  abbrev pub offered : Formal → Option Val
  offered f =
      option_or (at_name f.name given) (option_or (looked_up look f.is_implicit f.name) f.default)

  abbrev pub formal_value : Formal → Option Val
  formal_value f = option_and_then (fitting f.of_type) (offered f)

  -- each at its name, or none where one has no value that fits
  abbrev pub with_formals : List Formal → Named Val → Option (Named Val)
  with_formals [] context = Some context
  with_formals (f ∷ fs) context =
      option_and_then (λ v. with_formals fs (put f.name v context)) (formal_value f)

-- how a call ends that binds these arguments and at will a body, where implicit parameters are
-- looked up like this: with the context that the signature means, or a fault
abbrev pub Binds : Definition → List (Name × Val) → Option Val → (Name → Val)
    → Result (Named Val) SeenError → Type 0
Binds d given body look answer =
    (s : Signature) → d ≡ definition_of s →
    Gives (λ c. c) answer (or_message (component_context s given body look))
