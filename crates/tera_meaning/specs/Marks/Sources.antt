-- What the characters of a rendering come from.
use Rattle.std.specs.Prelude.{◌≡◌, ℕ, Bool, true, false, nat_eq, IsTrue, List, [], ◌∷◌, ◌++◌, flat_map, Option, Some, Result, Ok, Err}
use Rattle.std.specs.List.{list_any}
use Rattle.tera_errors.specs.Site.{Text, Name}
use Rattle.tera_errors.specs.Fault.{Fault}
use Rattle.tera_syntax_tree.specs.Gathered.{gathered, node_gathered}
use Rattle.tera_syntax_tree.specs.Tree.{Node, Content, Nodes}
use Rattle.tera_syntax_tree.specs.Calls as called
use Rattle.tera_syntax_tree.specs.Calls.{AFilter, calls}
use Rattle.tera_values.specs.Alphabet.{Mark, template, marked_safe, escaped, made, outside, Marked}
use Rattle.tera_values.specs.Val.{Val, Vals, Entries, text, array, map as map_of, no_items, item, no_entries, entry}
use Rattle.tera_values.specs.Named.{Named}
use Rattle.tera_built_ins.specs.declared.built_in_filter.BuiltInFilter.{BuiltInFilter}
use Rattle.tera_built_ins.specs.declared.built_in_filter.BuiltInFilter.TheVariants as filter
use Rattle.tera_state.specs.View.{View}
use Rattle.tera_state.specs.Engine.{Engine, OwnFilter, OwnFunction, Callee, own, built_in, filter_at, function_at}
use Rattle.tera_state.specs.Calling.{answer_of}
use Rattle.tera_meaning.specs.Marks.Origin.{is_markup}

-- the text that a node is
abbrev pub own_text : Node → List Text
own_text (Content t span) = t ∷ []
own_text _ = []

-- the texts between the tags of a body; blocks are bodies of their own
abbrev pub node_contents : Node → List Text
node_contents = node_gathered false own_text

abbrev pub contents : Nodes → List Text
contents = gathered false own_text

-- the safe texts of a value, and of all that lies in it
abbrev mutual
  pub safe_texts : Val → List Text
  safe_texts (text t true) = t ∷ []
  safe_texts (array vs) = items_safe_texts vs
  safe_texts (map_of es) = entries_safe_texts es
  safe_texts v = []

  pub items_safe_texts : Vals → List Text
  items_safe_texts no_items = []
  items_safe_texts (item v vs) = safe_texts v ++ items_safe_texts vs

  pub entries_safe_texts : Entries → List Text
  entries_safe_texts no_entries = []
  entries_safe_texts (entry k v es) = safe_texts v ++ entries_safe_texts es

abbrev pub safe_texts_of_answer : Result Val Fault → List Text
safe_texts_of_answer (Ok v) = safe_texts v
safe_texts_of_answer (Err fault) = []

-- the byte is in one of the texts
abbrev pub stands_in : ℕ → List Text → Bool
stands_in b ts = list_any (list_any (nat_eq b)) ts

-- what a rendering is made of: the bodies of templates, the values of the caller, and the engine
pub record Sources : Type 0 where
  pub bodies : List Nodes
  pub values : List Val
  pub engine : Engine

-- the byte is in a safe text that an object of the caller answers, whatever it is given and sees
pub data IsAnswered (engine : Engine) (b : ℕ) : Type 0 where
  by_filter : (name : Name) (o : OwnFilter) (v : Val) (given : Named Val) (view : View)
      → filter_at engine name ≡ Some (own o)
      → IsTrue (stands_in b (safe_texts_of_answer (answer_of o.safe (o.meaning v given view))))
      → IsAnswered engine b
  by_function : (name : Name) (o : OwnFunction) (given : Named Val) (view : View)
      → function_at engine name ≡ Some (own o)
      → IsTrue (stands_in b (safe_texts_of_answer (answer_of o.safe (o.meaning given view))))
      → IsAnswered engine b

-- what is called is the filter `safe` that every engine has
abbrev pub is_safe_filter : Option (Callee OwnFilter BuiltInFilter) → Bool
is_safe_filter (Some (built_in filter.Safe)) = true
is_safe_filter other = false

abbrev pub marks_safe : Engine → called.Callee → Bool
marks_safe engine (AFilter name) = is_safe_filter (filter_at engine name)
marks_safe engine other = false

-- a body applies the filter `safe`, by which a template itself marks any text safe
abbrev pub applies_safe : Sources → Bool
applies_safe s = list_any (marks_safe s.engine) (flat_map calls s.bodies)

-- who marked a byte safe: the caller, in a value or in what an object answers, or a template
pub data IsMarkedSafe (s : Sources) (b : ℕ) : Type 0 where
  in_value : IsTrue (stands_in b (flat_map safe_texts s.values)) → IsMarkedSafe s b
  in_answer : IsAnswered s.engine b → IsMarkedSafe s b
  by_template : IsTrue (applies_safe s) → IsMarkedSafe s b

-- How a byte comes to its mark: it is in a text of a template, or marked safe; it is no markup,
-- where the engine made it; and none that came from outside unsafe is put out as it is.
abbrev pub ComesBy : Sources → Mark → ℕ → Type 0
ComesBy s template b = IsTrue (stands_in b (flat_map contents s.bodies))
ComesBy s marked_safe b = IsMarkedSafe s b
ComesBy s escaped b = is_markup b ≡ false
ComesBy s made b = is_markup b ≡ false
ComesBy s outside b = ⊥

abbrev pub ComesFrom : Sources → Marked → Type 0
ComesFrom s c = ComesBy s c.1 c.0

abbrev pub has_markup : List Text → Bool
has_markup ts = list_any (list_any is_markup) ts

-- Neither a text of a template nor a text that is marked safe holds markup: none in a value or in
-- what an object answers; and the filter `safe`, which marks any text safe, is applied nowhere.
pub record HoldNoMarkup (s : Sources) : Type 0 where
  pub contents_hold_none : has_markup (flat_map contents s.bodies) ≡ false
  pub values_hold_none : has_markup (flat_map safe_texts s.values) ≡ false
  pub answers_hold_none : (b : ℕ) → IsAnswered s.engine b → is_markup b ≡ false
  pub none_applies_safe : applies_safe s ≡ false
