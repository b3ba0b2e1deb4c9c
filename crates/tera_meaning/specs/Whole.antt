-- The meaning of bodies that take one another.
use Rattle.std.specs.Prelude.{◌≡◌, ℕ, zero, suc, ◌+◌, ◌-◌, ◌*◌, nat_lt, Bool, List, [], ◌∷◌, ◌++◌, length, map, flat_map, Option, Some, None, if◌then◌else◌}
use Rattle.tera_errors.specs.Site.{Name}
use Rattle.tera_errors.specs.declared.span.Span.{Span}
use Rattle.tera_errors.specs.Fault.{Fault, message, rendering_error}
use Rattle.std.specs.Option.{option_or}
use Rattle.tera_syntax_tree.specs.Tree.{Signature, Nodes}
use Rattle.tera_syntax_tree.specs.Blocks.{block_names, is_among}
use Rattle.tera_values.specs.Alphabet.{Alphabet, plain}
use Rattle.tera_state.specs.Scope.{AroundOf, VariablesOf, Variables, in_include, in_component, look_implicit, nothing_set}
use Rattle.tera_meaning.specs.Here.{HereOf}
use Rattle.tera_meaning.specs.Run.{Signal, On, Answer, AnswerOf, Failed, Gave, RunOf, Request, RequestOf, ABlock, Above, AnInclude, AComponent, Oracle, OracleOf, visit, begun}
use Rattle.tera_values.specs.Named.{Named}
use Rattle.tera_meaning.specs.Registry.{Template, Entry, Registry}
use Rattle.tera_meaning.specs.Resolve.{resolve}
use Rattle.tera_values.specs.Val.{ValOf}
use Rattle.tera_components.specs.Context.{component_context_in}
use Rattle.tera_meaning.specs.Components.{Component, component_named, component, one_off_name}
use Rattle.tera_meaning.specs.Lineage.{Definer, definers}
use Rattle.tera_meaning.specs.Meaning.{nodes_meaning_in}

-- what a rendering stands on: the registry, and the components of a text beside it
pub record World : Type 0 where
  pub registry : Registry
  pub beside : List (Signature × Nodes)

-- the component of a name: the registry's, else that of the text beside it
abbrev pub component_at : World → Name → Option Component
component_at w name =
    option_or (component w.registry name) (component_named one_off_name name w.beside)

-- where a body stands, its variables apart: the template whose blocks are put out, the template in
-- whose text the body is, what is around it, the autoescape flag, how many components are open, the
-- templates that are included and open in the innermost of them, the blocks that are open, and
-- those who define the block that runs above this one
pub record PlaceOf (C : Type 0) : Type 0 where
  pub template : Option Name
  pub file : Name
  pub around : AroundOf C
  pub autoescape : Bool
  pub depth : ℕ
  pub included : List Name
  pub opened : List Name
  pub above : List Definer

-- a body to take, with the variables that it begins with, or the fault of the request
pub data WayOf (C : Type 0) : Type 0 where
  Refuses : (fault : Fault) → WayOf C
  Takes : (place : PlaceOf C) (vars : VariablesOf C) (body : Nodes) → WayOf C

-- the body of the first of those who define a block, where these blocks are open then
abbrev pub takes_definer : {C : Type 0} → PlaceOf C → List Name → VariablesOf C → Fault
    → List Definer → WayOf C
takes_definer p opened v fault [] = Refuses fault
takes_definer p opened v fault (d ∷ ds) =
    Takes (record p { file = d.file; opened = opened; above = ds }) v d.body

-- An include's body stands in a state of its own, which reads its includer, and has no block open.
abbrev pub place_of_include : {C : Type 0} → PlaceOf C → VariablesOf C → Name → PlaceOf C
place_of_include p v name = record {
  template = Some name;
  file = name;
  around = in_include p.around v;
  autoescape = p.autoescape;
  depth = p.depth;
  included = name ∷ p.included;
  opened = [];
  above = [];
}

-- the template's own body, unless it is included and open already
abbrev pub takes_template : {C : Type 0} → PlaceOf C → VariablesOf C → Fault → Option Entry
    → WayOf C
takes_template p v fault None = Refuses fault
takes_template p v fault (Some t) =
    if is_among t.0 p.included then Refuses fault
    else Takes (place_of_include p v t.0) nothing_set t.1.tree.nodes

-- how deep components may call one another
abbrev pub max_depth : ℕ
max_depth = 20

-- A component's body stands in a state of its own, which reads nothing but its context,
-- and has nothing else open.
abbrev pub place_of_component : {C : Type 0} → AroundOf C → Bool → ℕ → Name → PlaceOf C
place_of_component around autoescape depth file = record {
  template = None;
  file = file;
  around = around;
  autoescape = autoescape;
  depth = depth;
  included = [];
  opened = [];
  above = [];
}

-- its body in this context, unless components are open too deep
abbrev pub takes_context : {C : Type 0} → PlaceOf C → VariablesOf C → Component → Fault
    → Option (Named (ValOf C)) → WayOf C
takes_context p v c fault None = Refuses fault
takes_context p v c fault (Some context) =
    if nat_lt p.depth max_depth
    then Takes
    (place_of_component (in_component context p.around v) p.autoescape (suc p.depth) c.file)
    nothing_set c.body
    else Refuses message

-- implicit parameters are looked up in the place of the call
abbrev pub takes_component : {C : Type 0} → Alphabet C → PlaceOf C → VariablesOf C
    → List (Name × ValOf C) → Option (ValOf C) → Fault → Option Component → WayOf C
takes_component alphabet p v given body fault None = Refuses fault
takes_component alphabet p v given body fault (Some c) =
    takes_context p v c fault
    (component_context_in alphabet c.signature given body (λ name. look_implicit name p.around v))

abbrev pub fault_in : {C : Type 0} → PlaceOf C → Span → Fault
fault_in p span = rendering_error (record { file = p.file; span = span })

-- Which body a request takes: one clause for each kind of request. A block that is open already, or
-- that nobody defines, is a fault; so is what stands above where no block runs or nobody above
-- defines it, an include that is open already, and a component whose arguments do not fit.
abbrev pub way_in : {C : Type 0} → Alphabet C → World → PlaceOf C → RequestOf C → VariablesOf C
    → WayOf C
way_in alphabet w p (ABlock name span) v =
    if is_among name p.opened then Refuses (fault_in p span)
    else takes_definer p (name ∷ p.opened) v (fault_in p span) (definers w.registry p.template name)
way_in alphabet w p (Above span) v = takes_definer p p.opened v (fault_in p span) p.above
way_in alphabet w p (AnInclude name span) v =
    takes_template p v (fault_in p span) (resolve w.registry name)
way_in alphabet w p (AComponent name given body span) v =
    takes_component alphabet p v given body (fault_in p span) (component_at w name)

-- What is left of a body that was taken for a request, where these were the variables: one clause
-- for each kind of request. Of an include and of a component only the text is kept.
abbrev pub left_of : {C : Type 0} → RequestOf C → VariablesOf C → RunOf C → RunOf C
left_of (ABlock name span) v r = record r { blocks = r.blocks ++ (name, r.text) ∷ [] }
left_of (Above span) v r = r
left_of (AnInclude name span) v r = record { vars = v; text = r.text; blocks = [] }
left_of (AComponent name given body span) v r = record { vars = v; text = r.text; blocks = [] }

abbrev pub ends : {C : Type 0} → RequestOf C → VariablesOf C → AnswerOf C Signal → AnswerOf C Signal
ends q v (Failed fault n) = Failed fault n
ends q v (Gave signal r n) = Gave On (left_of q v r) n

abbrev pub here_at : {C : Type 0} → World → PlaceOf C → HereOf C
here_at w p = record {
  file = p.file;
  around = p.around;
  autoescape = p.autoescape;
  engine = w.registry.engine;
}

-- how many of the names are not in the second list
abbrev pub not_among : List Name → List Name → ℕ
not_among [] taken = 0
not_among (n ∷ ns) taken = (if is_among n taken then 0 else 1) + not_among ns taken

abbrev pub names : Named Template → List Name
names ts = map (λ t. t.0) ts

abbrev pub all_blocks : Registry → List Name
all_blocks r = flat_map (λ t. block_names t.1.tree.nodes) r.templates

-- how many levels can be below a place: components that may still be open, at each templates that
-- are not included, at each blocks that are not open, and at each those who define it
abbrev pub rank : {C : Type 0} → World → PlaceOf C → ℕ
rank w p =
    let r = w.registry in
    let templates = not_among (names r.templates) p.included in
    let blocks = not_among (all_blocks r) p.opened in
    let bodies = (max_depth - p.depth) * suc (length r.templates) + templates in
    (bodies * suc (length (all_blocks r)) + blocks) * suc (suc (length r.templates))
    + length p.above

-- the meaning of the requests of each place
abbrev pub FamilyOf : Type 0 → Type 0
FamilyOf C = PlaceOf C → OracleOf C

module _ {C : Type 0} (alphabet : Alphabet C) (w : World) where
  -- a body in its place; taking it counts as a visit
  abbrev pub body_meaning_in : OracleOf C → PlaceOf C → VariablesOf C → Nodes → AnswerOf C Signal
  body_meaning_in call p v body =
      visit (nodes_meaning_in alphabet (here_at w p) call body) (begun v)

  abbrev pub along : FamilyOf C → RequestOf C → VariablesOf C → WayOf C → AnswerOf C Signal
  along go q v (Refuses fault) = Failed fault 0
  along go q v (Takes place vars body) = ends q v (body_meaning_in (go place) place vars body)

  -- one level of bodies, where those below are given
  abbrev pub level : FamilyOf C → FamilyOf C
  level go p q v = along go q v (way_in alphabet w p q v)

  -- the levels down to a number of them
  abbrev pub levels : ℕ → FamilyOf C
  levels zero p q v = Failed message 0
  levels (suc n) p q v = level (levels n) p q v

  -- the whole meaning of the requests of a place
  unfoldable pub whole_in : FamilyOf C
  whole_in p = levels (suc (rank w p)) p

  -- a body in its place, with all that it takes
  abbrev pub meaning_in : PlaceOf C → VariablesOf C → Nodes → AnswerOf C Signal
  meaning_in p v body = body_meaning_in (whole_in p) p v body

-- of texts of bytes: this is what runs
abbrev pub Place : Type 0
Place = PlaceOf ℕ

abbrev pub Way : Type 0
Way = WayOf ℕ

abbrev pub way : World → Place → Request → Variables → Way
way = way_in plain

abbrev pub body_meaning : World → Oracle → Place → Variables → Nodes → Answer Signal
body_meaning w = body_meaning_in plain w

abbrev pub whole : World → FamilyOf ℕ
whole w = whole_in plain w

abbrev pub meaning : World → Place → Variables → Nodes → Answer Signal
meaning w = meaning_in plain w

-- the whole meaning is its own level
abbrev pub MeaningUnrolls : Type 0
MeaningUnrolls =
    (w : World) (p : Place) (q : Request) (v : Variables)
    → whole w p q v ≡ level plain w (whole w) p q v
