-- What holds of names that resolve, and of bodies that take one another.
use Rattle.std.specs.Prelude.{◌≡◌, ℕ, suc, true, List, [], ◌∷◌, ◌++◌, Option, Some, None, Ok, unwrap_or}
use Rattle.std.specs.List.{All}
use Rattle.std.specs.Option.{option_or}
use Rattle.tera_errors.specs.Site.{Name, Text}
use Rattle.tera_errors.specs.declared.span.Span.{Span}
use Rattle.tera_syntax_tree.specs.Tree.{Expr, Nodes, For}
use Rattle.tera_operators.specs.Operand.{Evaluated}
use Rattle.tera_values.specs.Named.{Named, at_name}
use Rattle.tera_values.specs.Val.{Val, undefined}
use Rattle.tera_state.specs.Scope.{Around, Heading, Turn, Variables, in_component, in_variables, look, nothing_set}
use Rattle.tera_meaning.specs.Here.{Here}
use Rattle.tera_meaning.specs.Run.{Signal, Gave, Oracle, Request, AnInclude, AComponent, Run, more}
use Rattle.tera_meaning.specs.Registry.{Entry, Registry}
use Rattle.tera_meaning.specs.Resolve.{entry_at, resolve}
use Rattle.tera_meaning.specs.Meaning.{expr_meaning, loop, node_meaning, nodes_meaning, turns_of}
use Rattle.tera_meaning.specs.Whole.{World, Place, Takes, way, whole}

-- A name resolves to the template that has it, whatever the prefixes are; where none has it, to the
-- one that has it behind the first prefix which gives one.
pub record ResolvesInOrder : Type 0 where
  pub exact : (r : Registry) (n : Name) (t : Entry)
      → entry_at n r.templates ≡ Some t → resolve r n ≡ Some t
  pub prefixed : (r : Registry) (n : Name) (t : Entry)
      (before : List Text) (prefix : Text) (after : List Text)
      → r.prefixes ≡ before ++ prefix ∷ after
      → entry_at n r.templates ≡ None
      → All (λ p. entry_at (p ++ n) r.templates ≡ None) before
      → entry_at (prefix ++ n) r.templates ≡ Some t
      → resolve r n ≡ Some t

-- Each body that is taken, whatever takes it, runs under the flag of the body that takes it.
abbrev pub FlagHolds : Type 0
FlagHolds =
    (w : World) (p place : Place) (q : Request) (v vars : Variables) (body : Nodes)
    → way w p q v ≡ Takes place vars body → place.autoescape ≡ p.autoescape

-- where a request is met, the variables are as before
abbrev pub ChangesNoVariable : Request → Type 0
ChangesNoVariable q =
    (w : World) (p : Place) (v : Variables) (signal : Signal) (run : Run) (visits : ℕ)
    → whole w p q v ≡ Gave signal run visits → run.vars ≡ v

-- Neither an include nor a component changes a variable of the body that takes it.
pub record KeepsVariables : Type 0 where
  pub include : (name : Name) (span : Span) → ChangesNoVariable (AnInclude name span)
  pub component : (name : Name) (given : List (Name × Val)) (body : Option Val) (span : Span)
      → ChangesNoVariable (AComponent name given body span)

-- A component's body begins with nothing set, in the context that its call makes; and a name there
-- stands for what the body's own variables bind, or else that context, whatever is around the call.
pub record ReadsItsContextAlone : Type 0 where
  pub begins : (w : World) (p place : Place) (v vars : Variables) (nodes : Nodes)
      (name : Name) (given : List (Name × Val)) (body : Option Val) (span : Span)
      → way w p (AComponent name given body span) v ≡ Takes place vars nodes
      → (context : Named Val) × (place.around ≡ in_component context p.around v)
      × (vars ≡ nothing_set)
  pub reads : (context : Named Val) (around : Around) (v vars : Variables) (name : Name)
      → look name (in_component context around v) vars
      ≡ unwrap_or (option_or (in_variables name vars) (at_name name context)) undefined

-- what a `for` calls its items
abbrev pub heading : Option Name → Name → Heading
heading key name = record { name = name; key = key; counts = true }

-- Where the value that is walked gives no turn, a `for` does what its `else` does, and where it
-- gives one it does what its turns do, and nothing else.
pub record ElseWhereNoItem (here : Here) (call : Oracle) (key : Option Name) (name : Name)
    (target : Expr) (body other : Nodes) : Type 0 where
  pub none : (before after : Run) (a : Evaluated) (visits : ℕ)
      → expr_meaning here call target before ≡ Gave a after visits
      → turns_of here (heading key name) a ≡ Ok []
      → node_meaning here call (For key name target body other) before
      ≡ more (suc visits) (nodes_meaning here call other after)
  pub some : (before after : Run) (a : Evaluated) (visits : ℕ) (turn : Turn) (turns : List Turn)
      → expr_meaning here call target before ≡ Gave a after visits
      → turns_of here (heading key name) a ≡ Ok (turn ∷ turns)
      → node_meaning here call (For key name target body other) before
      ≡ more (suc visits) (loop (nodes_meaning here call body) (turn ∷ turns) after)

abbrev pub ElseIsForNoItem : Type 0
ElseIsForNoItem =
    (here : Here) (call : Oracle) (key : Option Name) (name : Name)
    (target : Expr) (body other : Nodes)
    → ElseWhereNoItem here call key name target body other
