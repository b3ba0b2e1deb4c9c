-- Names that resolve, and bodies that take one another.
use Rattle.std.proofs.Common.{◌≡◌, ℕ, suc, ◌+◌, Bool, true, false, if◌then◌else◌, List, [], ◌∷◌, ◌++◌, map, Option, Some, None, Result, Ok, unwrap_or, nat_lt, refl, sym, ap, ◌∙◌, subst, arith}
use Rattle.std.specs.List.{All}
use Rattle.std.specs.Option.{option_or}
use Rattle.tera_errors.specs.Site.{Name, Text}
use Rattle.tera_errors.specs.Fault.{Fault, message}
use Rattle.tera_syntax_tree.specs.Tree.{Expr, Nodes, For}
use Rattle.tera_syntax_tree.specs.Blocks.{is_among}
use Rattle.tera_operators.specs.Operand.{Evaluated}
use Rattle.tera_values.specs.Alphabet.{plain}
use Rattle.tera_values.specs.Named.{Named, at_name}
use Rattle.tera_values.specs.Val.{Val, undefined}
use Rattle.tera_state.specs.Scope.{Turn, Variables, in_component, in_variables, look_implicit, nothing_set}
use Rattle.tera_components.specs.Context.{component_context_in}
use Rattle.tera_meaning.specs.Here.{Here}
use Rattle.tera_meaning.specs.Run.{Signal, Answer, Failed, Gave, Meaning, Oracle, Request, ABlock, Above, AnInclude, AComponent, Run, more, onward, answered}
use Rattle.tera_meaning.specs.Registry.{Template, Entry, Registry}
use Rattle.tera_meaning.specs.Resolve.{entry_at, first_there, resolve}
use Rattle.tera_meaning.specs.Lineage.{Definer, definers}
use Rattle.tera_meaning.specs.Components.{Component}
use Rattle.tera_meaning.specs.Meaning.{expr_meaning, loop_or_else, node_meaning, nodes_meaning, turns_of}
use Rattle.tera_meaning.specs.Whole.{World, Place, Way, Refuses, Takes, takes_definer, takes_template, takes_context, takes_component, place_of_include, place_of_component, max_depth, component_at, fault_in, way, ends, along, left_of, body_meaning_in, FamilyOf, whole}
use Rattle.tera_meaning.specs.BodyLaws.{ResolvesInOrder, FlagHolds, ChangesNoVariable, KeepsVariables, ReadsItsContextAlone, ElseWhereNoItem, ElseIsForNoItem, heading}
use Rattle.tera_meaning.proofs.Levels.{unrolls}

-- Names.

first-prefix : (ts : Named Template) (n : Name) (t : Entry) (before : List Text) (prefix : Text) (after : List Text)
    → All (λ (p : Text). entry_at (p ++ n) ts ≡ None) before → entry_at (prefix ++ n) ts ≡ Some t → first_there ts (map (λ (p : Text). p ++ n) (before ++ prefix ∷ after)) ≡ Some t
first-prefix ts n t [] prefix after none at =
    ap (λ (o : Option Entry). option_or o (first_there ts (map (λ (p : Text). p ++ n) after))) at
first-prefix ts n t (p ∷ before) prefix after none at =
    ap (λ (o : Option Entry). option_or o (first_there ts (map (λ (p : Text). p ++ n) (before ++ prefix ∷ after)))) (none 0 p (omega arith))
    ∙ first-prefix ts n t before prefix after (λ k d lt. none (suc k) d (omega arith)) at

prefixed : (r : Registry) (n : Name) (t : Entry) (before : List Text) (prefix : Text) (after : List Text)
    → r.prefixes ≡ before ++ prefix ∷ after → entry_at n r.templates ≡ None → All (λ (p : Text). entry_at (p ++ n) r.templates ≡ None) before
    → entry_at (prefix ++ n) r.templates ≡ Some t → resolve r n ≡ Some t
prefixed r n t before prefix after are missing none at =
    ap (λ (o : Option Entry). option_or o (first_there r.templates (map (λ (p : Text). p ++ n) r.prefixes))) missing
    ∙ ap (λ (ps : List Text). first_there r.templates (map (λ (p : Text). p ++ n) ps)) are
    ∙ first-prefix r.templates n t before prefix after none at

pub resolves_in_order : ResolvesInOrder
resolves_in_order = record {
  exact = λ r n t at. ap (λ (o : Option Entry). option_or o (first_there r.templates (map (λ (p : Text). p ++ n) r.prefixes))) at;
  prefixed = prefixed;
}

-- The flag.

abbrev HasFlag : Bool → Way → Type 0
HasFlag flag (Refuses fault) = Unit {0}
HasFlag flag (Takes place vars body) = place.autoescape ≡ flag

flag-definer : (p : Place) (opened : List Name) (v : Variables) (fault : Fault) (ds : List Definer) → HasFlag p.autoescape (takes_definer p opened v fault ds)
flag-definer p opened v fault [] = tt
flag-definer p opened v fault (d ∷ ds) = refl

flag-open : (b : Bool) (p : Place) (opened : List Name) (v : Variables) (fault : Fault) (ds : List Definer)
    → HasFlag p.autoescape (if b then Refuses fault else takes_definer p opened v fault ds)
flag-open true p opened v fault ds = tt
flag-open false p opened v fault ds = flag-definer p opened v fault ds

flag-template : (p : Place) (v : Variables) (fault : Fault) (found : Option Entry) → HasFlag p.autoescape (takes_template p v fault found)
flag-template p v fault None = tt
flag-template p v fault (Some t) = go (is_among t.0 p.included)
  where
    go : (b : Bool) → HasFlag p.autoescape (if b then Refuses fault else Takes (place_of_include p v t.0) nothing_set t.1.tree.nodes)
    go true = tt
    go false = refl

flag-context : (p : Place) (v : Variables) (c : Component) (fault : Fault) (made : Option (Named Val)) → HasFlag p.autoescape (takes_context p v c fault made)
flag-context p v c fault None = tt
flag-context p v c fault (Some context) = go (nat_lt p.depth max_depth)
  where
    go : (b : Bool) → HasFlag p.autoescape (if b then Takes (place_of_component (in_component context p.around v) p.autoescape (suc p.depth) c.file) nothing_set c.body else Refuses message)
    go true = refl
    go false = tt

flag-component : (p : Place) (v : Variables) (given : List (Name × Val)) (body : Option Val) (fault : Fault) (found : Option Component)
    → HasFlag p.autoescape (takes_component plain p v given body fault found)
flag-component p v given body fault None = tt
flag-component p v given body fault (Some c) =
    flag-context p v c fault (component_context_in plain c.signature given body (λ name. look_implicit name p.around v))

flag-way : (w : World) (p : Place) (q : Request) (v : Variables) → HasFlag p.autoescape (way w p q v)
flag-way w p (ABlock name span) v =
    flag-open (is_among name p.opened) p (name ∷ p.opened) v (fault_in p span) (definers w.registry p.template name)
flag-way w p (Above span) v = flag-definer p p.opened v (fault_in p span) p.above
flag-way w p (AnInclude name span) v = flag-template p v (fault_in p span) (resolve w.registry name)
flag-way w p (AComponent name given body span) v = flag-component p v given body (fault_in p span) (component_at w name)

pub flag_holds : FlagHolds
flag_holds w p place q v vars body is = subst (HasFlag p.autoescape) is (flag-way w p q v)

-- Variables.

abbrev vars_of : Variables → Answer Signal → Variables
vars_of v (Failed fault n) = v
vars_of v (Gave signal run n) = run.vars

abbrev Leaves : Request → Type 0
Leaves q = (v : Variables) (run : Run) → (left_of q v run).vars ≡ v

ends-vars : (q : Request) (v : Variables) → Leaves q → (a : Answer Signal) → vars_of v (ends q v a) ≡ v
ends-vars q v leaves (Failed fault n) = refl
ends-vars q v leaves (Gave signal run n) = leaves v run

along-vars : (w : World) (go : FamilyOf ℕ) (q : Request) (v : Variables) → Leaves q → (x : Way) → vars_of v (along plain w go q v x) ≡ v
along-vars w go q v leaves (Refuses fault) = refl
along-vars w go q v leaves (Takes place vars body) = ends-vars q v leaves (body_meaning_in plain w (go place) place vars body)

no-variable : (q : Request) → Leaves q → ChangesNoVariable q
no-variable q leaves w p v signal run visits is =
    ap (vars_of v) (sym is ∙ unrolls plain w p q v) ∙ along-vars w (whole w) q v leaves (way w p q v)

pub keeps_variables : KeepsVariables
keeps_variables = record {
  include = λ name span. no-variable (AnInclude name span) (λ v run. refl);
  component = λ name given body span. no-variable (AComponent name given body span) (λ v run. refl);
}

-- Components.

abbrev InAContext : Place → Variables → Way → Type 0
InAContext p v (Refuses fault) = Unit {0}
InAContext p v (Takes place vars nodes) =
    (context : Named Val) × (place.around ≡ in_component context p.around v) × (vars ≡ nothing_set)

context-made : (p : Place) (v : Variables) (c : Component) (fault : Fault) (made : Option (Named Val)) → InAContext p v (takes_context p v c fault made)
context-made p v c fault None = tt
context-made p v c fault (Some context) = go (nat_lt p.depth max_depth)
  where
    go : (b : Bool) → InAContext p v (if b then Takes (place_of_component (in_component context p.around v) p.autoescape (suc p.depth) c.file) nothing_set c.body else Refuses message)
    go true = (context, refl, refl)
    go false = tt

context-found : (p : Place) (v : Variables) (given : List (Name × Val)) (body : Option Val) (fault : Fault) (found : Option Component)
    → InAContext p v (takes_component plain p v given body fault found)
context-found p v given body fault None = tt
context-found p v given body fault (Some c) =
    context-made p v c fault (component_context_in plain c.signature given body (λ name. look_implicit name p.around v))

or-nothing : {A : Type 0} (o : Option A) → option_or o None ≡ o
or-nothing None = refl
or-nothing (Some a) = refl

pub reads_its_context_alone : ReadsItsContextAlone
reads_its_context_alone = record {
  begins = λ w p place v vars nodes name given body span is. subst (InAContext p v) is (context-found p v given body (fault_in p span) (component_at w name));
  reads = λ context around v vars name. ap (λ (o : Option Val). unwrap_or (option_or (in_variables name vars) o) undefined) (or-nothing (at_name name context));
}

-- Loops.

summed : {A : Type 0} (n : ℕ) (a : Answer A) → more 1 (more n (more 0 a)) ≡ more (suc n) a
summed {A} n (Failed fault m) =
    let e : 1 + (n + (0 + m)) ≡ suc n + m = omega arith in
    let failed : ℕ → Answer A = λ k. Failed fault k in
    ap failed e
summed {A} n (Gave a run m) =
    let e : 1 + (n + (0 + m)) ≡ suc n + m = omega arith in
    let gave : ℕ → Answer A = λ k. Gave a run k in
    ap gave e

module _ (here : Here) (call : Oracle) (key : Option Name) (name : Name) (target : Expr) (body other : Nodes) where
  abbrev walks : List Turn → Meaning Signal
  walks turns = loop_or_else (nodes_meaning here call body) (nodes_meaning here call other) turns

  abbrev walks_over : Result (List Turn) Fault → Run → Answer Signal
  walks_over turns after = onward (answered turns after) walks

  walked : (before after : Run) (a : Evaluated) (visits : ℕ) (turns : List Turn) → expr_meaning here call target before ≡ Gave a after visits → turns_of here (heading key name) a ≡ Ok turns
      → node_meaning here call (For key name target body other) before ≡ more (suc visits) (walks turns after)
  walked before after a visits turns gave are =
      ap (λ (x : Answer Evaluated). more 1 (onward x (λ b. walks_over (turns_of here (heading key name) b)))) gave
      ∙ ap (λ (x : Result (List Turn) Fault). more 1 (more visits (walks_over x after))) are
      ∙ summed visits (walks turns after)

  else-none : ElseWhereNoItem here call key name target body other
  else-none = record {
    none = λ before after a visits gave are. walked before after a visits [] gave are;
    some = λ before after a visits turn turns gave are. walked before after a visits (turn ∷ turns) gave are;
  }

pub else_is_for_no_item : ElseIsForNoItem
else_is_for_no_item here call key name target body other = else-none here call key name target body other
