-- What a template needs, found in its code.
use Rattle.std.proofs.Common.{◌≡◌, ℕ, ◌+◌, ◌<◌, ◌≤◌, Bool, true, false, not, ◌||◌, is_some, if◌then◌else◌, List, [], ◌∷◌, ◌++◌, length, drop, map, option_and_then, Option, Some, None, refl, sym, ap, ap₂, ◌∙◌, append_assoc, slice_get}
use Rattle.std.specs.List.{list_any, filter_map, flat_map, cons_option}
use Rattle.std.proofs.lemmas.List.{drop_all, append-nil}
use Rattle.std.proofs.lemmas.List.Elements.{filter_map-append}
use Rattle.std.proofs.lemmas.List.Folds.{list_any-append, flat_map-map}
use Rattle.tera_errors.specs.Site.{Name}
use Rattle.tera_syntax_tree.specs.Tree.{Signature, Nodes, Definitions, Tree}
use Rattle.tera_syntax_tree.specs.Blocks as in_tree
use Rattle.tera_syntax_tree.specs.Calls.{Callee, AFilter, ATest, AFunction, AComponent, ATemplate, calls, template_called}
use Rattle.tera_values.specs.Named.{at_name}
use Rattle.tera_built_ins.specs.Filters.{filter_named}
use Rattle.tera_built_ins.specs.TestTable.{test_named}
use Rattle.tera_built_ins.specs.FunctionTable.{function_named}
use Rattle.tera_components.specs.Definition.{Definition}
use Rattle.tera_code.specs.Blocks.{block_listings}
use Rattle.tera_code.specs.declared.instruction.Instruction.{Instruction}
use Rattle.tera_code.specs.Listing.{Listing}
use Rattle.tera_code.specs.Code.{Code, nodes_code, listing_of}
use Rattle.tera_code.specs.Called.{called_by, callees}
use Rattle.tera_code.proofs.Callees.{code_calls_the_same}
use Rattle.tera_state.specs.Engine.{Engine, own_or_built_in}
use Rattle.tera_meaning.specs.Known.{is_known, has_unknown, lacks_a_callee, bodies, included_names}
use Rattle.tera_meaning.specs.Registry.{Registry}
use Rattle.tera_meaning.specs.Resolve.{resolve}
use Rattle.tera_registry.specs.declared.code.TemplateBlock.{TemplateBlock}
use Rattle.tera_registry.specs.declared.components.Component.{Component}
use Rattle.tera_registry.specs.declared.outside_calls.OutsideCall.{OutsideCall}
use Rattle.tera_registry.specs.Components.{kept_block, kept_of, kept_as, kept_all}
use Rattle.tera_registry.specs.OutsideCalls.{is_built_in, as_need, callee_needed, need_of, nodes_need, needs_of, is_missing_call, included_by, needed_by, code_needs, bodies_need}
use Rattle.tera_registry.proofs.Element.{element}
use Rattle.tera_registry.proofs.Rows.{drop-at}

-- Position by position.

needs-split : (code : Code) (k : ℕ) → k < length code → code_needs (drop k code) ≡ cons_option (option_and_then needed_by (slice_get code k)) [] ++ code_needs (drop (k + 1) code)
needs-split code k lt =
    let i = element code k lt in
    let at : option_and_then needed_by (slice_get code k) ≡ needed_by i.0 = ap (option_and_then needed_by) i.1 in
    ap code_needs (drop-at code k i.0 i.1) ∙ joined (needed_by i.0) (code_needs (drop (k + 1) code)) ∙ ap (λ o. cons_option o [] ++ code_needs (drop (k + 1) code)) (sym at)
  where
    joined : (o : Option OutsideCall) (rest : List OutsideCall) → cons_option o rest ≡ cons_option o [] ++ rest
    joined None rest = refl
    joined (Some n) rest = refl

pub needs-on : (code : Code) (k : ℕ) (whole old new : List OutsideCall) → k < length code → new ≡ old ++ cons_option (option_and_then needed_by (slice_get code k)) [] → old ++ code_needs (drop k code) ≡ whole → new ++ code_needs (drop (k + 1) code) ≡ whole
needs-on code k whole old new lt e h =
    let rest = code_needs (drop (k + 1) code) in
    ap (λ l. l ++ rest) e ∙ append_assoc old (cons_option (option_and_then needed_by (slice_get code k)) []) rest ∙ ap (λ l. old ++ l) (sym (needs-split code k lt)) ∙ h

pub needs-end : (code : Code) (k : ℕ) (old whole : List OutsideCall) → length code ≤ k → old ++ code_needs (drop k code) ≡ whole → old ≡ whole
needs-end code k old whole over h =
    sym (append-nil old) ∙ sym (ap (λ c. old ++ code_needs c) (drop_all k code over)) ∙ h

and-then : (o : Option Instruction) → option_and_then needed_by o ≡ option_and_then need_of (option_and_then called_by o)
and-then None = refl
and-then (Some i) = refl

-- an instruction that calls nothing, one that calls what is built in, and another
pub nothing-needed : (code : Code) (k : ℕ) → option_and_then called_by (slice_get code k) ≡ None → option_and_then needed_by (slice_get code k) ≡ None
nothing-needed code k e = and-then (slice_get code k) ∙ ap (option_and_then need_of) e

pub callee-needed : (code : Code) (k : ℕ) (c : Callee) (built_in : Bool) → option_and_then called_by (slice_get code k) ≡ Some c → is_built_in c ≡ built_in → option_and_then needed_by (slice_get code k) ≡ (if built_in then None else Some (as_need c))
callee-needed code k c built_in e is =
    and-then (slice_get code k) ∙ ap (option_and_then need_of) e ∙ ap (λ b. if b then None else Some (as_need c)) is

-- The code of nodes needs what these need.

code_needs-callees : (code : Code) → code_needs code ≡ filter_map need_of (callees code)
code_needs-callees [] = refl
code_needs-callees (i ∷ code) = go (called_by i) refl (code_needs-callees code)
  where
    go : (c : Option Callee) → called_by i ≡ c → code_needs code ≡ filter_map need_of (callees code) → code_needs (i ∷ code) ≡ filter_map need_of (callees (i ∷ code))
    go None e rest = rw e rest
    go (Some c) e rest = rw e (ap (cons_option (need_of c)) rest)

code-needs-as-nodes : (code : Code) (nodes : Nodes) → code ≡ nodes_code nodes 0 → code_needs code ≡ nodes_need nodes
code-needs-as-nodes code nodes e =
    ap code_needs e ∙ code_needs-callees (nodes_code nodes 0) ∙ ap (filter_map need_of) (code_calls_the_same nodes 0)

blocks-need : (file : Name) (bs : List (Name × Nodes)) → flat_map (λ b. code_needs b.1.code) (block_listings file bs) ≡ flat_map nodes_need (map (λ b. b.1) bs)
blocks-need file [] = refl
blocks-need file (b ∷ bs) = ap₂ (λ x y. x ++ y) (code-needs-as-nodes (nodes_code b.1 0) b.1 refl) (blocks-need file bs)

kept-need : (file : Name) (definitions : Definitions) → flat_map (λ k. code_needs k.1.code) (kept_all file definitions) ≡ flat_map nodes_need (map (λ d. d.1) definitions)
kept-need file definitions = all definitions
  where
    all : (ds : List (Signature × Nodes)) → flat_map (λ k. code_needs k.1.code) (map (kept_as file) ds) ≡ flat_map nodes_need (map (λ d. d.1) ds)
    all [] = refl
    all (d ∷ ds) = ap₂ (λ x y. x ++ y) (code-needs-as-nodes (nodes_code d.1 0) d.1 refl) (all ds)

flat-append : {X : Type 0} (f : X → List OutsideCall) (xs ys : List X) → flat_map f (xs ++ ys) ≡ flat_map f xs ++ flat_map f ys
flat-append f [] ys = refl
flat-append f (x ∷ xs) ys = ap (λ l. f x ++ l) (flat-append f xs ys) ∙ sym (append_assoc (f x) (flat_map f xs) (flat_map f ys))

pub bodies_need_as_tree : (file : Name) (body : Listing) (blocks : List TemplateBlock) (components : List Component) (nodes : Nodes) (definitions : Definitions) → body ≡ listing_of file nodes → map kept_block blocks ≡ block_listings file (in_tree.blocks nodes) → map kept_of components ≡ kept_all file definitions → bodies_need body blocks components ≡ needs_of (record { parent = None; nodes = nodes; definitions = definitions })
bodies_need_as_tree file body blocks components nodes definitions e f g =
    let own = code-needs-as-nodes body.code nodes (ap (λ l. l.code) e) in
    let of_blocks = sym (flat_map-map (λ (b : Name × Listing). code_needs b.1.code) kept_block blocks) ∙ ap (flat_map (λ b. code_needs b.1.code)) f ∙ blocks-need file (in_tree.blocks nodes) in
    let of_components = sym (flat_map-map (λ (k : Definition × Listing). code_needs k.1.code) kept_of components) ∙ ap (flat_map (λ k. code_needs k.1.code)) g ∙ kept-need file definitions in
    let bs = map (λ b. b.1) (in_tree.blocks nodes) in
    let ds = map (λ d. d.1) definitions in
    ap₂ (λ x y. x ++ y) (ap₂ (λ x y. x ++ y) own of_blocks) of_components ∙ append_assoc (nodes_need nodes) (flat_map nodes_need bs) (flat_map nodes_need ds) ∙ ap (λ l. nodes_need nodes ++ l) (sym (flat-append nodes_need bs ds))

-- What a template includes is among its needs.

module _ (r : Registry) where
  needs-include : (cs : List Callee) → filter_map (included_by r) (filter_map need_of cs) ≡ filter_map (resolve r) (filter_map template_called cs)
  needs-include [] = refl
  needs-include (c ∷ cs) = go c (is_built_in c) refl (needs-include cs)
    where
      go : (c : Callee) (built_in : Bool) → is_built_in c ≡ built_in → filter_map (included_by r) (filter_map need_of cs) ≡ filter_map (resolve r) (filter_map template_called cs) → filter_map (included_by r) (cons_option (if built_in then None else Some (as_need c)) (filter_map need_of cs)) ≡ filter_map (resolve r) (cons_option (template_called c) (filter_map template_called cs))
      go (AFilter n) true e rest = rest
      go (AFilter n) false e rest = rest
      go (ATest n) true e rest = rest
      go (ATest n) false e rest = rest
      go (AFunction n) true e rest = rest
      go (AFunction n) false e rest = rest
      go (AComponent n) true e rest = rest
      go (AComponent n) false e rest = rest
      go (ATemplate n) true e rest = (let q : false ≡ true = e in cc)
      go (ATemplate n) false e rest = ap (cons_option (resolve r n)) rest

  pub tree-includes : (tree : Tree) → filter_map (included_by r) (needs_of tree) ≡ filter_map (resolve r) (included_names tree)
  tree-includes tree = all (bodies tree)
    where
      all : (bs : List Nodes) → filter_map (included_by r) (flat_map nodes_need bs) ≡ filter_map (resolve r) (filter_map template_called (flat_map calls bs))
      all [] = refl
      all (b ∷ bs) =
          filter_map-append (included_by r) (nodes_need b) (flat_map nodes_need bs)
          ∙ ap₂ (λ x y. x ++ y) (needs-include (calls b)) (all bs)
          ∙ sym (filter_map-append (resolve r) (filter_map template_called (calls b)) (filter_map template_called (flat_map calls bs)))
          ∙ sym (ap (filter_map (resolve r)) (filter_map-append template_called (calls b) (flat_map calls bs)))

-- A template lacks a callee where one of its needs is not met: what is built in is there in every engine.

pub or-false : (b : Bool) → b ≡ (b || false)
or-false true = refl
or-false false = refl

either-there : {O B : Type 0} (o : Option O) (b : Option B) → is_some b ≡ true → is_some (own_or_built_in o b) ≡ true
either-there (Some o) b e = refl
either-there None (Some b) e = refl
either-there None None e = e

module _ (engine : Engine) (component template : Name → Bool) where
  abbrev known : Callee → Bool
  known = is_known engine component template

  abbrev unknown : Callee → Bool
  unknown c = not (known c)

  abbrev unmet : OutsideCall → Bool
  unmet = is_missing_call known

  built-in-known : (c : Callee) → is_built_in c ≡ true → known c ≡ true
  built-in-known (AFilter n) e = either-there (at_name n engine.filters) (filter_named n) e
  built-in-known (ATest n) e = either-there (at_name n engine.tests) (test_named n) e
  built-in-known (AFunction n) e = either-there (at_name n engine.functions) (function_named n) e
  built-in-known (AComponent n) e = (let q : false ≡ true = e in cc)
  built-in-known (ATemplate n) e = (let q : false ≡ true = e in cc)

  kept-callee : (c : Callee) → callee_needed (as_need c) ≡ c
  kept-callee (AFilter n) = refl
  kept-callee (ATest n) = refl
  kept-callee (AFunction n) = refl
  kept-callee (AComponent n) = refl
  kept-callee (ATemplate n) = refl

  callee-unmet : (c : Callee) (built_in : Bool) → is_built_in c ≡ built_in → unknown c ≡ list_any unmet (cons_option (if built_in then None else Some (as_need c)) [])
  callee-unmet c true is = ap not (built-in-known c is)
  callee-unmet c false is = ap unknown (sym (kept-callee c)) ∙ or-false (unmet (as_need c))

  callees-unmet : (cs : List Callee) → list_any unknown cs ≡ list_any unmet (filter_map need_of cs)
  callees-unmet [] = refl
  callees-unmet (c ∷ cs) = ap₂ (λ x y. x || y) (callee-unmet c (is_built_in c) refl) (callees-unmet cs) ∙ joined (need_of c)
    where
      joined : (o : Option OutsideCall) → (list_any unmet (cons_option o []) || list_any unmet (filter_map need_of cs)) ≡ list_any unmet (cons_option o (filter_map need_of cs))
      joined None = refl
      joined (Some n) = ap (λ b. b || list_any unmet (filter_map need_of cs)) (sym (or-false (unmet n)))

  pub lacks-needs : (tree : Tree) → lacks_a_callee known tree ≡ list_any unmet (needs_of tree)
  lacks-needs tree = all (bodies tree)
    where
      all : (bs : List Nodes) → list_any (has_unknown known) bs ≡ list_any unmet (flat_map nodes_need bs)
      all [] = refl
      all (b ∷ bs) = ap₂ (λ x y. x || y) (callees-unmet (calls b)) (all bs) ∙ sym (list_any-append unmet (nodes_need b) (flat_map nodes_need bs))
