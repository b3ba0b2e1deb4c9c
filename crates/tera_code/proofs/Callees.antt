-- What the code of a tree calls.
use Rattle.std.proofs.Common.{◌≡◌, ℕ, suc, List, [], ◌∷◌, ◌++◌, Bool, true, false, cond, Option, Some, None, IfSome, refl, sym, ap, ap₂, ◌∙◌, append_assoc, append-nil}
use Rattle.std.proofs.lemmas.List.Elements.{filter_map-append}
use Rattle.tera_errors.specs.Site as site
use Rattle.tera_errors.specs.declared.span.Span.{Span}
use Rattle.tera_syntax_tree.specs.Tree.{Expr, Nothing, Boolean, Integer, Text, Name, Attribute, Index, Slice, Not, Negate, Binary, And, Or, Ternary, Array, Map, Comprehension, Super, Filter, Test, Call, Component, Optional, Absent, Present, Items, NoItems, MoreItems, Entries, NoEntries, MoreEntries, Arguments, NoArguments, MoreArguments, Filters, NoFilters, MoreFilters, Node, Content, Print, If, Set, Capture, FilterSection, For, Block, Include, ComponentCall, Break, Continue, Nodes, NoNodes, MoreNodes}
use Rattle.tera_syntax_tree.specs.Calls.{Callee, AFilter, expr_calls, optional_calls, items_calls, entries_calls, arguments_calls, filters_calls, node_calls, calls}
use Rattle.tera_code.specs.declared.instruction.Instruction.{Instruction}
use Rattle.tera_code.specs.declared.instruction.Instruction.TheVariants as instruction
use Rattle.tera_code.specs.Code.{Code, expr_code, bound_code, turn_code, items_code, entries_code, arguments_code, filters_code, section_code, captured_code, is_context, print_code, named, node_code, nodes_code}
use Rattle.tera_code.specs.Called.{callees, CodeCallsTheSame}

-- one part after another
both : (a b : Code) {xs ys : List Callee} → callees a ≡ xs → callees b ≡ ys → callees (a ++ b) ≡ xs ++ ys
both a b e g = filter_map-append _ a b ∙ ap₂ (λ x y. x ++ y) e g

-- what is behind calls nothing
before : (a b : Code) {xs : List Callee} → callees a ≡ xs → callees b ≡ [] → callees (a ++ b) ≡ xs
before a b {xs} e g = both a b e g ∙ append-nil xs

name_calls : (is_context : Bool) (n : site.Name) (span : Span) → callees (cond is_context (instruction.LoadContext span ∷ []) (instruction.LoadName n span ∷ [])) ≡ []
name_calls true n span = refl
name_calls false n span = refl

mutual
  expr_callees : (e : Expr) → callees (expr_code e) ≡ expr_calls e
  expr_callees (Nothing span) = refl
  expr_callees (Boolean b span) = refl
  expr_callees (Integer z span) = refl
  expr_callees (Text t span) = refl
  expr_callees (Name n span) = name_calls (is_context n) n span
  expr_callees (Attribute e n optional span) = before (expr_code e) _ (expr_callees e) refl
  expr_callees (Index a b optional span) = both (expr_code a) _ (expr_callees a) (before (expr_code b) _ (expr_callees b) refl)
  expr_callees (Slice e a b c optional span) =
      both (expr_code e) _ (expr_callees e) (both (bound_code a) _ (bound_callees a) (both (bound_code b) _ (bound_callees b) (before (bound_code c) _ (bound_callees c) refl)))
  expr_callees (Not e span) = before (expr_code e) _ (expr_callees e) refl
  expr_callees (Negate e span) = before (expr_code e) _ (expr_callees e) refl
  expr_callees (Binary op a b span) = both (expr_code a) _ (expr_callees a) (before (expr_code b) _ (expr_callees b) refl)
  expr_callees (And a b span) = both (expr_code a) _ (expr_callees a) (expr_callees b)
  expr_callees (Or a b span) = both (expr_code a) _ (expr_callees a) (expr_callees b)
  expr_callees (Ternary v c o span) = both (expr_code c) _ (expr_callees c) (both (expr_code v) _ (expr_callees v) (expr_callees o))
  expr_callees (Array all span) = before (items_code all) _ (items_callees all) refl
  expr_callees (Map all span) = before (entries_code all) _ (entries_callees all) refl
  expr_callees (Comprehension v key n e c span) =
      both (expr_code e) _ (expr_callees e) (before (turn_code c (expr_code v)) _ (turn_callees c (expr_code v) (expr_callees v)) refl)
  expr_callees (Super all span) = before (arguments_code all) _ (arguments_callees all) refl
  expr_callees (Filter e n all span) = both (expr_code e) _ (expr_callees e) (both (arguments_code all) _ (arguments_callees all) refl)
  expr_callees (Test e n all span) = both (expr_code e) _ (expr_callees e) (both (arguments_code all) _ (arguments_callees all) refl)
  expr_callees (Call n all span) = both (arguments_code all) _ (arguments_callees all) refl
  expr_callees (Component n all span) = both (entries_code all) _ (entries_callees all) refl

  bound_callees : (o : Optional) → callees (bound_code o) ≡ optional_calls o
  bound_callees Absent = refl
  bound_callees (Present e) = expr_callees e

  turn_callees : (o : Optional) (value : Code) {xs : List Callee} → callees value ≡ xs → callees (turn_code o value) ≡ optional_calls o ++ xs
  turn_callees Absent value h = before value _ h refl
  turn_callees (Present c) value h = both (expr_code c) _ (expr_callees c) (before value _ h refl)

  items_callees : (all : Items) → callees (items_code all) ≡ items_calls all
  items_callees NoItems = refl
  items_callees (MoreItems s e rest) = both (expr_code e) _ (expr_callees e) (items_callees rest)

  entries_callees : (all : Entries) → callees (entries_code all) ≡ entries_calls all
  entries_callees NoEntries = refl
  entries_callees (MoreEntries k e rest) = both (expr_code e) _ (expr_callees e) (entries_callees rest)

  arguments_callees : (all : Arguments) → callees (arguments_code all) ≡ arguments_calls all
  arguments_callees NoArguments = refl
  arguments_callees (MoreArguments n e rest) = both (expr_code e) _ (expr_callees e) (arguments_callees rest)

filters_callees : (fs : Filters) → callees (filters_code fs) ≡ filters_calls fs
filters_callees NoFilters = refl
filters_callees (MoreFilters n all span rest) =
    both (arguments_code all) _ (arguments_callees all) (ap (λ x. AFilter n ∷ x) (filters_callees rest))
    ∙ sym (append_assoc (arguments_calls all) (AFilter n ∷ []) (filters_calls rest))

-- what is put out where it lies is a name, and calls nothing
looked_up : (is_context : Bool) (n : site.Name) (span : Span) → IfSome {T = site.Name × Span} (cond is_context None (Some (n, span))) (λ p. expr_calls (Name n span) ≡ [])
looked_up true n span = tt
looked_up false n span = refl

named_calls : (e : Expr) → IfSome (named e) (λ p. expr_calls e ≡ [])
named_calls e = elim e as (λ e. IfSome (named e) (λ p. expr_calls e ≡ [])) [ Name n span ↦ looked_up (is_context n) n span | _ ↦ tt ]

print_callees : (name : Option (site.Name × Span)) (value : Code) {xs : List Callee} → callees value ≡ xs → IfSome name (λ p. xs ≡ []) → callees (print_code name value) ≡ xs
print_callees None value e h = before value _ e refl
print_callees (Some p) value e h = sym h

section_callees : (fs : Filters) (body : Code) (last : Instruction) {xs : List Callee} → callees (last ∷ []) ≡ [] → callees body ≡ xs → callees (section_code fs body ++ last ∷ []) ≡ xs ++ filters_calls fs
section_callees fs body last e h = before (section_code fs body) (last ∷ []) (both body _ h (filters_callees fs)) e

mutual
  node_callees : (n : Node) (drops : ℕ) → callees (node_code n drops) ≡ node_calls n
  node_callees (Content t span) drops = refl
  node_callees (Print e) drops = print_callees (named e) (expr_code e) (expr_callees e) (named_calls e)
  node_callees (If c body other) drops =
      both (expr_code c) _ (expr_callees c) (both (nodes_code body drops) _ (nodes_callees body drops) (nodes_callees other drops))
  node_callees (Set n e is_global) drops = before (expr_code e) _ (expr_callees e) refl
  node_callees (Capture n fs body is_global) drops =
      section_callees fs (nodes_code body (suc drops)) (instruction.Store n is_global) refl (nodes_callees body (suc drops))
  node_callees (FilterSection fs body) drops =
      section_callees fs (nodes_code body (suc drops)) instruction.WriteTop refl (nodes_callees body (suc drops))
  node_callees (For key n e body other) drops =
      both (expr_code e) _ (expr_callees e) (both (nodes_code body 0) _ (nodes_callees body 0) (nodes_callees other drops))
  node_callees (Block n body span) drops = refl
  node_callees (Include n span) drops = refl
  node_callees (ComponentCall n all body span) drops =
      both (captured_code (nodes_code body (suc drops)) span) _ (before (nodes_code body (suc drops)) _ (nodes_callees body (suc drops)) refl) (both (entries_code all) _ (entries_callees all) refl)
  node_callees Break drops = refl
  node_callees Continue drops = refl

  nodes_callees : (ns : Nodes) (drops : ℕ) → callees (nodes_code ns drops) ≡ calls ns
  nodes_callees NoNodes drops = refl
  nodes_callees (MoreNodes n rest) drops = both (node_code n drops) _ (node_callees n drops) (nodes_callees rest drops)

pub code_calls_the_same : CodeCallsTheSame
code_calls_the_same = nodes_callees
