-- Views of what holds a Vec, by the Vec's items.
use Rattle.std.proofs.Common.{◌≡◌, Vec, Box, Bool, Global, List, Option, None, Some, option_copied, refl, sym, ap, ap₂, ◌∙◌}
use mathlib.Core.Former.{Count}
use Rattle.tera_errors.specs.declared.span.Span.{Span}
use Rattle.tera_syntax_tree.specs.declared.expression.Heading.{Heading}
use Rattle.tera_syntax_tree.specs.declared.expression.Sliced.{Sliced}
use Rattle.tera_syntax_tree.specs.declared.expression.Collected.{Collected}
use Rattle.tera_syntax_tree.specs.declared.expression.Applied.{Applied, Applied', out-Applied}
use Rattle.tera_syntax_tree.specs.declared.expression.FunctionCall.{FunctionCall, FunctionCall', out-FunctionCall}
use Rattle.tera_syntax_tree.specs.declared.expression.ComponentTag.{ComponentTag, ComponentTag', out-ComponentTag}
use Rattle.tera_syntax_tree.specs.declared.expression.Item as item
use Rattle.tera_syntax_tree.specs.declared.expression.EntryExpression as entry
use Rattle.tera_syntax_tree.specs.declared.expression.Argument as argument
use Rattle.tera_syntax_tree.specs.declared.expression.Expression.{Expression, Row_of-Item, end_of-Item, more_of-Item, items-the_row-Item, items_hidden-the_row-Item-0, Row_of-EntryExpression, end_of-EntryExpression, more_of-EntryExpression, items-the_row-EntryExpression, items_hidden-the_row-EntryExpression-1, Row_of-Argument, end_of-Argument, more_of-Argument, items-the_row-Argument, items_hidden-the_row-Argument-2, items_shown-the_row-Argument-2, items_shown-the_row-EntryExpression-1}
use Rattle.tera_syntax_tree.specs.declared.expression.Expression.TheVariants as expression
use Rattle.tera_syntax_tree.specs.declared.component.Literal.{Row_of-Literal, end_of-Literal, more_of-Literal, items-the_row-Literal, items_hidden-the_row-Literal-0, Row_of-LiteralEntry, end_of-LiteralEntry, more_of-LiteralEntry, items-the_row-LiteralEntry, items_hidden-the_row-LiteralEntry-1}
use Rattle.tera_syntax_tree.specs.declared.component.Literal as declared_literal
use Rattle.tera_syntax_tree.specs.declared.component.Literal.TheVariants as written
use Rattle.tera_syntax_tree.specs.declared.component.LiteralEntry.{LiteralEntry}
use Rattle.tera_syntax_tree.specs.declared.node.Node.{Row_of-Node, end_of-Node, more_of-Node, items-the_row-Node, items_hidden-the_row-Node-0}
use Rattle.tera_syntax_tree.specs.declared.node.Node as declared
use Rattle.tera_syntax_tree.specs.declared.node.Block as block
use Rattle.tera_syntax_tree.specs.declared.node.Captured.{Captured}
use Rattle.tera_syntax_tree.specs.declared.node.SectionFilter.{SectionFilter}
use Rattle.tera_syntax_tree.specs.declared.node.Node.TheVariants as variant
use Rattle.tera_syntax_tree.specs.Tree.{Array, Map, Super, Filter, Test, Call, Component, ArrayLiteral, MapLiteral, MoreLiterals, MoreLiteralEntries, MoreItems, MoreEntries, MoreArguments, If, FilterSection, For, Block, MoreNodes, body_of, other_of, filters_in, attributes_in}
use Rattle.tera_syntax_tree.specs.View.{literal_of, literal_option, expr_of, row_items, items_of, row_entries, entries_of, row_arguments, arguments_of, written_of, row_literals, literals_of, row_literal_entries, literal_entries_of, applied_of, called_of, tag_of, comprehension_of, slice_of, filters_of, capture_of, component_call_of, node_of, row_nodes, nodes_of, for_of}

pub items_row : (m : _) (row : Row_of-Item m) → row_items row ≡ items_of (items-the_row-Item m row)
items_row m end_of-Item = refl
items_row m (more_of-Item s e rest) = ap (λ r. MoreItems s (expr_of e) r) (items_row _ rest)

pub entries_row : (m : _) (row : Row_of-EntryExpression m) → row_entries row ≡ entries_of (items-the_row-EntryExpression m row)
entries_row m end_of-EntryExpression = refl
entries_row m (more_of-EntryExpression k e rest) = ap (λ r. MoreEntries (literal_option k) (expr_of e) r) (entries_row _ rest)

pub arguments_row : (m : _) (row : Row_of-Argument m) → row_arguments row ≡ arguments_of (items-the_row-Argument m row)
arguments_row m end_of-Argument = refl
arguments_row m (more_of-Argument n e rest) = ap (λ r. MoreArguments n.now (expr_of e) r) (arguments_row _ rest)

pub nodes_row : (m : _) (row : Row_of-Node m) → row_nodes row ≡ nodes_of (items-the_row-Node m row)
nodes_row m end_of-Node = refl
nodes_row m (more_of-Node n rest) = ap (λ r. MoreNodes (node_of n) r) (nodes_row _ rest)

pub literals_row : (m : _) (row : Row_of-Literal m) → row_literals row ≡ literals_of (items-the_row-Literal m row)
literals_row m end_of-Literal = refl
literals_row m (more_of-Literal v rest) = ap (λ r. MoreLiterals (written_of v) r) (literals_row _ rest)

pub literal_entries_row : (m : _) (row : Row_of-LiteralEntry m) → row_literal_entries row ≡ literal_entries_of (items-the_row-LiteralEntry m row)
literal_entries_row m end_of-LiteralEntry = refl
literal_entries_row m (more_of-LiteralEntry k v rest) = ap (λ r. MoreLiteralEntries (literal_of k) (written_of v) r) (literal_entries_row _ rest)

abbrev literals_in : declared_literal.Literal → (n : Count) × Row_of-Literal n
literals_in (written.Array' _ row) = (_, row)
literals_in _ = (_, end_of-Literal)

abbrev literal_entries_in : declared_literal.Literal → (n : Count) × Row_of-LiteralEntry n
literal_entries_in (written.Map' _ row) = (_, row)
literal_entries_in _ = (_, end_of-LiteralEntry)

abbrev items_in : Expression → (n : Count) × Row_of-Item n
items_in (expression.Array' _ row _) = (_, row)
items_in _ = (_, end_of-Item)

abbrev entries_in : Expression → (n : Count) × Row_of-EntryExpression n
entries_in (expression.Map' _ row _) = (_, row)
entries_in (expression.Component' _ (ComponentTag' _ _ row) _) = (_, row)
entries_in _ = (_, end_of-EntryExpression)

abbrev arguments_in : Expression → (n : Count) × Row_of-Argument n
arguments_in (expression.Super' _ row _) = (_, row)
arguments_in (expression.Filter' _ (Applied' _ _ _ row) _) = (_, row)
arguments_in (expression.Test' _ (Applied' _ _ _ row) _) = (_, row)
arguments_in (expression.Call' _ (FunctionCall' _ _ row) _) = (_, row)
arguments_in _ = (_, end_of-Argument)

abbrev body_in : declared.Node → (n : Count) × Row_of-Node n
body_in (variant.If' _ _ row _ _) = (_, row)
body_in (variant.Capture' _ _ _ row) = (_, row)
body_in (variant.FilterSection' _ _ row) = (_, row)
body_in (variant.For' _ _ row _ _) = (_, row)
body_in (variant.Block' _ _ row _) = (_, row)
body_in (variant.ComponentCall' _ _ row _) = (_, row)
body_in _ = (_, end_of-Node)

abbrev other_in : declared.Node → (n : Count) × Row_of-Node n
other_in (variant.If' _ _ _ _ row) = (_, row)
other_in (variant.For' _ _ _ _ row) = (_, row)
other_in _ = (_, end_of-Node)

nodes_is : (r : (n : Count) × Row_of-Node n) (all : Vec declared.Node Global) → items-the_row-Node r.0 r.1 ≡ all.items → row_nodes r.1 ≡ nodes_of all.items
nodes_is r all e = nodes_row r.0 r.1 ∙ ap nodes_of e

pub view_array : (all : Vec item.Item Global) (span : Span) → expr_of (expression.Array all span) ≡ Array (items_of all.items) span
view_array all span =
    let r = items_in (expression.Array all span) in
    ap (λ x. Array x span) (items_row r.0 r.1 ∙ ap items_of (items_hidden-the_row-Item-0 all))

pub view_map : (all : Vec entry.EntryExpression Global) (span : Span) → expr_of (expression.Map all span) ≡ Map (entries_of all.items) span
view_map all span =
    let r = entries_in (expression.Map all span) in
    ap (λ x. Map x span) (entries_row r.0 r.1 ∙ ap entries_of (items_hidden-the_row-EntryExpression-1 all))

pub view_super : (all : Vec argument.Argument Global) (span : Span) → expr_of (expression.Super all span) ≡ Super (arguments_of all.items) span
view_super all span =
    let r = arguments_in (expression.Super all span) in
    ap (λ x. Super x span) (arguments_row r.0 r.1 ∙ ap arguments_of (items_hidden-the_row-Argument-2 all))

arguments_are : (m : Count) (row : Row_of-Argument m) (all : List argument.Argument) → all ≡ items-the_row-Argument m row → row_arguments row ≡ arguments_of all
arguments_are m row all e = arguments_row m row ∙ ap arguments_of (sym e)

pub view_filter : (a : Box Applied Global) (span : Span) → expr_of (expression.Filter a span) ≡ applied_of Filter a.value span
unfolding out-Applied denote.Hole.Carrier.out
view_filter a span = elim a.value as (λ x. expr_of (expression.Filter (record { ptr = a.ptr; alloc = a.alloc; value = x }) span) ≡ applied_of Filter x span)
    [ Applied' e t m all ↦ ap (λ y. Filter (expr_of e) t.now y span) (arguments_are _ all _ (items_shown-the_row-Argument-2 m all)) ]

pub view_test : (a : Box Applied Global) (span : Span) → expr_of (expression.Test a span) ≡ applied_of Test a.value span
unfolding out-Applied denote.Hole.Carrier.out
view_test a span = elim a.value as (λ x. expr_of (expression.Test (record { ptr = a.ptr; alloc = a.alloc; value = x }) span) ≡ applied_of Test x span)
    [ Applied' e t m all ↦ ap (λ y. Test (expr_of e) t.now y span) (arguments_are _ all _ (items_shown-the_row-Argument-2 m all)) ]

pub view_call : (c : Box FunctionCall Global) (span : Span) → expr_of (expression.Call c span) ≡ called_of c.value span
unfolding out-FunctionCall denote.Hole.Carrier.out
view_call c span = elim c.value as (λ x. expr_of (expression.Call (record { ptr = c.ptr; alloc = c.alloc; value = x }) span) ≡ called_of x span)
    [ FunctionCall' t m all ↦ ap (λ y. Call t.now y span) (arguments_are _ all _ (items_shown-the_row-Argument-2 m all)) ]

pub view_component : (t : Box ComponentTag Global) (span : Span) → expr_of (expression.Component t span) ≡ tag_of t.value span
unfolding out-ComponentTag denote.Hole.Carrier.out
view_component t span = elim t.value as (λ x. expr_of (expression.Component (record { ptr = t.ptr; alloc = t.alloc; value = x }) span) ≡ tag_of x span)
    [ ComponentTag' n m all ↦ ap (λ y. Component n.now y span) (entries_row _ all ∙ ap entries_of (sym (items_shown-the_row-EntryExpression-1 m all))) ]

pub view_comprehension : (c : Box Collected Global) (span : Span) → expr_of (expression.Comprehension c span) ≡ comprehension_of c.value span
view_comprehension c span =
    by_condition c.ptr c.alloc c.value.value c.value.heading c.value.condition
  where
    by_condition : (p : _) (al : Global) (v : Expression) (h : Heading) (o : Option (Box Expression Global)) → let made : Collected = record { value = v; heading = h; condition = o } in expr_of (expression.Comprehension (record { ptr = p; alloc = al; value = made }) span) ≡ comprehension_of made span
    by_condition p al v h None = refl
    by_condition p al v h (Some c) = refl

pub view_slice : (optional : Bool) (s : Box Sliced Global) (span : Span) → expr_of (expression.Slice optional s span) ≡ slice_of s.value optional span
view_slice optional s span =
    by_bounds s.ptr s.alloc s.value.target s.value.bounds.start s.value.bounds.end s.value.bounds.step
  where
    by_bounds : (p : _) (al : Global) (x : Expression) (s e t : Option (Box Expression Global)) → let made : Sliced = record { target = x; bounds = record { start = s; end = e; step = t } } in expr_of (expression.Slice optional (record { ptr = p; alloc = al; value = made }) span) ≡ slice_of made optional span
    by_bounds p al x None None None = refl
    by_bounds p al x None None (Some t) = refl
    by_bounds p al x None (Some e) None = refl
    by_bounds p al x None (Some e) (Some t) = refl
    by_bounds p al x (Some s) None None = refl
    by_bounds p al x (Some s) None (Some t) = refl
    by_bounds p al x (Some s) (Some e) None = refl
    by_bounds p al x (Some s) (Some e) (Some t) = refl

pub view_block : (b : block.Block) → node_of (variant.Block b) ≡ Block b.name.now (nodes_of b.body.items) b.span
view_block b = ap (λ x. Block b.name.now x b.span) (nodes_is (body_in (variant.Block b)) b.body (items_hidden-the_row-Node-0 b.body))

pub view_if : (c : Box Expression Global) (body other : Vec declared.Node Global) → node_of (variant.If c body other) ≡ If (expr_of c.value) (nodes_of body.items) (nodes_of other.items)
view_if c body other =
    ap₂ (λ x y. If (expr_of c.value) x y) (nodes_is (body_in (variant.If c body other)) body (items_hidden-the_row-Node-0 body)) (nodes_is (other_in (variant.If c body other)) other (items_hidden-the_row-Node-0 other))

pub view_capture : (is_global : Bool) (c : Box Captured Global) (body : Vec declared.Node Global) → node_of (variant.Capture is_global c body) ≡ capture_of c.value (nodes_of body.items) is_global
view_capture is_global c body = ap (λ x. capture_of c.value x is_global) (nodes_is (body_in (variant.Capture is_global c body)) body (items_hidden-the_row-Node-0 body))

pub view_section : (filters : Vec SectionFilter Global) (body : Vec declared.Node Global) → node_of (variant.FilterSection filters body) ≡ FilterSection (filters_of filters.items) (nodes_of body.items)
view_section filters body = ap (λ x. FilterSection (filters_of filters.items) x) (nodes_is (body_in (variant.FilterSection filters body)) body (items_hidden-the_row-Node-0 body))

pub view_for : (h : Box Heading Global) (body other : Vec declared.Node Global) → node_of (variant.For h body other) ≡ for_of h.value body.items other.items
view_for h body other =
    ap₂ (λ x y. For (option_copied h.value.key) h.value.name.now (expr_of h.value.target) x y) (nodes_is (body_in (variant.For h body other)) body (items_hidden-the_row-Node-0 body)) (nodes_is (other_in (variant.For h body other)) other (items_hidden-the_row-Node-0 other))

pub view_component_call : (t : Box ComponentTag Global) (body : Vec declared.Node Global) (span : Span) → node_of (variant.ComponentCall t body span) ≡ component_call_of t.value (nodes_of body.items) span
view_component_call t body span =
    ap (λ x. component_call_of t.value x span) (nodes_is (body_in (variant.ComponentCall t body span)) body (items_hidden-the_row-Node-0 body))

-- What stands in a node, as it is seen where it is lent

pub body_of_if : (node : declared.Node) (c : Box Expression Global) (body other : Vec declared.Node Global) (xs : List declared.Node) → node ≡ variant.If c body other → xs ≡ body.items → nodes_of xs ≡ body_of (node_of node)
body_of_if node c body other xs is e = ap nodes_of e ∙ sym (ap body_of (ap node_of is ∙ view_if c body other))

pub body_of_capture : (node : declared.Node) (is_global : Bool) (c : Box Captured Global) (body : Vec declared.Node Global) (xs : List declared.Node) → node ≡ variant.Capture is_global c body → xs ≡ body.items → nodes_of xs ≡ body_of (node_of node)
body_of_capture node is_global c body xs is e = ap nodes_of e ∙ sym (ap body_of (ap node_of is ∙ view_capture is_global c body))

pub body_of_section : (node : declared.Node) (fs : Vec SectionFilter Global) (body : Vec declared.Node Global) (xs : List declared.Node) → node ≡ variant.FilterSection fs body → xs ≡ body.items → nodes_of xs ≡ body_of (node_of node)
body_of_section node fs body xs is e = ap nodes_of e ∙ sym (ap body_of (ap node_of is ∙ view_section fs body))

pub body_of_for : (node : declared.Node) (h : Box Heading Global) (body other : Vec declared.Node Global) (xs : List declared.Node) → node ≡ variant.For h body other → xs ≡ body.items → nodes_of xs ≡ body_of (node_of node)
body_of_for node h body other xs is e = ap nodes_of e ∙ sym (ap body_of (ap node_of is ∙ view_for h body other))

pub body_of_block : (node : declared.Node) (b : block.Block) (xs : List declared.Node) → node ≡ variant.Block b → xs ≡ b.body.items → nodes_of xs ≡ body_of (node_of node)
body_of_block node b xs is e = ap nodes_of e ∙ sym (ap body_of (ap node_of is ∙ view_block b))

pub body_of_call : (node : declared.Node) (t : Box ComponentTag Global) (body : Vec declared.Node Global) (span : Span) (xs : List declared.Node) → node ≡ variant.ComponentCall t body span → xs ≡ body.items → nodes_of xs ≡ body_of (node_of node)
body_of_call node t body span xs is e = ap nodes_of e ∙ sym (ap body_of (ap node_of is ∙ view_component_call t body span))

pub other_of_if : (node : declared.Node) (c : Box Expression Global) (body other : Vec declared.Node Global) (xs : List declared.Node) → node ≡ variant.If c body other → xs ≡ other.items → nodes_of xs ≡ other_of (node_of node)
other_of_if node c body other xs is e = ap nodes_of e ∙ sym (ap other_of (ap node_of is ∙ view_if c body other))

pub other_of_for : (node : declared.Node) (h : Box Heading Global) (body other : Vec declared.Node Global) (xs : List declared.Node) → node ≡ variant.For h body other → xs ≡ other.items → nodes_of xs ≡ other_of (node_of node)
other_of_for node h body other xs is e = ap nodes_of e ∙ sym (ap other_of (ap node_of is ∙ view_for h body other))

pub filters_in_capture : (node : declared.Node) (is_global : Bool) (c : Box Captured Global) (body : Vec declared.Node Global) (fs : List SectionFilter) → node ≡ variant.Capture is_global c body → fs ≡ c.value.filters.items → filters_of fs ≡ filters_in (node_of node)
filters_in_capture node is_global c body fs is e = ap filters_of e ∙ sym (ap filters_in (ap node_of is ∙ view_capture is_global c body))

pub filters_in_section : (node : declared.Node) (all : Vec SectionFilter Global) (body : Vec declared.Node Global) (fs : List SectionFilter) → node ≡ variant.FilterSection all body → fs ≡ all.items → filters_of fs ≡ filters_in (node_of node)
filters_in_section node all body fs is e = ap filters_of e ∙ sym (ap filters_in (ap node_of is ∙ view_section all body))

pub attributes_in_call : (node : declared.Node) (t : Box ComponentTag Global) (body : Vec declared.Node Global) (span : Span) (es : List entry.EntryExpression) → node ≡ variant.ComponentCall t body span → es ≡ (out-ComponentTag t.value).attributes.items → entries_of es ≡ attributes_in (node_of node)
attributes_in_call node t body span es is e = ap entries_of e ∙ sym (ap attributes_in (ap node_of is ∙ view_component_call t body span))

pub view_array_literal : (all : Vec declared_literal.Literal Global) → written_of (written.Array all) ≡ ArrayLiteral (literals_of all.items)
view_array_literal all =
    let r = literals_in (written.Array all) in
    ap ArrayLiteral (literals_row r.0 r.1 ∙ ap literals_of (items_hidden-the_row-Literal-0 all))

pub view_map_literal : (all : Vec LiteralEntry Global) → written_of (written.Map all) ≡ MapLiteral (literal_entries_of all.items)
view_map_literal all =
    let r = literal_entries_in (written.Map all) in
    ap MapLiteral (literal_entries_row r.0 r.1 ∙ ap literal_entries_of (items_hidden-the_row-LiteralEntry-1 all))
