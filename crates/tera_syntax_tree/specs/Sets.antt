-- Names that are kept, as a set.
use Rattle.std.specs.Prelude.{◌≡◌, String, Result, OnOk, false, option_copied}
use Rattle.std.specs.declared.alloc.Global.{Global}
use Rattle.std.specs.BTreeSet.{BTreeSet, contains_text}
use Rattle.tera_syntax_tree.specs.declared.expression.Applied.{Applied, out-Applied}
use Rattle.tera_syntax_tree.specs.declared.expression.Bounds.{Bounds}
use Rattle.tera_syntax_tree.specs.declared.expression.Collected.{Collected}
use Rattle.tera_syntax_tree.specs.Tree.{Node, Nodes, body_of}
use Rattle.tera_syntax_tree.specs.View.{expr_of, optional_of, arguments_of}
use Rattle.tera_syntax_tree.specs.Free.{Names, loop_names, expr_free, optional_free, arguments_free, body_names, is_loop, node_free, free, node_binds, binds, ◌∪◌, ◌∖◌}

abbrev pub names_in : BTreeSet (String Global) → Names
names_in = contains_text

-- where it ends well, these names are put among those that were found
abbrev pub Adds : {X E : Type 0} → Result X E → Names → BTreeSet (String Global)
    → BTreeSet (String Global) → Type 0
Adds result names old new = OnOk result (names_in new ≡ names ∪ names_in old)

-- those of the parts of a filter or a test
abbrev pub applied_free : Applied → Names
applied_free a = let parts = out-Applied a in
    expr_free (expr_of parts.value) ∪ arguments_free (arguments_of parts.arguments.items)

-- those of the parts of a comprehension
abbrev pub collected_free : Collected → Names
collected_free c =
    ((expr_free (expr_of c.value) ∪ optional_free (optional_of c.condition)) ∖ loop_names
    (option_copied c.heading.key) c.heading.name.now) ∪ expr_free (expr_of c.heading.target)

-- those of the bounds of a slice
abbrev pub bounds_free : Bounds → Names
bounds_free b =
    optional_free (optional_of b.start) ∪
    (optional_free (optional_of b.end) ∪ optional_free (optional_of b.step))

-- those of a node and of what stands behind it, where these are those of what stands behind it
abbrev pub before : Node → Names → Names
before node behind = node_free node ∪ (behind ∖ node_binds false node)

-- the same of the body of a node
abbrev pub before_body : Node → Names → Names
before_body node behind =
    (free (body_of node) ∖ body_names node)
    ∪ (behind ∖ binds (is_loop node) (body_of node))

abbrev pub before_all : Nodes → Names → Names
before_all nodes behind = free nodes ∪ (behind ∖ binds false nodes)
