-- The definitions that contracts of other crates name, passed on from one file.
pub use Rattle.tera_syntax_tree.specs.Delimiters.{accepted, delimiters_of}
pub use Rattle.tera_syntax_tree.specs.Tree.{Absent, And, Array, Binary, body_of, Boolean, first_span, Index, Map}
pub use Rattle.tera_syntax_tree.specs.Tree.{MoreFilters, Negate, NoArguments, NoEntries, NoFilters, Not, Or, other_of, Present}
pub use Rattle.tera_syntax_tree.specs.Tree.{Set, Super, Ternary}
pub use Rattle.tera_syntax_tree.specs.View.{applied_of, arguments_of, called_of, capture_of, component_call_of}
pub use Rattle.tera_syntax_tree.specs.View.{comprehension_of, defined_of, definitions_of, entries_of, expr_of, filters_of, for_of, items_of, key_of}
pub use Rattle.tera_syntax_tree.specs.View.{key_option, keys_of, literal_entries_of, literal_of, literal_option}
pub use Rattle.tera_syntax_tree.specs.View.{literals_of, node_of, nodes_of, optional_of, parameter_of, quoted_of}
pub use Rattle.tera_syntax_tree.specs.View.{quoted_option, signature_of, tag_of, tree_of, written_of, written_option}
pub use Rattle.tera_syntax_tree.specs.Blocks.{are_distinct, block_names, blocks, is_among, node_blocks, node_top_blocks, own_block}
pub use Rattle.tera_syntax_tree.specs.Blocks.{top_blocks}
pub use Rattle.tera_syntax_tree.specs.Definitions.{component_names, has_fit_parameters}
pub use Rattle.tera_syntax_tree.specs.Inside.{DefinitionsInside, Inside, NodeInside, NodesInside, Within}
pub use Rattle.tera_syntax_tree.specs.Free.{only, ◌∪◌}
pub use Rattle.tera_syntax_tree.specs.Sets.{names_in}
