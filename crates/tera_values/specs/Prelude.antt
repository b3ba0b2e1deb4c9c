-- The definitions that contracts of other crates name, passed on from one file.
pub use Rattle.tera_value_types.specs.Alphabet.{plain}
pub use Rattle.tera_value_types.specs.Val.{array, bool, entries, int, KeyVal, ktext, map, text, undefined, Val, vals}
pub use Rattle.tera_value_types.specs.View.{key_view}
pub use Rattle.tera_value_types.specs.Access.{find, is_safe, is_undefined, IsScalar, text_of, truthy}
pub use Rattle.tera_value_types.specs.Order.{checked_order, same}
pub use Rattle.tera_value_types.specs.Printed.{printed}
pub use Rattle.tera_value_types.specs.Escape.{escape_html}
pub use Rattle.tera_values.specs.Named.{at_name, name_cmp, Named, put, put_all, text_keys}
pub use Rattle.tera_values.specs.Number.{difference, integers, on_integers, product, quotient, remainder, sum}
pub use Rattle.tera_values.specs.Number.{unless_zero}
