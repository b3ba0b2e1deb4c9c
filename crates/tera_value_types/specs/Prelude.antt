-- The definitions that contracts of other crates name, passed on from one file.
pub use Rattle.tera_value_types.specs.Val.{array, bool, entries, int, map, text, Val, vals}
pub use Rattle.tera_value_types.specs.Access.{IsScalar}
