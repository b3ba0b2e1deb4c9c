-- The definitions that contracts of other crates name, passed on from one file.
pub use Rattle.tera_operators.specs.Operand.{placed, then}
pub use Rattle.tera_operators.specs.Operators.{is_comparison}
pub use Rattle.tera_operators.specs.Literals.{key_val}
pub use Rattle.tera_operators.specs.Calls.{filter_applied_by, function_called_by, test_applied_by}
