-- The definitions that contracts of other crates name, passed on from one file.
pub use Rattle.tera_built_ins.specs.Escaping.{escape_or_html, escaping_of}
pub use Rattle.tera_built_ins.specs.Filters.{filter_in, filter_named, filtered_in}
pub use Rattle.tera_built_ins.specs.TestTable.{test_named, tested_in}
pub use Rattle.tera_built_ins.specs.FunctionTable.{called_in, function_named}
pub use Rattle.tera_built_ins.specs.Replace.{replaced}
