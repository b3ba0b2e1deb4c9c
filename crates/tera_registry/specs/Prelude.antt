-- The definitions that contracts of other crates name, passed on from one file.
pub use Rattle.tera_registry.specs.Components.{kept_of, first_kept}
pub use Rattle.tera_registry.specs.Batch.{Adds, ConfiguresOneOf, pairs_of}
pub use Rattle.tera_registry.specs.HandedOut.{code_of, found_of, Takes}
pub use Rattle.tera_registry.specs.Numbers.{first_number}
pub use Rattle.tera_registry.specs.Templates.{AreAmong, definers_of, first_number_of, Finds, is_empty, IsDefined, with_templates}
