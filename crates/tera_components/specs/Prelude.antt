-- The definitions that contracts of other crates name, passed on from one file.
pub use Rattle.tera_components.specs.Definition.{definition_coding}
