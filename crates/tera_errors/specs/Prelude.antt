-- The definitions that contracts of other crates name, passed on from one file.
pub use Rattle.tera_errors.specs.Site.{Name, Site, Text}
pub use Rattle.tera_errors.specs.Fault.{Fault, invalid_argument, message, missing_argument, rendering_error}
pub use Rattle.tera_errors.specs.Fault.{component_not_found, template_not_found}
pub use Rattle.tera_errors.specs.Answer.{Gives, GivesOneOf, Lacks, MemorySuffices, Tells}
