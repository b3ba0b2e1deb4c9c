-- The definitions that contracts of other crates name, passed on from one place.
pub use Rattle.tera_machine.specs.Subject.{engine_of, IsLinked, IsOf, Subject, template_of}
