-- The definitions that contracts of other crates name, passed on from one place.
pub use Rattle.tera.specs.Lent.{texts_of}
pub use Rattle.tera.specs.Registry.{info_at, registry_of}
pub use Rattle.tera.specs.Rendering.{ComponentByName}
pub use Rattle.tera.specs.Configuring.{Configures}
pub use Rattle.tera_errors.specs.Kind.{fault_of}
pub use Rattle.tera_errors.specs.Answer.{Gives, GivesOneOf, Lacks}
pub use Rattle.tera_values.specs.Val.{text}
pub use Rattle.tera_values.specs.Named.{at_name, put, with_names, without_names}
pub use Rattle.tera_registry.specs.Batch.{Adds, ConfiguresOneOf, pairs_of}
