-- The definitions that contracts of other crates name, passed on from one place.
pub use Rattle.tera_meaning.specs.Run.{AnInclude, visits_of}
pub use Rattle.tera_meaning.specs.Meaning.{output}
pub use Rattle.tera_meaning.specs.Registry.{Entry, new_registry, Registry, standard_suffixes}
pub use Rattle.tera_meaning.specs.Resolve.{entry_at, resolve}
pub use Rattle.tera_meaning.specs.Lineage.{ancestors, definers, definers_in}
pub use Rattle.tera_meaning.specs.Components.{AreComponentNames, component, priority}
pub use Rattle.tera_meaning.specs.Known.{is_known, lacks_a_callee}
pub use Rattle.tera_meaning.specs.Accepted.{first_fault, includes_of, is_component, is_template, knows, lacks_something, loses_a_block}
pub use Rattle.tera_meaning.specs.Adding.{accepted}
pub use Rattle.tera_meaning.specs.Laws.{IsAccepted}
pub use Rattle.tera_meaning.specs.Whole.{component_at, World}
pub use Rattle.tera_meaning.specs.Rendering.{alone, autoescapes, block_of, knows_beside, outermost, render_component}
pub use Rattle.tera_meaning.specs.Variables.{AnswersVariables, given, given_in, if_given, variables}
