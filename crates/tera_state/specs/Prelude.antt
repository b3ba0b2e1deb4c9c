-- The definitions that contracts of other crates name, passed on from one file.
pub use Rattle.tera_state.specs.Scope.{Heading, in_component, in_include, look_implicit, loop_turns, nothing_set}
pub use Rattle.tera_state.specs.FoundValue.{found_value}
pub use Rattle.tera_state.specs.Opened.{turns_left}
pub use Rattle.tera_state.specs.Scopes.{around_of, coming_of, variables_of}
pub use Rattle.tera_state.specs.Rendered.{rendered}
pub use Rattle.tera_state.specs.View.{filters_left, view_at, view_of}
pub use Rattle.tera_state.specs.Engine.{with_escape, with_filter, with_function, with_test}
pub use Rattle.tera_state.specs.Kept.{engine_of, Meanings}
