use Rattle.std.proofs.Common.{sym, ap, ◌∙◌, refl, option_map}
use Rattle.std.proofs.lemmas.Option.{slice_get-map, slice_get_read, slice_get_past}
use Rattle.tera_value_types.specs.View.{entry_view}
use Rattle.tera_value_types.proofs.value.EntryTable.entry_at.Goals as goal

pub returns-in-Some : goal.returns-in-Some
returns-in-Some c = rw (← c.self.view_is, ← c.deref.ensures.value) (sym (slice_get-map entry_view c.deref.result.now c.args.position ∙ ap (option_map entry_view) (slice_get_read c.deref.result.now _ c.args.position c.in-Some.entry.now refl c.in-Some.ensures.lookup.3.0 c.in-Some.ensures.lookup.1)))

pub returns-in-None : goal.returns-in-None
returns-in-None c = rw (← c.self.view_is, ← c.deref.ensures.value) (sym (slice_get-map entry_view c.deref.result.now c.args.position ∙ ap (option_map entry_view) (slice_get_past c.deref.result.now c.args.position c.in-None.ensures.lookup.3)))
