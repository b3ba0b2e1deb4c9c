use Rattle.std.proofs.Common.{refl, sym}
use Rattle.tera_machine.proofs.Looping.{none_innermost, none_open, top_innermost}
use Rattle.tera_machine.proofs.configuration.Configuration.innermost_loop.Goals as goal

pub returns-then-not-is_in_loop : goal.returns-then-not-is_in_loop
returns-then-not-is_in_loop c = sym (none_innermost _ _ (none_open _ c.if-not-is_in_loop.ensures))

pub returns : goal.returns
returns c = sym (top_innermost _ _ c.top-place.result.now (c.if-not-is_in_loop.ensures.0 refl) c.top-place.ensures)
