use Rattle.std.proofs.Common.{◌≡◌, ◌+◌, drop}
use Rattle.tera.specs.Prelude.{pairs_of}
use Rattle.tera_page.specs.Templates.{place_among}
use Rattle.tera_page.proofs.templates.place_of.Given as goal

abbrev pub invariant-loop-place : goal.invariant-loop-place
invariant-loop-place l = place_among (pairs_of l.templates) l.name ≡ l.place + place_among (pairs_of (drop l.place l.templates)) l.name
