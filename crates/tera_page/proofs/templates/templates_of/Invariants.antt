use Rattle.std.proofs.Common.{◌≡◌, ◌++◌, drop}
use Rattle.tera.specs.Prelude.{pairs_of}
use Rattle.tera_renderer.specs.Calls.{AreTexts}
use Rattle.tera_page.specs.Templates.{pieces_of, templates_in}
use Rattle.tera_page.proofs.templates.templates_of.Given as goal

abbrev pub invariant-loop-size : goal.invariant-loop-size
invariant-loop-size l = record {
  together : pairs_of l.templates.items ++ templates_in (drop l.size-index l.sizes) l.rest ≡ templates_in l.sizes l.bytes;
  texts : AreTexts (pieces_of (pairs_of l.templates.items));
}
