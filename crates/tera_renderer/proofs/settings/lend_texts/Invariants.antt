use Rattle.std.proofs.Common.{◌≡◌, map, string_bytes, take}
use Rattle.tera.specs.Prelude.{texts_of}
use Rattle.tera_renderer.proofs.settings.lend_texts.Given as goal

abbrev pub invariant-loop-text : goal.invariant-loop-text
invariant-loop-text l = texts_of l.lent.items ≡ map string_bytes (take l.text-index l.texts)
