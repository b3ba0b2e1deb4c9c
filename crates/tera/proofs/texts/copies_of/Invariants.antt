use Rattle.std.proofs.Common.{◌≡◌, map, take, string_bytes}
use Rattle.tera.specs.Lent.{texts_of}
use Rattle.tera.proofs.texts.copies_of.Given as goal

abbrev pub invariant-loop-text : goal.invariant-loop-text
invariant-loop-text l = map string_bytes l.copies.items ≡ texts_of (take l.text-index l.texts)
