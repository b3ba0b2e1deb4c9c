use Rattle.std.proofs.Common.{◌≡◌, ◌++◌, length, string_bytes}
use denote.Text.{Utf8}
use denote.Shadow.{shadow}
use Rattle.tera_values.specs.Alphabet.{plain}
use Rattle.tera_built_ins.specs.Replace.{replaced}
use Rattle.tera_built_ins.proofs.replace.put_at_each.Given as goal

abbrev pub invariant-loop-before : goal.invariant-loop-before
invariant-loop-before l = record {
  is_text : shadow (Utf8 l.rest);
  made : string_bytes l.answer ++ replaced plain.code l.from l.to l.rest ≡ replaced plain.code l.from l.to l.text;
}

abbrev pub decreases-loop-before : goal.decreases-loop-before
decreases-loop-before l = length l.rest
