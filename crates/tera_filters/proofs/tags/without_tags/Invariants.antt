use Rattle.std.proofs.Common.{◌≡◌, ◌++◌, length, string_bytes}
use denote.Text.{Utf8}
use denote.Shadow.{shadow}
use Rattle.tera_filters.specs.Tags.{stripped}
use Rattle.tera_filters.proofs.tags.without_tags.Given as goal

abbrev pub invariant-loop-before : goal.invariant-loop-before
invariant-loop-before l = record {
  is_text : shadow (Utf8 l.rest);
  made : string_bytes l.kept ++ stripped l.rest ≡ stripped l.text;
}

abbrev pub decreases-loop-before : goal.decreases-loop-before
decreases-loop-before l = length l.rest
