use Rattle.std.proofs.Common.{◌≡◌, string_bytes, codes}
use Rattle.std.specs.List.{join_by}
use Rattle.tera_built_ins.specs.Words.{has_some}
use Rattle.tera_filters.proofs.words.first_words.Given as goal

abbrev pub invariant-loop-word : goal.invariant-loop-word
invariant-loop-word l = record {
  behind : l.is_behind ≡ has_some l.yielded;
  made : string_bytes l.joined ≡ join_by (λ p. p.now) (codes " ") l.yielded;
}
