use Rattle.std.proofs.Common.{◌≡◌, ◌++◌, false, drop, string_bytes}
use Rattle.tera_built_ins.specs.Words.{has_some}
use Rattle.tera_filters.proofs.Slugging.{more}
use Rattle.tera_filters.proofs.slugs.slug_of.Given as goal

abbrev pub invariant-loop-byte : goal.invariant-loop-byte
invariant-loop-byte l =
    string_bytes l.slug ++ more (has_some (string_bytes l.slug)) l.goes_on (drop l.byte-index l.text) ≡ more false false l.text
