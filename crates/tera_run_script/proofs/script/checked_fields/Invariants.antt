use Rattle.std.proofs.Common.{◌≡◌, ◌++◌, true, length}
use Rattle.std.specs.List.{list_all}
use Rattle.tera.specs.Lent.{texts_of}
use Rattle.tera_run_script.specs.Script.{is_filled}
use Rattle.tera_run_script.specs.Words.{words_after}
use Rattle.tera_run_script.proofs.script.checked_fields.Given as goal

abbrev pub invariant-loop-rest : goal.invariant-loop-rest
invariant-loop-rest l = record {
  parts : words_after l.fields ≡ texts_of l.found.items ++ words_after l.rest;
  filled : list_all is_filled (texts_of l.found.items) ≡ true;
}

abbrev pub decreases-loop-rest : goal.decreases-loop-rest
decreases-loop-rest l = length (words_after l.rest)
