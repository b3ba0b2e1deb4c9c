use Rattle.tera_run_script.specs.Device.{FromDevice}
use Rattle.tera_run_script.specs.Passage.{PassesAll}
use Rattle.tera_run_script.proofs.reading.read_all.Given as goal

abbrev pub invariant-loop : goal.invariant-loop
invariant-loop g l = record {
  read : PassesAll (g.R.Input.passed l.initial.reader) (g.R.Input.passed l.reader) l.bytes.items;
  device : FromDevice g.R.Input.passed g.R.Input.remaining l.initial.reader l.reader;
}
