use Rattle.tera_values.specs.Named.{Named, put_all}
use Rattle.tera_syntax_tree.specs.Delimiters.{delimiters_of}
use Rattle.tera_meaning.specs.Registry.{Template}
use Rattle.tera_registry.specs.Batch.{pairs_of}
use Rattle.tera_registry.specs.Kept.{entries_of}
use Rattle.tera_registry.proofs.Batches.{Putting}
use Rattle.tera_registry.proofs.batch.read_all.Given as goal

abbrev pub invariant-loop-name : goal.invariant-loop-name
invariant-loop-name l =
    (old : Named Template) → Putting (delimiters_of l.delimiters) old (pairs_of l.batch) (put_all (entries_of l.all.items) old) l.name-index
