use Rattle.tera_syntax_tree.specs.View.{tree_of}
use Rattle.tera_registry.specs.Kept.{entry_of}
use Rattle.tera_registry.proofs.Batches.{makes, makes-none}
use Rattle.tera_registry.proofs.batch.read.Goals as goal

pub returns-in-Ok : goal.returns-in-Ok
returns-in-Ok c =
    makes entry_of _ _ _ (tree_of c.in-Ok.output) c.template_of.result c.in-Ok.ensures.reads c.template_of.ensures.ok c.template_of.ensures.lacks

pub returns-in-Err : goal.returns-in-Err
returns-in-Err c = makes-none _ _ _ c.in-Err.error c.in-Err.ensures.reads
