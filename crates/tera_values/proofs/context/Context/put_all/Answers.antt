use Rattle.std.proofs.Common.{rules}
use Rattle.tera_values.proofs.Contents.{put_none, put_next, put_whole}
use Rattle.tera_values.proofs.context.Context.put_all.Goals as goal

pub loop-name-init : goal.loop-name-init
loop-name-init c = put_none c.other.inside.names.entries _ _ _ (search rules) c.iter-name-items.ensures.unique (search rules)

pub loop-name-preserved : goal.loop-name-preserved
loop-name-preserved c =
    put_next c.in-Some.name.now c.in-Some.value.now _ c.next.new.self c.loop-name.self c.put.new.self c.into_iter-name-iterator.result c.args.self.now c.in-Some.ensures.steps (search rules) c.loop-name.invariant

pub returns-clause-ok : goal.returns-clause-ok
returns-clause-ok c =
    put_whole c.other.inside.names.entries c.args.other.now _ c.loop-name.self c.into_iter-name-iterator.result c.args.self.now c.in-None.ensures.steps.0 (search rules) c.other.view_is c.loop-name.invariant
