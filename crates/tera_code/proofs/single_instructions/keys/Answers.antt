use Rattle.std.proofs.Common.{refl}
use Rattle.tera_syntax_tree.specs.declared.expression.EntryExpression.{EntryExpression}
use Rattle.tera_syntax_tree.specs.View.{entries_of, literal_option}
use Rattle.tera_code.specs.Code.{keys_in}
use Rattle.tera_code.proofs.Lengthened.{drop-here}
use Rattle.tera_code.proofs.Written.{keys_more}
use Rattle.tera_code.proofs.single_instructions.keys.Goals as goal

pub loop-entry-preserved : goal.loop-entry-preserved
loop-entry-preserved c =
    keys_more (λ (e : EntryExpression). literal_option e.key) (λ es. keys_in (entries_of es)) (λ e es. refl) _ _ c.in_ok-own_key.field-0 c.entry-item.result _ _ _ c.in_ok-push.ensures.items c.in_ok-own_key.ensures (drop-here c.args.entries.now c.loop-entry.entry-index c.entry-item.result c.loop-entry-test.true c.entry-item.is) c.loop-entry.invariant
