use Rattle.std.proofs.Common.{refl}
use Rattle.tera_syntax_tree.specs.View.{key_option, keys_of}
use Rattle.tera_code.proofs.Lengthened.{drop-here}
use Rattle.tera_code.proofs.Written.{keys_more}
use Rattle.tera_code.proofs.packed.copy_keys.Goals as goal

pub loop-key-preserved : goal.loop-key-preserved
loop-key-preserved c =
    keys_more key_option keys_of (λ k ks. refl) _ _ c.in_ok-copy_key.field-0 c.key-item.result _ _ _ c.in_ok-push.ensures.items c.in_ok-copy_key.ensures (drop-here c.args.keys.now c.loop-key.key-index c.key-item.result c.loop-key-test.true c.key-item.is) c.loop-key.invariant
