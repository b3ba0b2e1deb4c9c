use Rattle.std.proofs.Common.{cond, length, ap, sym, ◌∙◌}
use Rattle.std.proofs.lemmas.Bool.{lt-ltb, le-ltb}
use Rattle.tera_values.specs.Naming.{name_hash, short_hash, long_hash}
use Rattle.tera_values.proofs.name.hash_of.Goals as goal

pub returns-then-text-lt8 : goal.returns-then-text-lt8
unfolding name_hash
returns-then-text-lt8 c =
    let text = c.args.text.now in
    c.short_hash.ensures ∙ sym (ap (λ short. cond short (short_hash text) (long_hash text)) (lt-ltb (length text) 8 c.if-text-lt8.true))

pub returns-else-text-lt8 : goal.returns-else-text-lt8
unfolding name_hash
returns-else-text-lt8 c =
    let text = c.args.text.now in
    c.long_hash.ensures ∙ sym (ap (λ short. cond short (short_hash text) (long_hash text)) (le-ltb (length text) 8 c.if-text-lt8.false))
