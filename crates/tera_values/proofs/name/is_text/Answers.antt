use Rattle.std.proofs.Common.{◌≡◌, sym, ◌∙◌}
use Rattle.std.proofs.lemmas.Bool.{lt-ltb}
use Rattle.std.proofs.lemmas.Slice.Eq.{bytes_eq-Decides}
use Rattle.tera_values.proofs.Hashes.{same_from_hash}
use Rattle.tera_values.proofs.name.is_text.Goals as goal

pub returns-then-hash-lt-LONG : goal.returns-then-hash-lt-LONG
returns-then-hash-lt-LONG c =
    let a = c.args.text.now in
    let b = c.args.other.now in
    let hash = c.if-hash-other_hash.true ∙ c.requires.1 in
    let same : a ≡ b = same_from_hash a b c.args.hash c.type_inv.text c.type_inv.other c.if-hash-lt-LONG.true c.requires.0 hash in
    lt-ltb c.args.hash 9223372036854775808 c.if-hash-lt-LONG.true ∙ sym ((bytes_eq-Decides a b).1 same)
