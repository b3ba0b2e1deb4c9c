use Rattle.std.proofs.Common.{rules, ◌≡◌, true, false, ℕ, ◌<◌, Some, take, sym, ap, ◌∙◌, arith}
use Rattle.tera_syntax_tree.specs.View.{key_option}
use Rattle.tera_values.specs.Val.{ktext}
use Rattle.tera_values.specs.Access.{find}
use Rattle.tera_operators.specs.Entries.{listed, is_at}
use Rattle.tera_operators.proofs.Listing.{listed_none, found_last, found_before}
use Rattle.tera_operators.proofs.map_entries.value_at_key.Goals as goal

pub returns-then-is_at : goal.returns-then-is_at
returns-then-is_at c =
    let j = ktext c.args.name.now in
    let key = c.index-keys-left.result in
    let x = c.index-operands-left.result in
    let some : 0 < c.loop-left.left = omega (arith, c.loop-left-test.true) in
    let it : is_at j (key_option key) ≡ true = search rules in
    ap Some c.value.ensures
    ∙ sym (c.loop-left.invariant.1 ∙ found_last j c.args.keys.now c.args.operands.now c.loop-left.left key x some c.loop-left.invariant.0 c.requires c.index-keys-left.is c.index-operands-left.is it)

pub loop-left-preserved : goal.loop-left-preserved
loop-left-preserved c =
    let j = ktext c.args.name.now in
    let key = c.index-keys-left.result in
    let some : 0 < c.loop-left.left = omega (arith, c.loop-left-test.true) in
    let other : is_at j (key_option key) ≡ false = search rules in (
      omega (arith, c.loop-left.invariant.0),
      c.loop-left.invariant.1 ∙ found_before j c.args.keys.now c.args.operands.now c.loop-left.left key some c.loop-left.invariant.0 c.requires c.index-keys-left.is other,
    )

pub returns : goal.returns
returns c =
    let j = ktext c.args.name.now in
    let keys = c.args.keys.now in
    let xs = c.args.operands.now in
    let none : c.loop-left.left ≡ 0 = omega (arith, c.loop-left-test.false) in
    sym (
    c.loop-left.invariant.1
    ∙ ap (λ (m : ℕ). find j (listed keys (take m xs))) none
    ∙ ap (find j) (listed_none keys))
