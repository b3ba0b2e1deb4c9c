use Rattle.std.proofs.Common.{rules, ℕ, ◌+◌, length-append, ◌≡◌, ◌≤◌, ◌++◌, [], ◌∷◌, Ok, List, Option, length, get_or, map as map_list, arith, ◌∙◌, ap, sym}
use Rattle.std.specs.List.{zip}
use Rattle.tera_syntax_tree.specs.View.{key_option}
use Rattle.tera_errors.specs.Answer.{Says}
use Rattle.tera_syntax_tree.specs.Tree.{Key}
use Rattle.tera_operators.specs.Operand.{Evaluated}
use Rattle.tera_operators.specs.Literals.{map_entries, entry_after}
use Rattle.tera_operators.proofs.Keeping.{with_spread, onto, from_right_onto, onto_popped, says_onto, zip_none, nothing}
use Rattle.tera_operators.proofs.map_literals.map_of_entries.Goals as goal

pub loop-operand-init : goal.loop-operand-init
loop-operand-init c = (
  omega arith,
  with_spread c.args.file.now c.args.keys.now c.args.operands.items c.requires (sym c.has_spread.ensures ∙ c.if-not-has_spread.false)
      ∙ rw c.new-all.ensures (from_right_onto c.args.file.now (zip (map_list key_option c.args.keys.now) c.args.operands.items)),
)

pub loop-operand-preserved : goal.loop-operand-preserved
loop-operand-preserved c =
    let old = c.loop-operand.operands.items in
    let new = c.pop.new.self.items in
    let popped : old ≡ new ++ c.in-Some.operand ∷ [] = c.in-Some.ensures.items in
    let fits : length old ≤ length c.args.keys.now = c.loop-operand.invariant.0 in
    let fewer : length old ≡ length new + 1 = ap length popped ∙ simp length-append in
    let position : c.len.result ≡ length new = search rules in
    let key : c.index-keys-len.result ≡ get_or c.args.keys.now (length new) c.index-keys-len.result = c.index-keys-len.is ∙ ap (λ (n : ℕ). get_or c.args.keys.now n c.index-keys-len.result) position in (
      omega (arith, fits, fewer),
      c.loop-operand.invariant.1
          ∙ onto_popped c.args.file.now c.args.keys.now old new c.in-Some.operand c.index-keys-len.result c.loop-operand.all popped fits key
          ∙ ap (onto c.args.file.now (zip (map_list key_option c.args.keys.now) new)) c.in_ok-put_after.ensures,
    )

pub returns-in_err-put_after : goal.returns-in_err-put_after
returns-in_err-put_after c =
    let old = c.loop-operand.operands.items in
    let new = c.pop.new.self.items in
    let ks = map_list key_option c.args.keys.now in
    let popped : old ≡ new ++ c.in-Some.operand ∷ [] = c.in-Some.ensures.items in
    let position : c.len.result ≡ length new = search rules in
    let key : c.index-keys-len.result ≡ get_or c.args.keys.now (length new) c.index-keys-len.result = c.index-keys-len.is ∙ ap (λ (n : ℕ). get_or c.args.keys.now n c.index-keys-len.result) position in
    let e : map_entries c.args.file.now (zip ks c.args.operands.items) ≡ onto c.args.file.now (zip ks new) (entry_after c.args.file.now (key_option c.index-keys-len.result) c.in-Some.operand c.loop-operand.all) =
    c.loop-operand.invariant.1 ∙ onto_popped c.args.file.now c.args.keys.now old new c.in-Some.operand c.index-keys-len.result c.loop-operand.all popped c.loop-operand.invariant.0 key in
    let says : Says c.in_err-put_after.field-0.0 (map_entries c.args.file.now (zip ks c.args.operands.items)) = says_onto c.in_err-put_after.field-0.0 c.args.file.now (zip ks new) _ _ e c.in_err-put_after.ensures in
    search rules

pub returns : goal.returns
returns c =
    let ks = map_list key_option c.args.keys.now in
    let none : c.loop-operand.operands.items ≡ [] = nothing c.loop-operand.operands.items (search rules) in
    c.loop-operand.invariant.1
    ∙ ap (λ (xs : List Evaluated). onto c.args.file.now (zip ks xs) (Ok c.loop-operand.all)) none
    ∙ ap (λ (es : List (Option Key × Evaluated)). onto c.args.file.now es (Ok c.loop-operand.all)) (zip_none ks)
