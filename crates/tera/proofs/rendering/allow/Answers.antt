use Rattle.std.proofs.Common.{◌≡◌, ◌<◌, Bool, true, false, ◌||◌, if◌then◌else◌, List, [], ◌∷◌, length, Result, Ok, Err, is_some, refl, ap, sym, ◌∙◌, arith}
use Rattle.std.proofs.lemmas.Bool.Decides.{nat_tests}
use Rattle.std.proofs.lemmas.List.{nil_from_length}
use Rattle.tera_errors.specs.Fault.{Fault, message}
use Rattle.tera_syntax_tree.specs.Blocks.{top_blocks}
use Rattle.tera_syntax_tree.specs.View.{nodes_of, tree_of}
use Rattle.tera_syntax_tree.proofs.Walks.{have_no_blocks}
use Rattle.tera_meaning.specs.Rendering.{has_some}
use Rattle.tera.proofs.Renders.{told-says}
use Rattle.tera.proofs.rendering.allow.Goals as goal

pub returns-clause-plain : goal.returns-clause-plain
returns-clause-plain c =
    let found = c.in_ok-top_blocks.field-0.items in
    let none_found : length found ≡ 0 = grind (arith, nat_tests, c.is_empty.ensures, c.if-not-is_empty.false, c.in_ok-top_blocks.field-0.ok) in
    let nothing : found ≡ [] = nil_from_length found none_found in
    have_no_blocks (nodes_of c.args.output.now.nodes.items) (sym (ap (λ ns. top_blocks (nodes_of ns)) c.as_slice.ensures.value) ∙ sym c.in_ok-top_blocks.ensures.ok ∙ nothing)

long_has_some : {A : Type 0} (xs : List A) → 0 < length xs → has_some xs ≡ true
long_has_some [] long = absurd (omega (arith, long))
long_has_some (x ∷ xs) long = refl

barred : (extends has_block : Bool) → has_block ≡ true → (let done : Result (Unit {0}) Fault = if extends || has_block then Err message else Ok tt in done ≡ Err message)
barred true b is = refl
barred false b is = ap (λ b. if b then Err message else Ok tt) is

pub returns-then-not-is_empty-clause-done : goal.returns-then-not-is_empty-clause-done
returns-then-not-is_empty-clause-done c =
    let found = c.in_ok-top_blocks.field-0.items in
    let long : 0 < length found = grind (arith, nat_tests, c.is_empty.ensures, c.if-not-is_empty.true, c.in_ok-top_blocks.field-0.ok) in
    let is = c.in_ok-top_blocks.ensures.ok ∙ ap (λ ns. top_blocks (nodes_of ns)) c.as_slice.ensures.value in
    told-says _ _ c.message-then-not-is_empty.ensures (barred (is_some (tree_of c.args.output.now).parent) _ (sym (ap has_some is) ∙ long_has_some found long))
