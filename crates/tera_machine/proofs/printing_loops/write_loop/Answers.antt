use Rattle.std.proofs.Common.{◌≡◌, ◌+◌, ◌∙◌, Some, ap, arith, length, refl, sym}
use Rattle.std.proofs.lemmas.Option.{slice_get_within}
use Rattle.tera_values.specs.Val.{array, vals}
use Rattle.tera_state.specs.Items.{unkeyed}
use Rattle.tera_meaning.specs.Here.{Here}
use Rattle.tera_operators.specs.Operand.{Evaluated}
use Rattle.tera_machine.specs.Config.{Config}
use Rattle.tera_machine.specs.Paths.{start_at, topped}
use Rattle.tera_machine.specs.Printing.{Before, PrintsItems, at_items, items_called, saying}
use Rattle.tera_machine.proofs.Parts.{prints_items, loop_begins, stands_before, loop_closes, closed_there, closed_by}
use Rattle.tera_machine.proofs.Reaching.{counted_so}
use Rattle.tera_machine.proofs.printing_loops.write_loop.Given.{Over}
use Rattle.tera_machine.proofs.printing_loops.write_loop.Goals as goal
use Rattle.tera_machine.proofs.printing_loops.write_loop.Goals.{In-Some}

-- the body puts out texts and items alone
prints : (g : Over) (c : In-Some g) → PrintsItems c.args.cursor.now.chunk.now.code (c.args.cursor.now.at + 1) c.args.size c.in-Some.field-0-1
prints g c = (prints_items c.args.cursor.now.chunk.now.code c.args.cursor.now.at c.args.size c.args.opening.now c.in-Some.field-0-0 c.in-Some.field-0-1 c.in-Some.field-0-2 c.in-Some.field-0-3 c.requires.opens.there c.in-Some.ensures.means c.requires.printing c.requires.ends).2

-- its first turn is begun
begun : (g : Over) (c : In-Some g) (here : Here) (a : Evaluated) (d : Config) → here.file ≡ c.args.cursor.now.chunk.now.file → a.value ≡ array (vals c.args.items.now) → Before (start_at here c.args.cursor.now (topped a (saying c.args.texts.now.now d))) c.args.cursor.now (c.args.cursor.now.at + 1) (at_items (items_called c.in-Some.field-0-1 c.in-Some.field-0-2) (length (unkeyed c.args.items.now)) 0 (c.args.cursor.now.at + 1) c.args.size c.args.items.now (saying c.args.texts.now.now d))
begun g c here a d f v =
    let known = prints_items c.args.cursor.now.chunk.now.code c.args.cursor.now.at c.args.size c.args.opening.now c.in-Some.field-0-0 c.in-Some.field-0-1 c.in-Some.field-0-2 c.in-Some.field-0-3 c.requires.opens.there c.in-Some.ensures.means c.requires.printing c.requires.ends in
    loop_begins here c.args.cursor.now c.args.size c.args.opening.now c.in-Some.field-0-0 c.in-Some.field-0-1 c.in-Some.field-0-2 c.in-Some.field-0-3 c.args.items.now a (saying c.args.texts.now.now d) f c.requires.opens.there c.in-Some.ensures.means known.0 known.1 c.requires.some v

pub returns-in-Err-clause-stands : goal.returns-in-Err-clause-stands
returns-in-Err-clause-stands g c = λ here a d is v.
    (c.in-Err.ensures.err _ c.in-Some.field-0-1 c.in-Some.field-0-2 d is (prints g (goal.at.returns-in-Err-clause-stands g c).In-Some) c.requires.some (begun g (goal.at.returns-in-Err-clause-stands g c).In-Some here a d is.0 v)).0

pub returns-in-Err-clause-does : goal.returns-in-Err-clause-does
returns-in-Err-clause-does g c = λ here a d is v.
    (c.in-Err.ensures.err _ c.in-Some.field-0-1 c.in-Some.field-0-2 d is (prints g (goal.at.returns-in-Err-clause-does g c).In-Some) c.requires.some (begun g (goal.at.returns-in-Err-clause-does g c).In-Some here a d is.0 v)).1 _

pub overflow_add-start : goal.overflow_add-start
overflow_add-start g c = omega (arith, slice_get_within c.args.cursor.now.chunk.now.code _ _ c.requires.ends, c.requires.opens.few)

pub overflow_add-cursor : goal.overflow_add-cursor
overflow_add-cursor g c = omega (arith, slice_get_within c.args.cursor.now.chunk.now.code _ _ c.requires.ends, c.requires.opens.few)

pub returns-in_default-get-clause-stands : goal.returns-in_default-get-clause-stands
returns-in_default-get-clause-stands g c = λ here a d is v.
    absurd (closed_there c.args.cursor.now.chunk.now.code _ (prints g (goal.at.returns-in_default-get-clause-stands g c).In-Some).closes c.in_default-get.ensures.found)

pub returns-in_default-get-clause-does : goal.returns-in_default-get-clause-does
returns-in_default-get-clause-does g c = λ here a d is v.
    absurd (closed_there c.args.cursor.now.chunk.now.code _ (prints g (goal.at.returns-in_default-get-clause-does g c).In-Some).closes c.in_default-get.ensures.found)

pub returns-in-Some-as_end_loop-clause-stands : goal.returns-in-Some-as_end_loop-clause-stands
returns-in-Some-as_end_loop-clause-stands g c = λ here a d is v.
    stands_before (c.in-Ok.ensures.ok _ c.in-Some.field-0-1 c.in-Some.field-0-2 d is (prints g (goal.at.returns-in-Some-as_end_loop-clause-stands g c).In-Some) c.requires.some (begun g (goal.at.returns-in-Some-as_end_loop-clause-stands g c).In-Some here a d is.0 v)).before c.in-Some-get.ensures.found (counted_so c.in-Some-get.ensures.count) refl

pub returns-in-Some-as_end_loop-clause-does : goal.returns-in-Some-as_end_loop-clause-does
returns-in-Some-as_end_loop-clause-does g c = λ here a d is v.
    loop_closes (c.in-Ok.ensures.ok _ c.in-Some.field-0-1 c.in-Some.field-0-2 d is (prints g (goal.at.returns-in-Some-as_end_loop-clause-does g c).In-Some) c.requires.some (begun g (goal.at.returns-in-Some-as_end_loop-clause-does g c).In-Some here a d is.0 v)) c.in-Some-as_end_loop.skip (c.in-Some-get.ensures.found ∙ ap Some c.in-Some-as_end_loop.ensures.means) (counted_so {at = c.args.cursor.now.at} c.in-Some-get.ensures.count)

pub returns-in-None-clause-stands : goal.returns-in-None-clause-stands
returns-in-None-clause-stands g c = λ here a d is v.
    absurd (closed_by c.args.cursor.now.chunk.now.code _ _ (prints g (goal.at.returns-in-None-clause-stands g c).In-Some).closes c.in-Some-get.ensures.found (sym c.in-None.ensures.exact))

pub returns-in-None-clause-does : goal.returns-in-None-clause-does
returns-in-None-clause-does g c = λ here a d is v.
    absurd (closed_by c.args.cursor.now.chunk.now.code _ _ (prints g (goal.at.returns-in-None-clause-does g c).In-Some).closes c.in-Some-get.ensures.found (sym c.in-None.ensures.exact))
