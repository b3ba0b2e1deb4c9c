-- Integers that are loaded, and what is done with them at once.
use Rattle.std.proofs.Common.{◌≡◌, List, [], ◌∷◌, Some, Ok, Err, refl}
use Rattle.std.specs.Prelude.{slice_get}
use Rattle.tera_errors.specs.declared.span.Span.{Span}
use Rattle.tera_values.specs.Val.{Val}
use Rattle.tera_operators.specs.Operand.{Evaluated, Outcome}
use Rattle.tera_meaning.specs.Here.{Here}
use Rattle.tera_code.specs.declared.instruction.Instruction.TheVariants as instruction
use Rattle.tera_machine.specs.declared.cursor.Cursor.{Cursor}
use Rattle.tera_machine.specs.Config.{Config}
use Rattle.tera_machine.specs.Did.{outcome}
use Rattle.tera_machine.specs.Effect.{on_one, on_two}
use Rattle.tera_machine.specs.Paths.{Comes, start_at, topped}
use Rattle.tera_machine.proofs.Reaching.{alone_did, alone_stands}

-- a constant alone lies on top
pub loads : {T : Type 0} {here : Here} {cursor : Cursor T} {c : Config} {v : Val} {span : Span} → here.file ≡ cursor.chunk.now.file → slice_get cursor.chunk.now.code cursor.at ≡ Some (instruction.LoadConst v span) → Comes (start_at here cursor c) cursor (topped (record { value = v; span = span }) c)
loads {here = here} {cursor} {c} f e = record {
  stands = alone_stands _ f e;
  did = alone_did here cursor.chunk.now.code c cursor.at cursor.steps.now _ e;
}

-- what is made of an operand and of one that was loaded above it
pub two_is_one : (f : Evaluated → Evaluated → Outcome) (right : Evaluated) (operands : List Evaluated) (c : Config) → on_two f (right ∷ operands) (topped right c) ≡ on_one (λ a. f a right) operands c
two_is_one f right [] c = refl
two_is_one f right (a ∷ rest) c = same (f a right)
  where
    same : (o : Outcome) → outcome o rest (topped right c) ≡ outcome o rest c
    same (Ok x) = refl
    same (Err e) = refl
