use Rattle.std.proofs.Common.{◌+◌, arith, refl, sym, subst, ◌∙◌, w64}
use Rattle.std.proofs.lemmas.Int.{to_z-of_z}
use Rattle.std.proofs.lemmas.Option.{slice_get_within}
use Rattle.tera_values.specs.Val.{int}
use Rattle.tera_operators.specs.Operators.{binary_of}
use Rattle.tera_machine.specs.Config.{config_of}
use Rattle.tera_machine.specs.Did.{pushed}
use Rattle.tera_machine.specs.Effect.{Does, Effected, continue_after, on_one}
use Rattle.tera_machine.specs.Subject.{here_of}
use Rattle.tera_machine.proofs.Loaded.{loads, two_is_one}
use Rattle.tera_machine.proofs.Reaching.{counted_so, more, more_did, ran_so, stayed}
use Rattle.tera_machine.proofs.configuration.Configuration.load_integer_and_apply.Goals as goal

pub returns-then-is_empty : goal.returns-then-is_empty
returns-then-is_empty g c =
    let did = subst (λ z. Does (pushed (int z) c.args.span) c.args.self.now (continue_after c.load_integer.result) c.load_integer.new.self) (to_z-of_z w64 c.args.number c.ranges.number) c.load_integer.ensures in
    ran_so g.O.Objects.engine c.args.machine.now c.requires.there refl refl c.continue_after.ensures did

pub overflow_add-cursor : goal.overflow_add-cursor
overflow_add-cursor g c = omega (arith, slice_get_within c.args.cursor.now.chunk.now.code c.args.cursor.now.at _ c.requires.there, c.requires.few)

pub overflow_add-cursor-in-Some : goal.overflow_add-cursor-in-Some
overflow_add-cursor-in-Some g c = omega (arith, slice_get_within c.args.cursor.now.chunk.now.code c.args.cursor.now.at _ c.requires.there, c.requires.few)

pub returns-in-Some : goal.returns-in-Some
returns-in-Some g c =
    let old = config_of c.args.self.now in
    let here = here_of g.O.Objects.engine c.args.machine.now c.args.cursor.now.chunk.now.file c.args.self.now in
    let did = more_did (loads {here = here} {cursor = c.args.cursor.now} {c = old} refl c.requires.there) c.in-Some.ensures.means refl (counted_so {cursor = c.args.cursor.now} {at = c.args.cursor.now.at + 1} c.in-Some.ensures.count) ∙ two_is_one (λ a b. binary_of c.args.cursor.now.chunk.now.file c.in-Some.operator a b c.in-Some.whole) (record { value = int c.args.number; span = c.args.span }) old.operands old in
    let put = subst (λ f. Effected (on_one (λ a. binary_of f c.in-Some.operator a (record { value = int c.args.number; span = c.args.span }) c.in-Some.whole) old.operands old) c.operate_with.result (config_of c.operate_with.new.self)) c.file.ensures (subst (λ z. Effected (on_one (λ a. binary_of c.file.result.now c.in-Some.operator a (record { value = int z; span = c.args.span }) c.in-Some.whole) old.operands old) c.operate_with.result (config_of c.operate_with.new.self)) (to_z-of_z w64 c.args.number c.ranges.number) c.operate_with.ensures.0) in
    record {
      stands = more (loads refl c.requires.there) c.in-Some.ensures.means refl (counted_so c.in-Some.ensures.count);
      does = (subst (λ d. Effected d c.operate_with.result (config_of c.operate_with.new.self)) (sym did) put, c.operate_with.ensures.1);
    }

pub returns-in-None : goal.returns-in-None
returns-in-None g c =
    let did = subst (λ z. Does (pushed (int z) c.args.span) c.args.self.now (continue_after c.load_integer-in-None.result) c.load_integer-in-None.new.self) (to_z-of_z w64 c.args.number c.ranges.number) c.load_integer-in-None.ensures in
    ran_so g.O.Objects.engine c.args.machine.now c.requires.there refl (stayed c.in-None.ensures.count) c.continue_after-in-None.ensures did
