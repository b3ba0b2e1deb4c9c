use Rattle.std.proofs.Common.{arith, rules, refl, sym, ap, subst, ◌∙◌, ◌+◌, ◌≡◌, Ok, Err, Result, OnOk}
use Rattle.std.proofs.lemmas.Option.{slice_get_within}
use Rattle.tera_values.specs.Val.{undefined}
use Rattle.tera_meaning.specs.Meaning.{output}
use Rattle.tera_machine.specs.Config.{config_of}
use Rattle.tera_machine.specs.Flow.{On}
use Rattle.tera_machine.specs.Did.{Goes}
use Rattle.tera_machine.specs.Effect.{Effected, put_out}
use Rattle.tera_machine.specs.Subject.{here_of}
use Rattle.tera_machine.specs.Paths.{Stands, Reaches, done_since, start_at, topped}
use Rattle.tera_machine.proofs.Reaching.{alone_stands, begins, counted_so, stayed, position, more, more_did, two_more, compared_comes, compared_breaks}
use Rattle.tera_machine.proofs.configuration.Configuration.run_path.Given.{Over}
use Rattle.tera_machine.proofs.configuration.Configuration.run_path.Goals as goal
use Rattle.tera_machine.proofs.configuration.Configuration.run_path.Goals.{In-Some, In-Ok, In_default-branch_on}

abbrev ok_or : {A E : Type 0} → A → Result A E → A
ok_or d (Ok a) = a
ok_or d (Err e) = d

on_ok : {A E P : Type 0} (r : Result A E) → P → OnOk r P
on_ok (Ok a) p = p
on_ok (Err e) p = tt

-- what the name stands for lies on top
begun : (g : Over) (c : In-Some g) → Reaches (start_at (here_of g.O.Objects.engine c.args.machine.now c.args.cursor.now.chunk.now.file c.args.self.now) c.args.cursor.now (config_of c.args.self.now)) c.args.cursor.now c.in-Some.first
begun g c = begins refl c.requires.there c.as_name_ref.ensures c.look-found.ensures c.in-Some.ensures

-- what was read of it lies on top, and nothing else was done
reached : (g : Over) (c : In-Ok g) → Reaches (start_at (here_of g.O.Objects.engine c.args.machine.now c.args.cursor.now.chunk.now.file c.args.self.now) c.args.cursor.now (config_of c.args.self.now)) c.attributes.new.cursor c.in-Ok.reached
reached g c = c.in-Ok.ensures.ok _ (begins refl c.requires.there c.as_name_ref.ensures c.look-found.ensures c.in-Some.ensures)

-- so it does where it is not tested
untested : (g : Over) (c : In_default-branch_on g) → Reaches (start_at (here_of g.O.Objects.engine c.args.machine.now c.args.cursor.now.chunk.now.file c.args.self.now) c.args.cursor.now (config_of c.args.self.now)) c.branch_on.new.cursor c.in-Ok.reached
untested g c = subst (λ p. Reaches (start_at (here_of g.O.Objects.engine c.args.machine.now c.args.cursor.now.chunk.now.file c.args.self.now) c.args.cursor.now (config_of c.args.self.now)) p c.in-Ok.reached) (sym c.in_default-branch_on.ensures.stays) (c.in-Ok.ensures.ok _ (begins refl c.requires.there c.as_name_ref.ensures c.look-found.ensures c.in-Some.ensures))

pub returns-in_default : goal.returns-in_default
returns-in_default g c =
    let top : Reaches (start_at (here_of g.O.Objects.engine c.args.machine.now c.args.cursor.now.chunk.now.file c.args.self.now) c.args.cursor.now (config_of c.args.self.now)) c.args.cursor.now c.new-operand.result = begins refl c.requires.there c.as_name_ref.ensures c.look-found.ensures (c.new-operand.ensures ∙ ap (λ v. record { value = v; span = c.args.span }) (sym (ap (ok_or undefined) c.in_ok-to_value.ensures))) in
    c.finish_path.ensures _ top

pub attributes-requires : goal.attributes-requires
attributes-requires g c = position (begun g (goal.at.attributes-requires g c).In-Some).stands c.requires.few

pub returns-in-Err : goal.returns-in-Err
returns-in-Err g c = record {
  stands = c.in-Err.ensures.stands _ (begun g (goal.at.returns-in-Err g c).In-Some);
  does = (c.in-Err.ensures.err _ (begun g (goal.at.returns-in-Err g c).In-Some) _, (refl, tt));
}

pub branch_on-requires : goal.branch_on-requires
branch_on-requires g c = position (reached g (goal.at.branch_on-requires g c).In-Ok).stands c.requires.few

pub returns-in-Some-branch_on : goal.returns-in-Some-branch_on
returns-in-Some-branch_on g c = record {
  stands = c.in-Some-branch_on.ensures.stands _ _ (reached g (goal.at.returns-in-Some-branch_on g c).In-Ok);
  does = (c.in-Some-branch_on.ensures.goes _ (config_of c.args.self.now) (reached g (goal.at.returns-in-Some-branch_on g c).In-Ok), (refl, refl));
}

pub overflow_add-cursor : goal.overflow_add-cursor
overflow_add-cursor g c = omega (arith, (untested g (goal.at.overflow_add-cursor g c).In_default-branch_on).stands.there, c.requires.few)

pub overflow_add-cursor-then-writes_top_at : goal.overflow_add-cursor-then-writes_top_at
overflow_add-cursor-then-writes_top_at g c =
    omega (arith, (untested g (goal.at.overflow_add-cursor-then-writes_top_at g c).In_default-branch_on).stands.there, c.requires.few)

pub returns-then-writes_top_at : goal.returns-then-writes_top_at
returns-then-writes_top_at g c =
    let did = more_did (untested g (goal.at.returns-then-writes_top_at g c).In_default-branch_on) (c.if-writes_top_at.ensures.means refl) refl (counted_so c.if-writes_top_at.ensures.count) in
    let put = subst (λ f. Effected (put_out (output (here_of g.O.Objects.engine c.args.machine.now f c.args.self.now) c.in-Ok.reached) (config_of c.args.self.now)) c.write_lent.result (config_of (record c.args.self.now { texts = c.write_lent.new.texts }))) c.file.ensures (c.write_lent.ensures c.args.self.now refl) in
    record {
      stands = more (untested g (goal.at.returns-then-writes_top_at g c).In_default-branch_on) (c.if-writes_top_at.ensures.means refl) refl (counted_so c.if-writes_top_at.ensures.count);
      does = (subst (λ d. Effected d c.write_lent.result (config_of (record c.args.self.now { texts = c.write_lent.new.texts }))) (sym did) put, (refl, on_ok c.write_lent.result refl));
    }

pub overflow_add-cursor-2 : goal.overflow_add-cursor-2
overflow_add-cursor-2 g c = omega (arith, (untested g (goal.at.overflow_add-cursor-2 g c).In_default-branch_on).stands.there, c.requires.few)

pub returns-in_err-operand : goal.returns-in_err-operand
returns-in_err-operand g c = record {
  stands = subst (Stands (start_at (here_of g.O.Objects.engine c.args.machine.now c.args.cursor.now.chunk.now.file c.args.self.now) c.args.cursor.now (config_of c.args.self.now))) (sym (stayed (c.in_default-comparison_at.ensures.count ∙ c.if-writes_top_at.ensures.count))) (untested g (goal.at.returns-in_err-operand g c).In_default-branch_on).stands;
  does = search rules;
}

pub returns-in_default-comparison_at : goal.returns-in_default-comparison_at
returns-in_default-comparison_at g c =
    let did = subst (λ p. done_since (start_at (here_of g.O.Objects.engine c.args.machine.now c.args.cursor.now.chunk.now.file c.args.self.now) c.args.cursor.now (config_of c.args.self.now)) p ≡ Goes (topped c.in_ok-operand.operand (config_of c.args.self.now)) On) (sym (stayed {cursor = c.branch_on.new.cursor} (c.in_default-comparison_at.ensures.count ∙ c.if-writes_top_at.ensures.count))) ((untested g (goal.at.returns-in_default-comparison_at g c).In_default-branch_on).did ∙ ap (λ a. Goes (topped a (config_of c.args.self.now)) On) (ap (ok_or c.in-Ok.reached) c.in_ok-operand.ensures.operand)) in
    record {
      stands = subst (Stands (start_at (here_of g.O.Objects.engine c.args.machine.now c.args.cursor.now.chunk.now.file c.args.self.now) c.args.cursor.now (config_of c.args.self.now))) (sym (stayed (c.in_default-comparison_at.ensures.count ∙ c.if-writes_top_at.ensures.count))) (untested g (goal.at.returns-in_default-comparison_at g c).In_default-branch_on).stands;
      does = (subst (λ d. Effected d c.push_operand.result (config_of c.push_operand.new.self)) (sym did) c.push_operand.ensures.0, c.push_operand.ensures.1);
    }

pub overflow_add-cursor-3 : goal.overflow_add-cursor-3
overflow_add-cursor-3 g c = omega (arith, (two_more (untested g (goal.at.overflow_add-cursor-3 g c).In_default-branch_on) c.in-Some-comparison_at.ensures.means refl (counted_so (c.in-Some-comparison_at.ensures.count ∙ ap (λ n. n + 2) c.if-writes_top_at.ensures.count))).there, c.requires.few)

pub test_or_push-requires : goal.test_or_push-requires
test_or_push-requires g c = position (two_more (untested g (goal.at.test_or_push-requires g c).In_default-branch_on) c.in-Some-comparison_at.ensures.means refl (counted_so (c.in-Some-comparison_at.ensures.count ∙ ap (λ n. n + 2) c.if-writes_top_at.ensures.count))) c.requires.few

pub returns-in-Ok-compare_with_constant : goal.returns-in-Ok-compare_with_constant
returns-in-Ok-compare_with_constant g c = record {
  stands = c.test_or_push.ensures.stands _ _ (compared_comes (config_of c.args.self.now) (untested g (goal.at.returns-in-Ok-compare_with_constant g c).In_default-branch_on) c.in-Some-comparison_at.ensures.means refl (counted_so (c.in-Some-comparison_at.ensures.count ∙ ap (λ n. n + 2) c.if-writes_top_at.ensures.count)) c.file-2.ensures c.in-Ok-compare_with_constant.ensures);
  does = c.test_or_push.ensures.does _ (compared_comes (config_of c.args.self.now) (untested g (goal.at.returns-in-Ok-compare_with_constant g c).In_default-branch_on) c.in-Some-comparison_at.ensures.means refl (counted_so (c.in-Some-comparison_at.ensures.count ∙ ap (λ n. n + 2) c.if-writes_top_at.ensures.count)) c.file-2.ensures c.in-Ok-compare_with_constant.ensures);
}

pub returns-in-Err-compare_with_constant : goal.returns-in-Err-compare_with_constant
returns-in-Err-compare_with_constant g c = record {
  stands = two_more (untested g (goal.at.returns-in-Err-compare_with_constant g c).In_default-branch_on) c.in-Some-comparison_at.ensures.means refl (counted_so (c.in-Some-comparison_at.ensures.count ∙ ap (λ n. n + 2) c.if-writes_top_at.ensures.count));
  does = (compared_breaks (config_of c.args.self.now) (untested g (goal.at.returns-in-Err-compare_with_constant g c).In_default-branch_on) c.in-Some-comparison_at.ensures.means refl (counted_so (c.in-Some-comparison_at.ensures.count ∙ ap (λ n. n + 2) c.if-writes_top_at.ensures.count)) c.file-2.ensures c.in-Err-compare_with_constant.error c.in-Err-compare_with_constant.ensures _, (refl, tt));
}

pub returns-in_err-to_value : goal.returns-in_err-to_value
returns-in_err-to_value g c = record {
  stands = alone_stands _ refl c.requires.there;
  does = search rules;
}

pub finish_path-requires : goal.finish_path-requires
finish_path-requires g c = record { few = c.requires.few; there = slice_get_within c.args.cursor.now.chunk.now.code c.args.cursor.now.at _ c.requires.there }
