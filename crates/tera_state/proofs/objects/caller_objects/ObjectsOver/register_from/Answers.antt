use Rattle.std.proofs.Common.{refl, is_some}
use Rattle.tera_built_ins.specs.Filters.{filter_named}
use Rattle.tera_built_ins.specs.TestTable.{test_named}
use Rattle.tera_built_ins.specs.FunctionTable.{function_named}
use Rattle.tera_state.specs.Moving.{to_a_filter, to_a_test, to_a_function}
use Rattle.tera_state.specs.Table.{listed}
use Rattle.tera_state.proofs.Registered.{on_ok, on_err, where_err, same-engine, all-moved, some-moved}
use Rattle.tera_state.proofs.objects.caller_objects.ObjectsOver.register_from.Goals as goal

pub returns-in_err-move_from-clause-part : goal.returns-in_err-move_from-clause-part
returns-in_err-move_from-clause-part g c m =
    let part = c.in_err-move_from.ensures.part in
    let filters = some-moved m.filter (λ n. is_some (filter_named n)) (listed c.args.self.now.filters.table) (listed c.args.other.filters.table) (listed c.move_from.new.self.table) part.0 part.1 in
    where_err c.from_residual.result (to_a_filter part.0 (same-engine filters refl refl))

pub returns-in_err-move_from-2-clause-part : goal.returns-in_err-move_from-2-clause-part
returns-in_err-move_from-2-clause-part g c m =
    let part = c.in_err-move_from-2.ensures.part in
    let filters = all-moved m.filter (λ n. is_some (filter_named n)) (listed c.args.self.now.filters.table) (listed c.args.other.filters.table) (listed c.move_from.new.self.table) c.in_ok-move_from.ensures.ok in
    let tests = some-moved m.test (λ n. is_some (test_named n)) (listed c.args.self.now.tests) (listed c.args.other.tests) (listed c.move_from-2.new.self) part.0 part.1 in
    where_err c.from_residual-in_err-move_from-2.result (to_a_test part.0 (same-engine filters tests refl))

pub returns-clause-ok : goal.returns-clause-ok
returns-clause-ok g c m =
    let filters = all-moved m.filter (λ n. is_some (filter_named n)) (listed c.args.self.now.filters.table) (listed c.args.other.filters.table) (listed c.move_from.new.self.table) c.in_ok-move_from.ensures.ok in
    let tests = all-moved m.test (λ n. is_some (test_named n)) (listed c.args.self.now.tests) (listed c.args.other.tests) (listed c.move_from-2.new.self) c.in_ok-move_from-2.ensures.ok in
    let functions = all-moved m.function (λ n. is_some (function_named n)) (listed c.args.self.now.functions) (listed c.args.other.functions) (listed c.move_from-3.new.self) in
    on_ok c.move_from-3.result (λ h. same-engine filters tests (functions h)) c.move_from-3.ensures.ok

pub returns-clause-part : goal.returns-clause-part
returns-clause-part g c m =
    let filters = all-moved m.filter (λ n. is_some (filter_named n)) (listed c.args.self.now.filters.table) (listed c.args.other.filters.table) (listed c.move_from.new.self.table) c.in_ok-move_from.ensures.ok in
    let tests = all-moved m.test (λ n. is_some (test_named n)) (listed c.args.self.now.tests) (listed c.args.other.tests) (listed c.move_from-2.new.self) c.in_ok-move_from-2.ensures.ok in
    let functions = some-moved m.function (λ n. is_some (function_named n)) (listed c.args.self.now.functions) (listed c.args.other.functions) (listed c.move_from-3.new.self) in
    on_err c.move_from-3.result (λ part. to_a_function part.0 (same-engine filters tests (functions part.0 part.1))) c.move_from-3.ensures.part
