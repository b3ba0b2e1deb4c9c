use Rattle.std.proofs.Common.{ap, ◌∙◌, codes}
use Rattle.tera_state.specs.Engine.{with_test}
use Rattle.tera_state.proofs.Registered.{on_ok}
use Rattle.tera_filters.specs.declared.extra_test.ExtraTest.TheVariants.{Matching}
use Rattle.tera_filters.specs.Pack.{in_extra}
use Rattle.tera_filters.proofs.objects.put_tests.Goals as goal

pub returns-clause-ok : goal.returns-clause-ok
returns-clause-ok g c m =
    on_ok c.register_test-2.result (λ e. e ∙ ap (with_test (codes "matching") (in_extra m.test Matching)) (c.in_ok-register_test.ensures.ok m)) (c.register_test-2.ensures.ok m)
