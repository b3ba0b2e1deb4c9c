use Rattle.std.proofs.Common.{refl}
use Rattle.tera_machine.proofs.Reaching.{ran_alone}
use Rattle.tera_machine.proofs.configuration.Configuration.run_constant_or_built_in.Goals as goal

pub returns-in-Some : goal.returns-in-Some
returns-in-Some g c = ran_alone c.requires.can c.in-Some.ensures.means refl c.load_constant.ensures

pub returns-in-Some-as_jump_if_false_or_pop : goal.returns-in-Some-as_jump_if_false_or_pop
returns-in-Some-as_jump_if_false_or_pop g c = ran_alone c.requires.can c.in-Some-as_jump_if_false_or_pop.ensures.means refl c.jump_or_pop.ensures

pub returns-in-Some-as_jump_if_true_or_pop : goal.returns-in-Some-as_jump_if_true_or_pop
returns-in-Some-as_jump_if_true_or_pop g c = ran_alone c.requires.can c.in-Some-as_jump_if_true_or_pop.ensures.means refl c.jump_or_pop-in-Some-as_jump_if_true_or_pop.ensures

pub returns-then-is_not : goal.returns-then-is_not
returns-then-is_not g c = ran_alone c.requires.can (c.if-is_not.ensures.means refl) refl c.negate_truth.ensures

pub returns-in-Some-as_built_in_filter : goal.returns-in-Some-as_built_in_filter
returns-in-Some-as_built_in_filter g c = ran_alone c.requires.can c.in-Some-as_built_in_filter.ensures.means.0 c.file.ensures c.apply_filter.ensures

pub returns-in-Some-as_built_in_test : goal.returns-in-Some-as_built_in_test
returns-in-Some-as_built_in_test g c = ran_alone c.requires.can c.in-Some-as_built_in_test.ensures.means.0 c.file-in-Some-as_built_in_test.ensures c.apply_test.ensures
