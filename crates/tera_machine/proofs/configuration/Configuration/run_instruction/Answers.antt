use Rattle.std.proofs.Common.{refl}
use Rattle.tera_machine.proofs.Reaching.{ran_alone, ran_alone_after, ran_lacking}
use Rattle.tera_machine.proofs.configuration.Configuration.run_instruction.Goals as goal

pub returns-then-are_spent : goal.returns-then-are_spent
returns-then-are_spent g c = ran_lacking c.requires c.out_of_memory.ensures

pub returns-in-Some : goal.returns-in-Some
returns-in-Some g c = ran_alone_after c.requires c.in-Some.ensures.means c.continue_after.ensures c.write_text.ensures

pub returns-in-Some-as_written_name : goal.returns-in-Some-as_written_name
returns-in-Some-as_written_name g c = ran_alone c.requires c.in-Some-as_written_name.ensures.means c.file.ensures c.write_name_turn_first.ensures

pub returns-then-is_next_turn : goal.returns-then-is_next_turn
returns-then-is_next_turn g c = ran_alone c.requires (c.if-is_next_turn.ensures.means refl) refl c.next_turn.ensures

pub returns-in-Some-as_pop_jump_if_false : goal.returns-in-Some-as_pop_jump_if_false
returns-in-Some-as_pop_jump_if_false g c = ran_alone c.requires c.in-Some-as_pop_jump_if_false.ensures.means refl c.pop_jump_if_false.ensures

pub returns-in-Some-as_jump : goal.returns-in-Some-as_jump
returns-in-Some-as_jump g c = ran_alone c.requires c.in-Some-as_jump.ensures.means refl (refl, (refl, refl))
