use Rattle.std.proofs.Common.{refl}
use Rattle.tera_machine.proofs.Reaching.{ran_alone}
use Rattle.tera_machine.proofs.configuration.Configuration.run_request.Goals as goal

pub returns-in-Some : goal.returns-in-Some
returns-in-Some g c = ran_alone c.requires.can c.in-Some.ensures.means refl (refl, (refl, refl))

pub returns-in-Some-as_include : goal.returns-in-Some-as_include
returns-in-Some-as_include g c = ran_alone c.requires.can c.in-Some-as_include.ensures.means refl (refl, (refl, refl))

pub returns-in-Some-as_super : goal.returns-in-Some-as_super
returns-in-Some-as_super g c = ran_alone c.requires.can c.in-Some-as_super.ensures.means refl c.request_super.ensures

pub returns-in-Some-as_component : goal.returns-in-Some-as_component
returns-in-Some-as_component g c = ran_alone c.requires.can c.in-Some-as_component.ensures.means c.file.ensures c.request_component.ensures
