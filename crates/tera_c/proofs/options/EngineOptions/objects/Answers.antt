use Rattle.std.proofs.Common.{rules, ◌≡◌, Ok, sym, ap, ◌∙◌}
use Rattle.tera.specs.Engine.{standard_engine}
use Rattle.tera_c.specs.Options.{engine_with}
use Rattle.tera_c.proofs.options.EngineOptions.objects.Goals as goal

pub returns-then-self-ne0 : goal.returns-then-self-ne0
returns-then-self-ne0 c = let plain : engine_with c.args.self.now ≡ standard_engine = search rules in ap Ok (plain ∙ sym (c.new.ensures _))
