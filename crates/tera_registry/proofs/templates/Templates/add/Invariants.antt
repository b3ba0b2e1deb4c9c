use Rattle.tera_registry.specs.Kept.{seen_by}
use Rattle.tera_registry.proofs.templates.Templates.add.Given as goal

abbrev pub ghost-link : goal.ghost-link
ghost-link g a = seen_by (g.O.Objects.engine a.objects.now) a.templates.now a.prefixes.now
