-- The table while it is made.
use Rattle.std.specs.Prelude.{ℕ, List, length, Option}
use Rattle.std.specs.List.{All}
use Rattle.tera_meaning.specs.Registry.{Registry, Entry as Meant}
use Rattle.tera_meaning.specs.Lineage.{ancestors}
use Rattle.tera_registry.specs.declared.code.TemplateBlock.{TemplateBlock}
use Rattle.tera_registry.specs.declared.body_table.LinkedBody.{LinkedBody}
use Rattle.tera_registry.specs.declared.body_table.Linking.{Linking}
use Rattle.tera_registry.specs.declared.body_table.Targets.{Targets}
use Rattle.tera_registry.specs.Bodies.{AreStarts}
use Rattle.tera_registry.specs.Definers.{Climbable}
use Rattle.tera_registry.specs.References.{IsLinked}
use Rattle.tera_registry.specs.Kept.{Rises, entries_of, seen}
use Rattle.tera_registry.specs.Numbers.{first_of, lineage}

-- what the code of all these takes leads to these targets
abbrev pub AreLinked : Targets → List LinkedBody → Type 0
AreLinked to = All (IsLinked (seen to.templates.now to.prefixes.now) to.choices.now)

-- of a block of a template, the number of the next body above that defines it
abbrev pub above_block : Registry → Meant → TemplateBlock → Option ℕ
above_block r t b = first_of (lineage r b.name (ancestors r t))

-- it knows the templates of a registry: what each extends, and the number of its first body
pub record Knows (r : Registry) (linking : Linking) : Type 0 where
  pub rises : Rises (entries_of linking.targets.templates.now)
  pub climbable : Climbable r linking.targets.templates.now linking.ups.now
  pub starts : AreStarts r.templates linking.starts.now
      (length linking.targets.templates.now)
