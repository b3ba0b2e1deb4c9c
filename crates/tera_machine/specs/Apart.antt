-- How the machine enters and leaves a body that stands in a state of its own: that of a template
-- that is included, and that of a component.
use Rattle.std.specs.Prelude.{◌≡◌, List, [], ◌∷◌, ◌++◌}
use Rattle.tera_errors.specs.Site.{Name, Text}
use Rattle.tera_values.specs.Val.{text}
use Rattle.tera_state.specs.Scope.{Around, Variables, nothing_set}
use Rattle.tera_state.specs.Scopes.{variables_of, around_of, coming_of, coming_around}
use Rattle.tera_machine.specs.declared.block_bodies.SavedBody.{SavedBody}
use Rattle.tera_machine.specs.declared.configuration.Configuration.{Configuration}
use Rattle.tera_machine.specs.Config.{Config, Loop, config_of, loops_at}
use Rattle.tera_machine.specs.Flow.{Use, Written, Pushed}
use Rattle.tera_machine.specs.Exec.{entered}

-- the body begins, with this around its variables, and what it does not see is kept for the body
-- around
pub record Begins (inside : Around) (c0 : Configuration) (outer : SavedBody)
    (c : Configuration) : Type 0 where
  pub config : config_of c ≡ entered nothing_set (config_of c0)
  pub around : around_of c.scopes ≡ inside
  pub coming : coming_around c.scopes ≡ coming_of c0.scopes ∷ coming_around c0.scopes
  pub none : c.places ≡ []
  pub places : outer.places ≡ c0.places
  pub ended : outer.ended.all ≡ c0.ended.all

-- what is made of the text of a body, with the variables, ended blocks and loops of the body around
abbrev pub joined_in : Use → List Text → Variables → List (Name × Text) → List Loop → Config
    → Config
joined_in u [] v blocks loops c = c
joined_in Written (t ∷ ts) v blocks loops c =
    record {
      operands = c.operands;
      captures = ts;
      loops = loops;
      run = record { vars = v; text = t ++ c.run.text; blocks = blocks };
    }
joined_in (Pushed safe span) (t ∷ ts) v blocks loops c = record {
  operands = record { value = text c.run.text safe; span = span } ∷ c.operands;
  captures = ts;
  loops = loops;
  run = record { vars = v; text = t; blocks = blocks };
}

-- the body ended, and the body around goes on
pub record Rejoins (u : Use) (c0 : Configuration) (outer : SavedBody) (c : Configuration) : Type 0 where
  pub config : config_of c
      ≡ joined_in u (config_of c0).captures (variables_of c.scopes) outer.ended.all
      (loops_at outer.places (coming_of c.scopes)) (config_of c0)
  pub around : (around_of c0.scopes).above ≡ ((around_of c.scopes).frame, variables_of c.scopes)
      ∷ (around_of c.scopes).above
  pub coming : coming_around c0.scopes ≡ coming_of c.scopes ∷ coming_around c.scopes
  pub places : c.places ≡ outer.places
  pub ended : c.ended.all ≡ outer.ended.all
