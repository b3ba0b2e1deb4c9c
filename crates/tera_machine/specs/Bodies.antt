-- How the machine takes the body of a block, and how it leaves it.
use Rattle.std.specs.Prelude.{◌≡◌, ℕ, List, [], ◌∷◌, ◌++◌, Option, Some, None, Result, Ok, Err}
use Rattle.tera_errors.specs.Site.{Name, Text}
use Rattle.tera_errors.specs.Answer.{SeenError}
use Rattle.tera_syntax_tree.specs.Tree.{Nodes}
use Rattle.tera_state.specs.Scope.{Variables}
use Rattle.tera_state.specs.Scopes.{around_of, coming_of}
use Rattle.tera_meaning.specs.Lineage.{Definer}
use Rattle.tera_meaning.specs.Registry.{Registry}
use Rattle.tera_meaning.specs.Run.{Request}
use Rattle.tera_meaning.specs.Whole.{World, Place, Refuses, Takes, way, left_of}
use Rattle.tera_code.specs.Code.{Code, nodes_code, listing_of}
use Rattle.tera_registry.specs.HandedOut.{code_of}
use Rattle.tera_registry.specs.Templates.{definers_of}
use Rattle.tera_registry.specs.declared.templates.Definer.{Definer as Nearest}
use Rattle.tera_registry.specs.declared.templates.Definers.{Definers}
use Rattle.tera_machine.specs.declared.requests.BlockRequest.{BlockRequest}
use Rattle.tera_machine.specs.declared.requests.BlockRequest.TheVariants as asked
use Rattle.tera_machine.specs.declared.block_bodies.EnteredBlock.{EnteredBlock}
use Rattle.tera_machine.specs.declared.block_bodies.SavedBody.{SavedBody}
use Rattle.tera_machine.specs.declared.configuration.Configuration.{Configuration}
use Rattle.tera_machine.specs.declared.machine.VirtualMachine.{VirtualMachine}
use Rattle.tera_machine.specs.declared.open_bodies.OpenBlock.{OpenBlock}
use Rattle.tera_machine.specs.declared.open_bodies.OpenBodies.{OpenBodies}
use Rattle.tera_machine.specs.Config.{Config, Loop, config_of, loops_at}
use Rattle.tera_machine.specs.Flow.{Use, block_request, block_use}
use Rattle.tera_machine.specs.Effect.{beneath}
use Rattle.tera_machine.specs.Exec.{entered, used}
use Rattle.tera_machine.specs.OpenThings.{Nested, one_more, one_fewer}
use Rattle.tera_machine.specs.Subject.{first_number_for, place_at}
use Rattle.tera_machine.specs.WantedBlock.{ended_by, Noted}

-- the names of the blocks that are open in a body, by those that are open where it is asked for
abbrev pub opened_by : BlockRequest → List Name → List Name
opened_by (asked.Block name span) names = name.now ∷ names
opened_by (asked.Super span) names = names

-- these blocks, with the number of the body, and the other way round
abbrev pub blocks_opened_by : BlockRequest → ℕ → Nested OpenBlock → Nested OpenBlock
blocks_opened_by (asked.Block name span) number blocks =
    one_more (record { name = name.now; number = number }) blocks
blocks_opened_by (asked.Super span) number blocks = blocks

abbrev pub blocks_closed_by : BlockRequest → Nested OpenBlock → Nested OpenBlock
blocks_closed_by (asked.Block name span) blocks = one_fewer blocks
blocks_closed_by (asked.Super span) blocks = blocks

-- a block that is asked for is taken by the number that it has for the template
abbrev pub IsNumbered : Registry → Option Name → BlockRequest → ℕ → Type 0
IsNumbered r template (asked.Block name span) number =
    first_number_for r template name.now ≡ Some number
IsNumbered r template (asked.Super span) number = Unit {0}

-- the body to take, which this definer has
pub record IsBody (w : World) (p : Place) (a : BlockRequest) (v : Variables)
    (nearest : Nearest) : Type 0 where
  pub definer : Definer
  pub takes : way w p (block_request a) v
      ≡ Takes (record p {
        file = definer.file;
        opened = opened_by a p.opened;
        above = definers_of nearest.above;
      }) v definer.body
  pub code : code_of nearest.body ≡ listing_of definer.file definer.body

-- the body is found, or the request is refused, unless memory was refused
abbrev pub FindsBody : World → Place → BlockRequest → Variables → Result Nearest SeenError → Type 0
FindsBody w p a v (Ok nearest) = IsBody w p a v nearest
FindsBody w p a v (Err None) = Unit {0}
FindsBody w p a v (Err (Some fault)) = way w p (block_request a) v ≡ Refuses fault

-- a body is entered: its place, its code and where it begins
pub record Entered (w : World) (p : Place) (q : Request) (c : Config) (p' : Place) (code : Code)
    (c' : Config) : Type 0 where
  pub vars : Variables
  pub body : Nodes
  pub takes : way w p q c.run.vars ≡ Takes p' vars body
  pub is : code ≡ nodes_code body 0
  pub config : c' ≡ entered vars c

-- what is kept for the body around
pub record Keeps (a : BlockRequest) (inside : EnteredBlock) (blocks0 : OpenBodies) (c0 : Configuration)
    (blocks : OpenBodies) (c : Configuration) : Type 0 where
  pub opened : blocks.opened ≡ blocks_opened_by a inside.definer.number blocks0.opened
  pub above : inside.above ≡ blocks0.above
  pub wanted : blocks.wanted ≡ blocks0.wanted
  pub included : blocks.included ≡ blocks0.included
  pub places : inside.outer.places ≡ c0.places
  pub ended : inside.outer.ended.all ≡ c0.ended.all
  pub none : c.places ≡ []
  pub scopes : c.scopes ≡ c0.scopes

abbrev pub Enters : {O : Type 0} → World → VirtualMachine O → Name → BlockRequest → OpenBodies
    → Configuration → Result EnteredBlock SeenError → OpenBodies → Configuration → Type 0
Enters w m file a blocks0 c0 (Ok inside) blocks c =
    Entered w (place_at m file blocks0 c0) (block_request a) (config_of c0)
    (place_at m (code_of inside.definer.body).file blocks c) (code_of inside.definer.body).code
    (config_of c)
    × Keeps a inside blocks0 c0 blocks c
Enters w m file a blocks0 c0 (Err None) blocks c = Unit {0}
Enters w m file a blocks0 c0 (Err (Some fault)) blocks c =
    way w (place_at m file blocks0 c0) (block_request a) (config_of c0).run.vars ≡ Refuses fault

-- what is made of a body that ended, with the loops and the ended blocks of the body around
abbrev pub closed_in : List Text → Request → Use → List (Name × Text) → List Loop → Config → Config
closed_in [] q u blocks loops c = c
closed_in (t ∷ ts) q u blocks loops c =
    used u (left_of q c.run.vars c.run)
    (record {
      operands = c.operands;
      captures = ts;
      loops = loops;
      run = record { vars = c.run.vars; text = t; blocks = blocks };
    })

-- such a body is left, with those who define the block above the body around it, and what that has to
-- itself
pub record Leaves (a : BlockRequest) (outside : Definers) (outer : SavedBody) (blocks0 : OpenBodies)
    (c0 : Configuration) (blocks : OpenBodies) (c : Configuration) : Type 0 where
  pub config : config_of c
      ≡ closed_in (config_of c0).captures (block_request a) (block_use a) outer.ended.all
      (loops_at outer.places (coming_of c0.scopes)) (config_of c0)
  pub opened : blocks.opened ≡ blocks_closed_by a blocks0.opened
  pub above : blocks.above ≡ outside
  pub noted : Noted blocks0.wanted (ended_by a (config_of c0).run.text) blocks.wanted
  pub included : blocks.included ≡ blocks0.included
  pub places : c.places ≡ outer.places
  pub scopes : c.scopes ≡ c0.scopes

-- what stays while a body runs, and the blocks that ended in it
pub record Stays (blocks0 : OpenBodies) (c0 : Configuration) (blocks : OpenBodies)
    (c : Configuration) : Type 0 where
  pub opened : blocks.opened ≡ blocks0.opened
  pub above : blocks.above ≡ blocks0.above
  pub included : blocks.included ≡ blocks0.included
  pub around : around_of c.scopes ≡ around_of c0.scopes
  pub beneath : beneath c ≡ beneath c0
  pub since : List (Name × Text)
  pub ended : c.ended.all ≡ c0.ended.all ++ since
  pub noted : Noted blocks0.wanted since blocks.wanted
