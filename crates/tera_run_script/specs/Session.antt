-- What commands may be answered, and what they leave.
use Rattle.std.specs.Prelude.{◌≡◌, ℕ, List, [], ◌∷◌, ◌++◌, Result, Ok, None}
use Rattle.std.specs.List.{flat_map}
use Rattle.tera.specs.Answer.{SaysOneOf}
use Rattle.tera.specs.Fault.{Fault}
use Rattle.tera.specs.Site.{Name, Text}
use Rattle.tera.specs.Named.{Named, put, with_names, without_names}
use Rattle.tera.specs.Val.{Val}
use Rattle.tera.specs.Registry.{Registry}
use Rattle.tera.specs.Batch.{Adds}
use Rattle.tera.specs.Configuring.{with_prefixes, with_suffixes}
use Rattle.tera.specs.Rendering.{ByName, BlockByName, ComponentByName, OneOff}
use Rattle.tera_run_script.specs.Act.{Act, put_value, render_text, join_batch, add_batch, set_suffixes, set_prefixes, render_named, render_block_named, render_component_named, preview_components}
use Rattle.tera_run_script.specs.Preview.{Previews}
use Rattle.tera_run_script.specs.Reply.{Replied, done, says, refuses, line_of}
use Rattle.tera_run_script.specs.Script.{script_of}

-- what a run keeps between its commands: the registry, the context, and the templates that wait, in
-- the order in which they came
pub record Session : Type 0 where
  pub registry : Registry
  pub context : Named Val
  pub batch : List (Name × Text)

abbrev pub session : Registry → Named Val → List (Name × Text) → Session
session registry context batch = record { registry = registry; context = context; batch = batch }

-- A run begins with an empty context, and no template waits.
abbrev pub fresh : Registry → Session
fresh registry = session registry [] []

-- What was to be kept is kept, or there is no memory for it and all is as before.
abbrev pub Keeps : Replied → Session → Session → Session → Type 0
Keeps done now kept next = next ≡ kept
Keeps (says text) now kept next = ⊥
Keeps (refuses error) now kept next = (error ≡ None) × (next ≡ now)

-- The registry is one that is meant, or that is refused and the registry is as before.
abbrev pub Configured : Replied → (Result Registry Fault → Type 0) → Registry → Registry → Type 0
Configured done Meant old new = Meant (Ok new)
Configured (says text) Meant old new = ⊥
Configured (refuses error) Meant old new = SaysOneOf error Meant × (new ≡ old)

-- A text that is meant, or its fault.
abbrev pub Rendered : Replied → (Result Text Fault → Type 0) → Type 0
Rendered done Meant = ⊥
Rendered (says text) Meant = Meant (Ok text)
Rendered (refuses error) Meant = SaysOneOf error Meant

-- What a command may be answered, and the session that it then leaves. Want of memory may always be
-- the answer. No template waits after an adding, whether it was accepted or refused.
abbrev pub Answers : Session → Act → Replied → Session → Type 0
Answers now (put_value name value) reply next =
    Keeps reply now (record now { context = put name value now.context }) next
Answers now (join_batch name body) reply next =
    Keeps reply now (record now { batch = now.batch ++ (name, body) ∷ [] }) next
Answers now add_batch reply next =
    Configured reply (Adds now.registry now.batch) now.registry next.registry
    × (next ≡ record now { registry = next.registry; batch = [] })
Answers now (set_suffixes suffixes) reply next =
    Configured reply
    (λ meant. Ok (with_suffixes suffixes now.registry) ≡ meant) now.registry next.registry
    × (next ≡ record now { registry = next.registry })
Answers now (set_prefixes prefixes) reply next =
    Configured reply
    (λ meant. with_prefixes prefixes now.registry ≡ meant) now.registry next.registry
    × (next ≡ record now { registry = next.registry })
Answers now (render_named name) reply next =
    Rendered reply (ByName now.registry name now.context) × (next ≡ now)
Answers now (render_block_named name block) reply next =
    Rendered reply (BlockByName now.registry name block now.context) × (next ≡ now)
Answers now (render_component_named name autoescape implicits) reply next =
    Rendered reply
    (ComponentByName now.registry name (without_names implicits now.context)
    (with_names implicits now.context) None autoescape)
    × (next ≡ now)
Answers now (preview_components autoescape) reply next =
    Rendered reply (Previews now.registry now.context autoescape) × (next ≡ now)
Answers now (render_text autoescape body) reply next =
    Rendered reply (OneOff now.registry body now.context autoescape) × (next ≡ now)

-- one reply a command, each in the session that the commands before it left; the last session is
-- what they all leave
abbrev pub Replies : Session → List Act → List Replied → Session → Type 0
Replies now [] [] last = now ≡ last
Replies now [] (reply ∷ replies) last = ⊥
Replies now (act ∷ acts) [] last = ⊥
Replies now (act ∷ acts) (reply ∷ replies) last =
    (next : Session) × Answers now act reply next × Replies next acts replies last

-- A run of the commands that begins with the old registry may be answered so, and leave the new
-- one.
pub record Leads (old : Registry) (acts : List Act) (replies : List Replied)
    (new : Registry) : Type 0 where
  pub context : Named Val
  pub batch : List (Name × Text)
  pub replied : Replies (fresh old) acts replies (session new context batch)

-- The commands that these bytes spell may be answered so, and leave the new registry in place of
-- the old one. The answers are written in order.
pub record Program (old new : Registry) (input output : List ℕ) : Type 0 where
  pub replies : List Replied
  pub leads : Leads old (script_of input).acts replies new
  pub written : output ≡ flat_map line_of replies
