-- The bodies that wait.
use Rattle.std.specs.Prelude.{◌≡◌, ◌≢◌, ℕ, ◌+◌, ◌≤◌, slice_get, List, [], ◌∷◌, None, Some, Result, Ok, Err}
use Rattle.tera_errors.specs.Answer.{SeenError}
use Rattle.tera_meaning.specs.Run.{Request}
use Rattle.tera_meaning.specs.Whole.{World, Place, Refuses, way, here_at}
use Rattle.tera_code.specs.Code.{Code}
use Rattle.tera_code.specs.declared.instruction.Instruction.{Instruction}
use Rattle.tera_code.specs.Listing.{Listing}
use Rattle.tera_code.specs.Targets.{Target, TemplateNamed, ComponentNamed}
use Rattle.tera_registry.specs.HandedOut.{code_of, Takes}
use Rattle.tera_registry.specs.declared.body.Body.{Body}
use Rattle.tera_machine.specs.Did.{Goes}
use Rattle.tera_machine.specs.Effect.{effect}
use Rattle.tera_machine.specs.declared.requests.Request as requested
use Rattle.tera_machine.specs.declared.requests.Request.TheVariants as request
use Rattle.tera_machine.specs.declared.open_bodies.OpenBodies.{OpenBodies}
use Rattle.tera_machine.specs.declared.block_bodies.BodyEnd.{BodyEnd}
use Rattle.tera_machine.specs.declared.block_bodies.BodyEnd.TheVariants as back
use Rattle.tera_machine.specs.declared.block_bodies.ResumePoint.{ResumePoint}
use Rattle.tera_machine.specs.declared.open_bodies.OuterBlocks.{OuterBlocks}
use Rattle.tera_machine.specs.declared.block_bodies.Waiting.{Waiting}
use Rattle.tera_machine.specs.declared.configuration.Configuration.{Configuration}
use Rattle.tera_machine.specs.declared.machine.VirtualMachine.{VirtualMachine}
use Rattle.tera_machine.specs.Config.{Config, config_of}
use Rattle.tera_machine.specs.Flow.{Use, Ask, Written, Pushed}
use Rattle.tera_machine.specs.OpenThings.{one_fewer, ended_at}
use Rattle.tera_machine.specs.Exec.{Finished, Ends, BodyEnds}
use Rattle.tera_machine.specs.Advance.{Advance, BodyWithin}
use Rattle.tera_machine.specs.Subject.{IsLinked, Belong, place_at}
use Rattle.tera_machine.specs.Bodies.{Entered, Leaves, Stays}
use Rattle.tera_machine.specs.Apart.{Rejoins}

-- at an instruction that takes another body
pub record AtAsk (most : ℕ) (w : World) (p : Place) (code : Code) (c0 : Config) (n0 ip : ℕ)
    (c : Config) (n : ℕ) (i : Instruction) (c2 : Config) (n2 : ℕ) (q : Request) (u : Use)
    : Type 0 where
  pub progress : Advance most w p code c0 n0 ip c n
  pub is : slice_get code ip ≡ Some i
  pub count : n2 ≡ n + 1
  pub did : effect (here_at w p) (ip + 1) i c ≡ Goes c2 (Ask q u)

-- the machine that runs the body that waited, by the one that ran the other body
abbrev pub machine_by : {O : Type 0} → BodyEnd → VirtualMachine O → VirtualMachine O
machine_by (back.Block a) m = m
machine_by (back.Include around template) m = record m { template = template }
machine_by (back.Component around included template depth safe span) m =
    record m { template = template; depth = depth }

abbrev pub machine_again : {O : Type 0} → Waiting → VirtualMachine O → VirtualMachine O
machine_again r m = machine_by r.back m

-- the body that ended stood in a state of its own
abbrev pub IsApart : BodyEnd → Type 0
IsApart (back.Block a) = ⊥
IsApart (back.Include around template) = Unit {0}
IsApart (back.Component around included template depth safe span) = Unit {0}

-- a body that stands in a state of its own has one around it
abbrev pub HasOuter : List Waiting → Configuration → Type 0
HasOuter [] c = Unit {0}
HasOuter (r ∷ rs) c = IsApart r.back → c.scopes.below ≢ []

-- a body that stands in a state of its own is left
pub record LeavesApart (u : Use) (around : OuterBlocks) (r : Waiting) (b3 : OpenBodies)
    (c3 : Configuration) (b4 : OpenBodies) (c4 : Configuration) : Type 0 where
  pub rejoins : Rejoins u c3 r.outer c4
  pub opened : b4.opened ≡ ended_at around.start b3.opened
  pub above : b4.above ≡ r.above
  pub wanted : b4.wanted ≡ record b3.wanted { notes = around.notes }

abbrev pub left_by : BodyEnd → Waiting → OpenBodies → Configuration → OpenBodies → Configuration
    → Type 0
left_by (back.Block a) r b3 c3 b4 c4 = Leaves a r.above r.outer b3 c3 b4 c4
left_by (back.Include around template) r b3 c3 b4 c4 =
    LeavesApart Written around r b3 c3 b4 c4
    × (b4.included ≡ one_fewer b3.included)
left_by (back.Component around included template depth safe span) r b3 c3 b4 c4 =
    LeavesApart (Pushed safe span) around r b3 c3 b4 c4
    × (b4.included ≡ ended_at included b3.included)

abbrev pub Left : Waiting → OpenBodies → Configuration → OpenBodies → Configuration → Type 0
Left r b3 c3 b4 c4 = left_by r.back r b3 c3 b4 c4

-- the body that waited runs again
pub record Resumes {O : Type 0} (m3 : VirtualMachine O) (open3 : List Waiting) (b3 : OpenBodies)
    (c3 : Configuration) (behind : ResumePoint) (m4 : VirtualMachine O) (open4 : List Waiting)
    (b4 : OpenBodies) (c4 : Configuration) : Type 0 where
  pub waiting : Waiting
  pub is : open3 ≡ waiting ∷ open4
  pub body : behind.body ≡ waiting.body
  pub at : behind.at ≡ waiting.at
  pub machine : m4 ≡ machine_again waiting m3
  pub left : Left waiting b3 c3 b4 c4

-- what waits puts everything back, whatever the end of the body that it waits for
pub record PutsBack (w : World) (p : Place) (q : Request) (u : Use) (b0 : OpenBodies)
    (c0 : Configuration) (r : Waiting) (p1 : Place) (code1 : Code) (b1 : OpenBodies)
    (c1 : Configuration) : Type 0 where
  pub apart : (b3 : OpenBodies) (c3 : Configuration) → Stays b1 c1 b3 c3 → IsApart r.back
      → c3.scopes.below ≢ []
  pub closes : (most : ℕ) → BodyWithin w p q u (config_of c0) most
      → (b3 : OpenBodies) (c3 : Configuration) (j : ℕ) → Stays b1 c1 b3 c3
      → Ends w p1 code1 0 (config_of c1) (Finished (config_of c3) j)
      → (b4 : OpenBodies) (c4 : Configuration) → Left r b3 c3 b4 c4
      → BodyEnds w p q u (config_of c0) (Finished (config_of c4) j) × Stays b0 c0 b4 c4

-- a body runs, and the one around it waits
pub record Taken {O : Type 0} (w : World) (m : VirtualMachine O) (here : Body) (next : ℕ)
    (q : Request) (u : Use) (b0 : OpenBodies) (c0 : Configuration) (open0 : List Waiting)
    (m1 : VirtualMachine O) (body : Body) (b1 : OpenBodies) (c1 : Configuration)
    (open1 : List Waiting) : Type 0 where
  pub waits : Waiting
  pub is : open1 ≡ waits ∷ open0
  pub machine : machine_again waits m1 ≡ m
  pub around : waits.body ≡ here
  pub at : waits.at ≡ next
  pub enters : Entered w (place_at m (code_of here).file b0 c0) q (config_of c0)
      (place_at m1 (code_of body).file b1 c1) (code_of body).code (config_of c1)
  pub keeps : PutsBack w (place_at m (code_of here).file b0 c0) q u b0 c0 waits
      (place_at m1 (code_of body).file b1 c1) (code_of body).code b1 c1
  pub linked : IsLinked m1 w
  pub belong : Belong w m1 body b1
  pub objects : m1.objects.now ≡ m.objects.now

abbrev pub TakesBody : {O : Type 0} → World → VirtualMachine O → Body → ℕ → Request → Use
    → OpenBodies → Configuration → List Waiting → VirtualMachine O → Result Body SeenError
    → OpenBodies → Configuration → List Waiting → Type 0
TakesBody w m here next q u b0 c0 open0 m1 (Ok body) b1 c1 open1 =
    Taken w m here next q u b0 c0 open0 m1 body b1 c1 open1
TakesBody w m here next q u b0 c0 open0 m1 (Err None) b1 c1 open1 = Unit {0}
TakesBody w m here next q u b0 c0 open0 m1 (Err (Some f)) b1 c1 open1 =
    way w (place_at m (code_of here).file b0 c0) q (config_of c0).run.vars ≡ Refuses f

-- the instruction before a position takes this
pub record TakesBefore (body : Body) (next : ℕ) (target : Target) : Type 0 where
  pub at : ℕ
  pub is : next ≡ at + 1
  pub takes : Takes body at target

-- the instruction before a position takes what is requested, where that stands elsewhere
abbrev pub TakesRequested : Body → ℕ → requested.Request → Type 0
TakesRequested body next (request.Block name span) = Unit {0}
TakesRequested body next (request.Super span) = Unit {0}
TakesRequested body next (request.Include name span) = TakesBefore body next (TemplateNamed name.now)
TakesRequested body next (request.Component a) =
    TakesBefore body next (ComponentNamed a.value.name.now)

-- a body that waits, for one that began so
pub record Waits (most : ℕ) (w : World) {O : Type 0} (m : VirtualMachine O) (here : Listing)
    (r : Waiting) (p1 : Place) (code1 : Code) (b1 : OpenBodies) (c1 : Configuration) (n1 : ℕ)
    : Type 0 where
  pub began : OpenBodies
  pub start : Configuration
  pub first : ℕ
  pub blocks : OpenBodies
  pub configuration : Configuration
  pub ip : ℕ
  pub before : Config
  pub count : ℕ
  pub instruction : Instruction
  pub request : Request
  pub use' : Use
  pub asks : AtAsk most w (place_at m here.file began start) here.code (config_of start) first ip
      before count instruction (config_of configuration) n1 request use'
  pub stays : Stays began start blocks configuration
  pub enters : Entered w (place_at m here.file blocks configuration) request
      (config_of configuration) p1 code1 (config_of c1)
  pub keeps : PutsBack w (place_at m here.file blocks configuration) request use' blocks
      configuration r p1 code1 b1 c1
  pub linked : IsLinked m w
  pub belong : Belong w m r.body blocks
  pub next : r.at ≡ ip + 1

-- where a whole run begins
pub record Beginning (O : Type 0) : Type 0 where
  pub machine : VirtualMachine O
  pub code : Listing
  pub blocks : OpenBodies
  pub configuration : Configuration
  pub count : ℕ

-- a run that began so came, with these bodies waiting, to the start of a body
abbrev pub Came : {O : Type 0} → ℕ → World → Beginning O → List Waiting → VirtualMachine O → Listing
    → OpenBodies → Configuration → ℕ → Type 0
Came most w o [] m code b c n =
    o ≡ record { machine = m; code = code; blocks = b; configuration = c; count = n }
Came most w o (r ∷ rs) m code b c n =
    (x : Waits most w (machine_again r m) (code_of r.body) r
    (place_at m code.file b c) code.code b c n)
    × Came most w o rs (machine_again r m) (code_of r.body) x.began x.start x.first

-- and in that body, which this machine runs, to this position
pub record Running {O : Type 0} (most : ℕ) (w : World) (o : Beginning O) (open' : List Waiting)
    (m : VirtualMachine O) (code : Listing) (ip : ℕ) (b : OpenBodies) (c : Configuration) (n : ℕ)
    : Type 0 where
  pub counted : o.count ≤ n
  pub bounded : o.count ≤ most → n ≤ most
  pub began : OpenBodies
  pub start : Configuration
  pub first : ℕ
  pub came : Came most w o open' m code began start first
  pub linked : IsLinked m w
  pub objects : m.objects.now ≡ o.machine.objects.now
  pub progress : Advance most w (place_at m code.file began start) code.code (config_of start) first
      ip (config_of c) n
  pub stays : Stays began start b c
