-- The whole run, with the bodies that wait.
use Rattle.std.proofs.Common.{◌≡◌, ◌≢◌, ℕ, suc, ◌+◌, ◌-◌, ◌^◌, ◌<◌, ◌≤◌, List, [], ◌∷◌, length, Some, None, Result, Err, refl, sym, ap, ◌∙◌, subst, append-nil, arith}
use Rattle.std.specs.Prelude.{option_and_then, slice_get}
use Rattle.tera_errors.specs.Fault.{Fault}
use Rattle.tera_errors.specs.Answer.{SeenError}
use Rattle.tera_state.specs.Scopes.{around_of}
use Rattle.tera_state.specs.Engine.{Engine}
use Rattle.tera_meaning.specs.Here.{Here}
use Rattle.tera_meaning.specs.Run.{Request}
use Rattle.tera_meaning.specs.Whole.{World, Place, Refuses, here_at, way}
use Rattle.tera_code.specs.Code.{Code}
use Rattle.tera_code.specs.Listing.{Listing}
use Rattle.tera_code.specs.Targets.{Target, target_in}
use Rattle.tera_registry.specs.HandedOut.{code_of}
use Rattle.tera_registry.specs.Templates.{AreAmong}
use Rattle.tera_registry.specs.declared.body.Body.{Body}
use Rattle.tera_registry.specs.declared.templates.FoundTemplate.{FoundTemplate}
use Rattle.tera_code.specs.declared.instruction.Instruction.{Instruction}
use Rattle.tera_machine.specs.declared.requests.Request as requested
use Rattle.tera_machine.specs.declared.requests.Request.TheVariants as request
use Rattle.tera_machine.specs.declared.open_bodies.OpenBlock.{OpenBlock}
use Rattle.tera_machine.specs.declared.open_bodies.OpenBodies.{OpenBodies}
use Rattle.tera_machine.specs.declared.block_bodies.BodyEnd.{BodyEnd}
use Rattle.tera_machine.specs.declared.block_bodies.BodyEnd.TheVariants as back
use Rattle.tera_machine.specs.declared.block_bodies.ResumePoint.{ResumePoint}
use Rattle.tera_machine.specs.declared.block_bodies.Waiting.{Waiting}
use Rattle.tera_machine.specs.declared.configuration.Configuration.{Configuration}
use Rattle.tera_machine.specs.declared.machine.Flow as declared
use Rattle.tera_machine.specs.declared.machine.Flow.TheVariants as flow
use Rattle.tera_machine.specs.declared.machine.VirtualMachine.{VirtualMachine}
use Rattle.tera_machine.specs.Config.{Config, config_of}
use Rattle.tera_machine.specs.Flow.{Use, Ask, request_of, flow_of}
use Rattle.tera_machine.specs.Did.{Did, Goes, Sticks}
use Rattle.tera_machine.specs.Effect.{effect, Effected, IsSmall, beneath}
use Rattle.tera_machine.specs.Exec.{End, Finished, Broken, left, Ends, EndsWithin, BodyEnds, Ran}
use Rattle.tera_machine.specs.Advance.{Advance, BodyWithin}
use Rattle.tera_machine.specs.Bodies.{Entered, Stays}
use Rattle.tera_machine.specs.OpenThings.{Nested}
use Rattle.tera_machine.specs.Subject.{AreFrom, AreNumbered, IsLinked, IsOf, Belong, template_of, engine_of, here_of, place_at}
use Rattle.tera_machine.specs.declared.cursor.Cursor.{Cursor}
use Rattle.tera_machine.specs.Together.{done, after_steps}
use Rattle.tera_machine.specs.Paths.{Start, Stands}
use Rattle.tera_machine.specs.Open.{AtAsk, Beginning, Came, HasOuter, PutsBack, Resumes, Running, Taken, TakesBefore, TakesRequested, TakesBody, Waits, machine_by, machine_again}
use Rattle.tera_machine.proofs.Noting.{noted_none}
use Rattle.tera_machine.proofs.Runs.{here_is, starts, one_left, not_stuck, small, went_on, skipped, skip_within, went_to, place_within, went_out, finished, effect_failed, at_request}
use Rattle.tera_machine.proofs.Together.{Last, last_of}
use Rattle.tera_machine.proofs.Still.{Seeks, seeks}
use Rattle.tera_machine.proofs.Taking.{body_within, came_back, body_failed, refused, inner_within, can_leave, body_broke}
use Rattle.tera_machine.proofs.Took.{place_same, stays_then, did_still, at_place, ends_at, no_captures}

pub stays_here : (b : OpenBodies) (c : Configuration) → Stays b c b c
stays_here b c = record {
  opened = refl;
  above = refl;
  included = refl;
  around = refl;
  beneath = refl;
  since = [];
  ended = sym (append-nil c.ended.all);
  noted = noted_none b.wanted;
}

-- how the whole run ends
abbrev pub WholeEnds : {O : Type 0} → World → Beginning O → End → Type 0
WholeEnds w o e = Ends w (place_at o.machine o.code.file o.blocks o.configuration) o.code.code 0 (config_of o.configuration) e

abbrev pub WholeRan : {O : Type 0} → World → Beginning O → Result (Unit {0}) SeenError → Config → ℕ → Type 0
WholeRan w o r c n = Ran w (place_at o.machine o.code.file o.blocks o.configuration) o.code.code (config_of o.configuration) r c (n - o.count)

-- a fault in a body is a fault of the whole
all_broke : {O : Type 0} (most : ℕ) (w : World) (o : Beginning O) (rs : List Waiting) (m : VirtualMachine O) (code : Listing) (b : OpenBodies) (c : Configuration) (n : ℕ) (f : Fault) (k : ℕ) → n ≤ k → Came most w o rs m code b c n → Ends w (place_at m code.file b c) code.code 0 (config_of c) (Broken f (k - n)) → WholeEnds w o (Broken f (k - o.count))
all_broke {O} most w o [] m code b c n f k l e x =
    subst (λ (o : Beginning O). WholeEnds w o (Broken f (k - o.count))) (sym e) x
all_broke most w o (r ∷ rs) m code b c n f k l (y, rest) x =
    let counted = y.asks.count in
    let before = y.asks.progress.counted in
    let le : y.first ≤ k = omega (arith, l, counted, before) in
    let m' = machine_again r m in
    let same = place_same m' (code_of r.body).file (code_of r.body).file refl y.stays in
    all_broke most w o rs m' (code_of r.body) y.began y.start y.first f k le rest (body_failed y.asks f k l (ends_at same (body_broke y.enters f (k - n) x)))

-- want of memory says nothing
pub lacked_all : {O : Type 0} (w : World) (o : Beginning O) (r : SeenError) (c : Config) (n : ℕ) → r ≡ None → WholeRan w o (Err r) c n
lacked_all w o r c n e = subst (λ r. WholeRan w o (Err r) c n) (sym e) tt

-- a run begins
pub begins : (most : ℕ) (w : World) {O : Type 0} (m : VirtualMachine O) (code : Listing) (b : OpenBodies) (c : Configuration) (n : ℕ) → IsLinked m w → EndsWithin w (place_at m code.file b c) code.code 0 (config_of c) (most - n) → Running most w (record { machine = m; code = code; blocks = b; configuration = c; count = n }) [] m code 0 b c n
begins most w m code b c n linked within = record {
  counted = omega arith;
  bounded = λ h. h;
  began = b;
  start = c;
  first = n;
  came = refl;
  linked = linked;
  objects = refl;
  progress = starts within;
  stays = stays_here b c;
}

-- the bodies that wait are the same, and one more, named otherwise
came_so : {O : Type 0} {most : ℕ} {w : World} (o : Beginning O) (rs : List Waiting) {r : Waiting} {p1 : Place} {code1 : Code} {b1 : OpenBodies} {c1 : Configuration} {n1 : ℕ} {m m' : VirtualMachine O} {code code' : Listing} → m' ≡ m → code' ≡ code → (x : Waits most w m code r p1 code1 b1 c1 n1) × Came most w o rs m code x.began x.start x.first → (x : Waits most w m' code' r p1 code1 b1 c1 n1) × Came most w o rs m' code' x.began x.start x.first
came_so {most = most} {w} o rs {r} {p1} {code1} {b1} {c1} {n1} {m} {m'} {code} {code'} e f x =
    subst (λ m'. (x : Waits most w m' code' r p1 code1 b1 c1 n1) × Came most w o rs m' code' x.began x.start x.first) (sym e) (subst (λ code'. (x : Waits most w m code' r p1 code1 b1 c1 n1) × Came most w o rs m code' x.began x.start x.first) (sym f) x)

-- instructions that were done together led from one position to another, and as often they were counted
pub record Led (here : Here) (code : Code) (first n ip at : ℕ) (c : Config) : Type 0 where
  pub counted : first ≤ n
  pub there : at < length code
  pub config : Config
  pub led : after_steps here code (n - first) ip c ≡ Some (at, config)

pub led_of : {T : Type 0} {s : Start T} {cursor : Cursor T} → Stands s cursor → Led s.here s.cursor.chunk.now.code s.cursor.steps.now cursor.steps.now s.cursor.at cursor.at s.config
led_of s = record { counted = s.counted; there = s.there; config = s.config; led = s.led }

module _ {O : Type 0} (engine : O → Engine) {most : ℕ} {w : World} {o : Beginning O} (right : engine_of engine o.machine ≡ w.registry.engine) {rs : List Waiting} {m : VirtualMachine O} {code : Listing} {ip : ℕ} {b : OpenBodies} {c : Configuration} {n : ℕ} (g : Running most w o rs m code ip b c n) where
  -- where the body stands that runs, and what is fixed there
  abbrev place : Place
  place = place_at m code.file g.began g.start

  abbrev here : Here
  here = here_of engine m code.file c

  same_here : here ≡ here_at w place
  same_here =
      here_is engine w m code.file code.file g.began c g.start (ap engine g.objects ∙ right) refl g.stays.around

  module _ {i : Instruction} (found : slice_get code.code ip ≡ Some i) where
    pub ready : effect here (ip + 1) i (config_of c) ≢ Sticks
    ready = not_stuck g.progress same_here found

    pub is_small : length code.code < 2 ^ 64 → IsSmall (effect here (ip + 1) i (config_of c))
    is_small = small g.progress same_here found

  -- instructions that were done together
  module _ {n1 n2 at : ℕ} (one : n1 ≡ n + 1) (stands : Led here code.code n1 n2 ip at (config_of c)) where
    -- what they did
    abbrev did : Did
    did = done here code.code (suc (n2 - n1)) ip (config_of c)

    pub last : Last most w place code.code (config_of g.start) g.first at n2 (config_of c) did
    last = last_of g.progress same_here one stands.counted stands.there stands.led

    -- they are counted, and there was room for them
    pub few : (n < n2) × (n2 ≤ most)
    few =
        let left = one_left last.progress last.found in
        let more = stands.counted in
        (omega (arith, one, more), omega (arith, left, last.count))

    pub broke : (r : SeenError) (c2 : Config) → Effected did (Err r) c2 → WholeRan w o (Err r) c2 n2
    broke None c2 e = tt
    broke (Some f) c2 e =
        let counted = last.progress.counted in
        let l : g.first ≤ n2 = omega (arith, counted, last.count) in
        all_broke most w o rs m code g.began g.start g.first f n2 l g.came (effect_failed last.progress refl last.found last.count (Some f) c2 (subst (λ d. Effected d (Err (Some f)) c2) (sym last.did) e))

    module _ (c2 : Configuration) (f : declared.Flow) (does : (did ≡ Goes (config_of c2) (flow_of f)) × ((around_of c2.scopes ≡ around_of c.scopes) × (beneath c2 ≡ beneath c))) where
      last_did : effect (here_at w place) (at + 1) last.instruction last.config ≡ Goes (config_of c2) (flow_of f)
      last_did = last.did ∙ does.0

      still : Stays g.began g.start b c2
      still = did_still c2 g.stays last does

      moved : {to : ℕ} → Advance most w place code.code (config_of g.start) g.first to (config_of c2) n2 → Running most w o rs m code to b c2 n2
      moved a = record {
        counted = let l = g.counted in let k = few.0 in omega (arith, l, k);
        bounded = λ h. few.1;
        began = g.began;
        start = g.start;
        first = g.first;
        came = g.came;
        linked = g.linked;
        objects = g.objects;
        progress = a;
        stays = still;
      }

      pub on : f ≡ flow.On → Running most w o rs m code (at + 1) b c2 n2
      on is = moved (went_on last.progress refl last.found last.count last_did is)

      pub skip_fits : {k : ℕ} → f ≡ flow.Skip k → at + 1 + k ≤ length code.code
      skip_fits is = skip_within last.progress refl last.found last.count last_did is

      pub skips : {k : ℕ} → f ≡ flow.Skip k → Running most w o rs m code (at + 1 + k) b c2 n2
      skips is = moved (skipped last.progress refl last.found last.count last_did is)

      pub to_fits : {p k : ℕ} → f ≡ flow.To p k → p + k ≤ length code.code
      to_fits is = place_within last.progress refl last.found last.count last_did is

      pub to : {p k : ℕ} → f ≡ flow.To p k → Running most w o rs m code (p + k) b c2 n2
      to is = moved (went_to last.progress refl last.found last.count last_did is)

      pub out : f ≡ flow.Out → Running most w o rs m code (length code.code) b c2 n2
      out is = moved (went_out last.progress refl last.found last.count last_did is)

      -- the last of them asks for another body
      module _ {q : Request} {u : Use} (asks : flow_of f ≡ Ask q u) where
        asked : AtAsk most w place code.code (config_of g.start) g.first at last.config last.before last.instruction (config_of c2) n2 q u
        asked = at_request last.progress refl last.found last.count q u last_did refl asks

        same_place : place_at m code.file b c2 ≡ place
        same_place = place_same m code.file code.file refl still

        -- the body in which it stands is this one
        module _ (own : Body) (is : code ≡ code_of own) where
          takes_before : {target : Target} → (Seeks (target_in last.instruction) q → target_in last.instruction ≡ Some target) → TakesBefore own (at + 1) target
          takes_before {target} names =
              let sought = seeks (here_at w place) (at + 1) last.instruction last.config (config_of c2) q u (last_did ∙ ap (Goes (config_of c2)) asks) in
              record {
                at = at;
                is = refl;
                takes = subst (λ (l : Listing). option_and_then target_in (slice_get l.code at) ≡ Some target) is (ap (option_and_then target_in) last.found ∙ names sought);
              }

          -- it is what that takes
          pub takes_requested : (r : requested.Request) → q ≡ request_of r → TakesRequested own (at + 1) r
          takes_requested (request.Block name span) e = tt
          takes_requested (request.Super span) e = tt
          takes_requested (request.Include name span) e = takes_before (λ sought. subst (λ q. Seeks (target_in last.instruction) q) e sought)
          takes_requested (request.Component a) e = takes_before (λ sought. subst (λ q. Seeks (target_in last.instruction) q) e sought)

          pub take_broke : (m1 : VirtualMachine O) (b1 : OpenBodies) (rs1 : List Waiting) (r : SeenError) (c3 : Configuration) → TakesBody w m own (at + 1) q u b c2 rs m1 (Err r) b1 c3 rs1 → WholeRan w o (Err r) (config_of c3) n2
          take_broke m1 b1 rs1 None c3 h = tt
          take_broke m1 b1 rs1 (Some k) c3 h =
              let counted = last.progress.counted in
              let l : g.first ≤ n2 = omega (arith, counted, last.count) in
              let z : n2 - n2 ≡ 0 = omega arith in
              let here : n2 ≤ n2 = omega arith in
              let refuses : way w (place_at m code.file b c2) q (config_of c2).run.vars ≡ Refuses k = subst (λ (l : Listing). way w (place_at m l.file b c2) q (config_of c2).run.vars ≡ Refuses k) (sym is) h in
              all_broke most w o rs m code g.began g.start g.first k n2 l g.came (body_failed asked k n2 here (ends_at same_place (refused k (n2 - n2) z refuses)))

          -- it is entered, and this one waits
          module _ {next : ℕ} {m1 : VirtualMachine O} {body : Body} {b1 : OpenBodies} {c3 : Configuration} {rs1 : List Waiting} (t : Taken w m own next q u b c2 rs m1 body b1 c3 rs1) (behind : next ≡ at + 1) (belong : Belong w m own b) where
            abbrev inner : Place
            inner = place_at m1 (code_of body).file b1 c3

            enters : Entered w (place_at m code.file b c2) q (config_of c2) inner (code_of body).code (config_of c3)
            enters =
                subst (λ (l : Listing). Entered w (place_at m l.file b c2) q (config_of c2) inner (code_of body).code (config_of c3)) (sym is) t.enters

            abbrev waits : Waits most w m code t.waits inner (code_of body).code b1 c3 n2
            waits = record {
              began = g.began;
              start = g.start;
              first = g.first;
              blocks = b;
              configuration = c2;
              ip = at;
              before = last.config;
              count = last.before;
              instruction = last.instruction;
              request = q;
              use' = u;
              asks = asked;
              stays = still;
              enters = enters;
              keeps = subst (λ (l : Listing). PutsBack w (place_at m l.file b c2) q u b c2 t.waits inner (code_of body).code b1 c3) (sym is) t.keeps;
              linked = g.linked;
              belong = subst (λ y. Belong w m y b) (sym t.around) belong;
              next = t.at ∙ behind;
            }

            pub goes_in : Running most w o rs1 m1 (code_of body) 0 b1 c3 n2
            goes_in =
                subst (λ rs. Running most w o rs m1 (code_of body) 0 b1 c3 n2) (sym t.is) (record {
                  counted = let l = g.counted in let k = few.0 in omega (arith, l, k);
                  bounded = λ h. few.1;
                  began = b1;
                  start = c3;
                  first = n2;
                  came = came_so o rs t.machine (ap code_of t.around ∙ sym is) (waits, g.came);
                  linked = t.linked;
                  objects = t.objects ∙ g.objects;
                  progress = starts (inner_within enters (at_place same_place (body_within asked)));
                  stays = stays_here b1 c3;
                })

same_objects : {O : Type 0} (b : BodyEnd) (m : VirtualMachine O) → (machine_by b m).objects.now ≡ m.objects.now
same_objects (back.Block a) m = refl
same_objects (back.Include around template) m = refl
same_objects (back.Component around included template depth safe span) m = refl

-- the end of the code of a body
module _ {O : Type 0} {most : ℕ} {w : World} {o : Beginning O} {rs : List Waiting} {m : VirtualMachine O} {code : Listing} {ip : ℕ} {b : OpenBodies} {c : Configuration} {n n2 : ℕ} (g : Running most w o rs m code ip b c n) (none : slice_get code.code ip ≡ None) (same : n2 ≡ n) where
  over : Ends w (place_at m code.file g.began g.start) code.code 0 (config_of g.start) (Finished (config_of c) (n2 - g.first))
  over = finished g.progress none same

  -- where nothing waits, the run is over
  module _ (none_waits : length rs ≡ 0) where
    empty : rs ≡ []
    empty = by rs none_waits
      where
        by : (rs : List Waiting) → length rs ≡ 0 → rs ≡ []
        by [] z = refl
        by (r ∷ rs) z = absurd (omega (arith, z))

    began : o ≡ record { machine = m; code = code; blocks = g.began; configuration = g.start; count = g.first }
    began = subst (λ rs. Came most w o rs m code g.began g.start g.first) empty g.came

    pub all_over : WholeEnds w o (Finished (config_of c) (n2 - o.count))
    all_over =
        subst (λ (o : Beginning O). WholeEnds w o (Finished (config_of c) (n2 - o.count))) (sym began) over

    pub all_stays : Stays o.blocks o.configuration b c
    all_stays = subst (λ (o : Beginning O). Stays o.blocks o.configuration b c) (sym began) g.stays

  module _ {r : Waiting} (x : Waits most w (machine_again r m) (code_of r.body) r (place_at m code.file g.began g.start) code.code g.began g.start g.first) where
    around_same : place_at (machine_again r m) (code_of r.body).file x.blocks x.configuration ≡ place_at (machine_again r m) (code_of r.body).file x.began x.start
    around_same = place_same (machine_again r m) (code_of r.body).file (code_of r.body).file refl x.stays

    may : BodyWithin w (place_at (machine_again r m) (code_of r.body).file x.blocks x.configuration) x.request x.use' (config_of x.configuration) (most - g.first)
    may = at_place around_same (body_within x.asks)

    may_end : left x.request x.use' (config_of x.configuration) (config_of c) ≢ None
    may_end = can_leave x.enters may (config_of c) (n2 - g.first) over

    -- a text is open around the body's
    has_text : (config_of c).captures ≢ []
    has_text =
        λ e. may_end (no_captures (config_of c).loops (config_of c).captures x.request x.use' (config_of x.configuration) (config_of c) e)

    -- the body that waited goes on
    module _ {b4 : OpenBodies} {c4 : Configuration} (closed : BodyEnds w (place_at (machine_again r m) (code_of r.body).file x.blocks x.configuration) x.request x.use' (config_of x.configuration) (Finished (config_of c4) (n2 - g.first)) × Stays x.blocks x.configuration b4 c4) where
      onward : Advance most w (place_at (machine_again r m) (code_of r.body).file x.began x.start) (code_of r.body).code (config_of x.start) x.first (x.ip + 1) (config_of c4) n2
      onward =
          let counted = g.progress.counted in
          let l : g.first ≤ n2 = omega (arith, counted, same) in
          let up : g.first ≤ most → n2 ≤ most = λ h. let k = g.progress.bounded h in omega (arith, k, same) in
          came_back x.asks (config_of c4) n2 l up (ends_at around_same closed.0)

  pub texts_open : length rs ≢ 0 → (config_of c).captures ≢ []
  texts_open some = by rs some g.came
    where
      by : (rs : List Waiting) → length rs ≢ 0 → Came most w o rs m code g.began g.start g.first → (config_of c).captures ≢ []
      by [] some came = absurd (some refl)
      by (r ∷ rs) some came = has_text came.0

  pub outer_open : HasOuter rs c
  outer_open = by rs g.came
    where
      by : (rs : List Waiting) → Came most w o rs m code g.began g.start g.first → HasOuter rs c
      by [] came = tt
      by (r ∷ rs) came = came.0.keeps.apart b c g.stays

  module _ {m4 : VirtualMachine O} {behind : ResumePoint} {open4 : List Waiting} {b4 : OpenBodies} {c4 : Configuration} (t : Resumes m rs b c behind m4 open4 b4 c4) where
    abbrev outer : Waiting
    outer = t.waiting

    came : Came most w o (outer ∷ open4) m code g.began g.start g.first
    came = subst (λ rs. Came most w o rs m code g.began g.start g.first) t.is g.came

    abbrev x : Waits most w (machine_again outer m) (code_of outer.body) outer (place_at m code.file g.began g.start) code.code g.began g.start g.first
    x = came.0

    closed : BodyEnds w (place_at (machine_again outer m) (code_of outer.body).file x.blocks x.configuration) x.request x.use' (config_of x.configuration) (Finished (config_of c4) (n2 - g.first)) × Stays x.blocks x.configuration b4 c4
    closed = x.keeps.closes (most - g.first) (may x) b c (n2 - g.first) g.stays over b4 c4 t.left

    pub belong_again : Belong w m4 behind.body b4
    belong_again = (
      subst (IsOf w.registry) (sym t.body) x.belong.0,
      subst (AreAmong w.registry) (sym closed.1.above) x.belong.1,
      subst (λ (i : Nested FoundTemplate). AreFrom i.inner w.registry) (sym closed.1.included) x.belong.2,
      subst (λ m'. AreNumbered w.registry (template_of m') b4.opened.inner) (sym t.machine) (subst (λ (o : Nested OpenBlock). AreNumbered w.registry (template_of (machine_again outer m)) o.inner) (sym closed.1.opened) x.belong.3),
    )

    pub goes_out : Running most w o open4 m4 (code_of behind.body) behind.at b4 c4 n2
    goes_out =
        let counted = g.counted in
        subst (λ m'. Running most w o open4 m' (code_of behind.body) behind.at b4 c4 n2) (sym t.machine)
        (subst (λ (y : Body). Running most w o open4 (machine_again outer m) (code_of y) behind.at b4 c4 n2) (sym t.body)
        (subst (λ at. Running most w o open4 (machine_again outer m) (code_of outer.body) at b4 c4 n2) (sym (t.at ∙ x.next))
        (record {
          counted = omega (arith, counted, same);
          bounded = λ h. let k = g.bounded h in omega (arith, k, same);
          began = x.began;
          start = x.start;
          first = x.first;
          came = came.1;
          linked = x.linked;
          objects = same_objects outer.back m ∙ g.objects;
          progress = onward x closed;
          stays = stays_then x.stays closed.1;
        })))
