-- Ends of runs of the pure machine: a deeper run is the same, and a run is one instruction and the rest.
use Rattle.std.proofs.Common.{◌≡◌, ℕ, zero, suc, ◌+◌, ◌-◌, ◌≤◌, Option, Some, None, refl, sym, ap, ◌∙◌, subst, ⊎_elim, arith}
use Rattle.std.proofs.lemmas.Bool.{cases_lt, le-leb}
use Rattle.std.specs.Prelude.{slice_get, Bool, true, false, cond, nat_le, length}
use Rattle.tera_errors.specs.Fault.{Fault}
use Rattle.tera_meaning.specs.Run.{Request}
use Rattle.tera_meaning.specs.Whole.{World, Place, Way, Refuses, Takes, way, here_at}
use Rattle.tera_code.specs.declared.instruction.Instruction.{Instruction}
use Rattle.tera_code.specs.Code.{Code, nodes_code}
use Rattle.tera_machine.specs.Config.{Config}
use Rattle.tera_machine.specs.Flow.{Use, On, Skip, To, Out, Ask}
use Rattle.tera_machine.specs.Did.{Did, Goes, Faults, Sticks}
use Rattle.tera_machine.specs.Effect.{effect}
use Rattle.tera_machine.specs.Exec.{End, Finished, Broken, Unfinished, Stuck, after, then_on, Runner, entered, leaving, taken, within_code, follow, body_by, fetched, exec, Within, IsOver, Ends, EndsWithin, BodyEnds}
use Rattle.tera_machine.specs.Advance.{Leads}

-- where the one is over, the other is the same
abbrev Extends : End → End → Type 0
Extends a b = IsOver a → b ≡ a

abbrev AllExtend : Runner → Runner → Type 0
AllExtend f g = (p : Place) (code : Code) (ip : ℕ) (c : Config) → Extends (f p code ip c) (g p code ip c)

before_over : (k : ℕ) (a : End) → IsOver (after k a) → IsOver a
before_over k (Finished c n) h = h
before_over k (Broken f n) h = h
before_over k Unfinished h = h
before_over k Stuck h = h

pub after_over : (k : ℕ) (o : End) → IsOver o → IsOver (after k o)
after_over k (Finished c n) h = h
after_over k (Broken f n) h = h
after_over k Unfinished h = h
after_over k Stuck h = h

after_extends : (k : ℕ) (a b : End) → Extends a b → Extends (after k a) (after k b)
after_extends k a b e h = ap (after k) (e (before_over k a h))

cond_extends : (b : Bool) (x y z : End) → Extends x y → Extends (cond b x z) (cond b y z)
cond_extends true x y z e = e
cond_extends false x y z e = λ over. refl

then_extends : (a b : End) (f g : Config → End) → Extends a b → ((c : Config) → Extends (f c) (g c)) → Extends (then_on a f) (then_on b g)
then_extends (Finished c n) b f g e h =
    λ over. ap (λ z. then_on z g) (e tt) ∙ after_extends n (f c) (g c) (h c) over
then_extends (Broken x n) b f g e h = λ over. ap (λ z. then_on z g) (e tt)
then_extends Unfinished b f g e h = λ over. absurd over
then_extends Stuck b f g e h = λ over. ap (λ z. then_on z g) (e tt)

leaving_extends : (q : Request) (u : Use) (c : Config) (a b : End) → Extends a b → Extends (leaving q u c a) (leaving q u c b)
leaving_extends q u c (Finished d n) b e = λ over. ap (leaving q u c) (e tt)
leaving_extends q u c (Broken f n) b e = λ over. ap (leaving q u c) (e tt)
leaving_extends q u c Unfinished b e = λ over. absurd over
leaving_extends q u c Stuck b e = λ over. ap (leaving q u c) (e tt)

taken_extends : (f g : Runner) → AllExtend f g → (q : Request) (u : Use) (c : Config) (x : Way) → Extends (taken f q u c x) (taken g q u c x)
taken_extends f g e q u c (Refuses fault) = λ over. refl
taken_extends f g e q u c (Takes p vars body) =
    leaving_extends q u c _ _ (e p (nodes_code body 0) 0 (entered vars c))

pub after-after : (j k : ℕ) (o : End) → after j (after k o) ≡ after (j + k) o
after-after j k (Finished c n) = let e : j + (k + n) ≡ j + k + n = omega arith in ap (Finished c) e
after-after j k (Broken f n) = let e : j + (k + n) ≡ j + k + n = omega arith in ap (Broken f) e
after-after j k Unfinished = refl
after-after j k Stuck = refl

pub after-none : (o : End) → after 0 o ≡ o
after-none (Finished c n) = let e : 0 + n ≡ n = omega arith in ap (Finished c) e
after-none (Broken f n) = let e : 0 + n ≡ n = omega arith in ap (Broken f) e
after-none Unfinished = refl
after-none Stuck = refl

pub within_less : (k m : ℕ) (o : End) → Within m (after k o) → (k ≤ m) × Within (m - k) o
within_less k m (Finished c n) h = (omega arith, omega arith)
within_less k m (Broken f n) h = (omega arith, omega arith)
within_less k m Unfinished h = absurd h
within_less k m Stuck h = absurd h

module _ (w : World) where
  follow_extends : (f g : Runner) → AllExtend f g → (p : Place) (code : Code) (ip : ℕ) (d : Did) → Extends (follow (length code) (body_by w f p) (f p code) ip d) (follow (length code) (body_by w g p) (g p code) ip d)
  follow_extends f g e p code ip (Goes c On) = e p code (ip + 1) c
  follow_extends f g e p code ip (Goes c (Skip n)) =
      cond_extends (nat_le (ip + 1 + n) (length code)) _ _ Stuck (e p code (ip + 1 + n) c)
  follow_extends f g e p code ip (Goes c (To q n)) =
      cond_extends (nat_le (q + n) (length code)) _ _ Stuck (e p code (q + n) c)
  follow_extends f g e p code ip (Goes c Out) = e p code (length code) c
  follow_extends f g e p code ip (Goes c (Ask q u)) =
      then_extends _ _ _ _ (taken_extends f g e q u c (way w p q c.run.vars)) (λ d. e p code (ip + 1) d)
  follow_extends f g e p code ip (Faults fault) = λ over. refl
  follow_extends f g e p code ip Sticks = λ over. refl

  fetched_extends : (f g : Runner) → AllExtend f g → (p : Place) (code : Code) (o : Option Instruction) (ip : ℕ) (c : Config) → Extends (fetched w f p code o ip c) (fetched w g p code o ip c)
  fetched_extends f g e p code None ip c = λ over. refl
  fetched_extends f g e p code (Some i) ip c =
      after_extends 1 _ _ (follow_extends f g e p code ip (effect (here_at w p) (ip + 1) i c))

  deeper : (m n : ℕ) → m ≤ n → AllExtend (exec w m) (exec w n)
  unfolding exec
  deeper zero n le p code ip c = λ over. absurd over
  deeper (suc m) zero le p code ip c = absurd (omega arith)
  deeper (suc m) (suc n) le p code ip c =
      fetched_extends (exec w m) (exec w n) (deeper m n (omega arith)) p code (slice_get code ip) ip c

  pub body_deeper : (m n : ℕ) → m ≤ n → (p : Place) (q : Request) (u : Use) (c : Config) → Extends (body_by w (exec w m) p q u c) (body_by w (exec w n) p q u c)
  body_deeper m n le p q u c =
      taken_extends (exec w m) (exec w n) (deeper m n le) q u c (way w p q c.run.vars)

  module _ (p : Place) (code : Code) where
    one_end : (m n ip : ℕ) (c : Config) (a b : End) → IsOver a → IsOver b → exec w m p code ip c ≡ a → exec w n p code ip c ≡ b → a ≡ b
    one_end m n ip c a b over_a over_b e f =
        ⊎_elim
        (λ lt. sym e ∙ sym (deeper m n (omega arith) p code ip c (subst IsOver (sym e) over_a)) ∙ f)
        (λ le. sym e ∙ deeper n m le p code ip c (subst IsOver (sym f) over_b) ∙ f)
        (cases_lt m n)

    -- two ends of one run are the same
    pub same_end : (ip : ℕ) (c : Config) (a b : End) → IsOver a → IsOver b → Ends w p code ip c a → Ends w p code ip c b → a ≡ b
    same_end ip c a b over_a over_b x y = one_end x.depth y.depth ip c a b over_a over_b x.is y.is

    at_end : (n ip : ℕ) (c : Config) → slice_get code ip ≡ None → exec w (suc n) p code ip c ≡ Finished c 0
    unfolding exec
    at_end n ip c e = ap (λ o. fetched w (exec w n) p code o ip c) e

    -- where there is no instruction, the run is finished
    pub ends_here : (ip : ℕ) (c : Config) → slice_get code ip ≡ None → Ends w p code ip c (Finished c 0)
    ends_here ip c e = record { depth = 1; is = at_end 0 ip c e }

    one_step : (n ip : ℕ) (c : Config) (i : Instruction) (d : Did) → slice_get code ip ≡ Some i → effect (here_at w p) (ip + 1) i c ≡ d → exec w (suc n) p code ip c ≡ after 1 (follow (length code) (body_by w (exec w n) p) (exec w n p code) ip d)
    unfolding exec
    one_step n ip c i d e a =
        ap (λ o. fetched w (exec w n) p code o ip c) e ∙ ap (λ x. after 1 (follow (length code) (body_by w (exec w n) p) (exec w n p code) ip x)) a

    -- an instruction, and how the run goes on from it
    pub step_ends : (ip : ℕ) (c : Config) (i : Instruction) (d : Did) (n : ℕ) (o : End) → slice_get code ip ≡ Some i → effect (here_at w p) (ip + 1) i c ≡ d → follow (length code) (body_by w (exec w n) p) (exec w n p code) ip d ≡ o → Ends w p code ip c (after 1 o)
    step_ends ip c i d n o e a x = record { depth = suc n; is = one_step n ip c i d e a ∙ ap (after 1) x }

    within_step_at : (n ip : ℕ) (c : Config) (i : Instruction) (d : Did) (m : ℕ) → Within m (exec w n p code ip c) → slice_get code ip ≡ Some i → effect (here_at w p) (ip + 1) i c ≡ d → (k : ℕ) × (1 ≤ m) × Within (m - 1) (follow (length code) (body_by w (exec w k) p) (exec w k p code) ip d)
    unfolding exec
    within_step_at zero ip c i d m x e a = absurd x
    within_step_at (suc n) ip c i d m x e a =
        let P : End → Type 0 = Within m in
        let q = within_less 1 m (follow (length code) (body_by w (exec w n) p) (exec w n p code) ip d) (subst P (one_step n ip c i d e a) x) in
        (n, q.0, q.1)

    -- a run that ends within a bound goes on by its instruction
    pub within_step : (ip : ℕ) (c : Config) (i : Instruction) (d : Did) (m : ℕ) → EndsWithin w p code ip c m → slice_get code ip ≡ Some i → effect (here_at w p) (ip + 1) i c ≡ d → (k : ℕ) × (1 ≤ m) × Within (m - 1) (follow (length code) (body_by w (exec w k) p) (exec w k p code) ip d)
    within_step ip c i d m x e a = within_step_at x.depth ip c i d m x.within e a

    -- one stretch more
    pub further : (ip0 : ℕ) (c0 : Config) (k j k2 ip ip2 : ℕ) (c c2 : Config) → Leads w p code ip0 c0 k ip c → k2 ≡ k + j → Leads w p code ip c j ip2 c2 → Leads w p code ip0 c0 k2 ip2 c2
    further ip0 c0 k j k2 ip ip2 c c2 l e m = record {
      by = λ o over x. subst (Ends w p code ip0 c0) (after-after k j o ∙ ap (λ z. after z o) (sym e)) (l.by (after j o) (after_over j o over) (m.by o over x));
    }

    -- an instruction that goes on at the next one
    pub on_leads : (ip : ℕ) (c c2 : Config) (i : Instruction) → slice_get code ip ≡ Some i → effect (here_at w p) (ip + 1) i c ≡ Goes c2 On → Leads w p code ip c 1 (ip + 1) c2
    on_leads ip c c2 i e a = record { by = λ o over x. step_ends ip c i (Goes c2 On) x.depth o e a x.is }

    within : (n to : ℕ) (c : Config) (o : End) → to ≤ length code → exec w n p code to c ≡ o → within_code (length code) (exec w n p code) to c ≡ o
    within n to c o l x = ap (λ b. cond b (exec w n p code to c) Stuck) (le-leb to (length code) l) ∙ x

    -- a jump that ends within the code
    pub skip_leads : (ip n : ℕ) (c c2 : Config) (i : Instruction) → slice_get code ip ≡ Some i → effect (here_at w p) (ip + 1) i c ≡ Goes c2 (Skip n) → ip + 1 + n ≤ length code → Leads w p code ip c 1 (ip + 1 + n) c2
    skip_leads ip n c c2 i e a l =
        record { by = λ o over x. step_ends ip c i (Goes c2 (Skip n)) x.depth o e a (within x.depth (ip + 1 + n) c2 o l x.is) }

    pub to_leads : (ip q n : ℕ) (c c2 : Config) (i : Instruction) → slice_get code ip ≡ Some i → effect (here_at w p) (ip + 1) i c ≡ Goes c2 (To q n) → q + n ≤ length code → Leads w p code ip c 1 (q + n) c2
    to_leads ip q n c c2 i e a l =
        record { by = λ o over x. step_ends ip c i (Goes c2 (To q n)) x.depth o e a (within x.depth (q + n) c2 o l x.is) }

    -- an instruction that goes to the end
    pub out_leads : (ip : ℕ) (c c2 : Config) (i : Instruction) → slice_get code ip ≡ Some i → effect (here_at w p) (ip + 1) i c ≡ Goes c2 Out → Leads w p code ip c 1 (length code) c2
    out_leads ip c c2 i e a = record { by = λ o over x. step_ends ip c i (Goes c2 Out) x.depth o e a x.is }

    -- a body that ends, and how the run goes on
    asked_at : (b n ip : ℕ) (c2 c3 : Config) (q : Request) (u : Use) (j : ℕ) (o : End) → IsOver o → body_by w (exec w b) p q u c2 ≡ Finished c3 j → exec w n p code (ip + 1) c3 ≡ o → follow (length code) (body_by w (exec w (b + n)) p) (exec w (b + n) p code) ip (Goes c2 (Ask q u)) ≡ after j o
    asked_at b n ip c2 c3 q u j o over y x =
        let deep = body_deeper b (b + n) (omega arith) p q u c2 (subst IsOver (sym y) tt) ∙ y in
        let rest = deeper n (b + n) (omega arith) p code (ip + 1) c3 (subst IsOver (sym x) over) ∙ x in
        ap (λ z. then_on z (exec w (b + n) p code (ip + 1))) deep ∙ ap (after j) rest

    pub ask_leads : (ip : ℕ) (c c2 c3 : Config) (i : Instruction) (q : Request) (u : Use) (j : ℕ) → slice_get code ip ≡ Some i → effect (here_at w p) (ip + 1) i c ≡ Goes c2 (Ask q u) → BodyEnds w p q u c2 (Finished c3 j) → Leads w p code ip c (1 + j) (ip + 1) c3
    ask_leads ip c c2 c3 i q u j e a y = record {
      by = λ o over x. subst (Ends w p code ip c) (after-after 1 j o) (step_ends ip c i (Goes c2 (Ask q u)) (y.depth + x.depth) (after j o) e a (asked_at y.depth x.depth ip c2 c3 q u j o over y.is x.is));
    }

    pub ask_breaks : (ip : ℕ) (c c2 : Config) (i : Instruction) (q : Request) (u : Use) (j : ℕ) (f : Fault) → slice_get code ip ≡ Some i → effect (here_at w p) (ip + 1) i c ≡ Goes c2 (Ask q u) → BodyEnds w p q u c2 (Broken f j) → Ends w p code ip c (Broken f (1 + j))
    ask_breaks ip c c2 i q u j f e a y =
        step_ends ip c i (Goes c2 (Ask q u)) y.depth (Broken f j) e a (ap (λ z. then_on z (exec w y.depth p code (ip + 1))) y.is)
