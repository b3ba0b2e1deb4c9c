-- The machine's loop follows the pure machine.
use Rattle.std.proofs.Common.{◌≡◌, ◌≢◌, ℕ, ◌+◌, ◌-◌, ◌^◌, ◌<◌, ◌≤◌, Some, None, Err, refl, sym, ap, ap₂, ◌∙◌, subst, arith}
use Rattle.std.proofs.lemmas.Bool.{leb-true}
use Rattle.std.specs.Prelude.{slice_get, Bool, true, false, cond, nat_le, length}
use Rattle.tera_errors.specs.Site.{Name}
use Rattle.tera_errors.specs.Answer.{SeenError}
use Rattle.tera_state.specs.Scopes.{around_of}
use Rattle.tera_state.specs.Engine.{Engine}
use Rattle.tera_meaning.specs.Here.{Here}
use Rattle.tera_meaning.specs.Run.{Request}
use Rattle.tera_meaning.specs.Whole.{World, Place, here_at}
use Rattle.tera_code.specs.declared.instruction.Instruction.{Instruction}
use Rattle.tera_code.specs.Code.{Code}
use Rattle.tera_machine.specs.declared.configuration.Configuration.{Configuration}
use Rattle.tera_machine.specs.declared.machine.VirtualMachine.{VirtualMachine}
use Rattle.tera_machine.specs.declared.open_bodies.OpenBodies.{OpenBodies}
use Rattle.tera_machine.specs.declared.machine.Flow as declared
use Rattle.tera_machine.specs.declared.machine.Flow.TheVariants as flow
use Rattle.tera_machine.specs.Config.{Config}
use Rattle.tera_machine.specs.Flow.{Use, On, Skip, To, Out, Ask, flow_of}
use Rattle.tera_machine.specs.Did.{Did, Goes, Faults, Sticks}
use Rattle.tera_machine.specs.Effect.{effect, Effected, IsSmall}
use Rattle.tera_machine.specs.Exec.{End, Finished, Broken, Stuck, after, within_code, follow, body_by, exec, Within, Ends, EndsWithin, Ran}
use Rattle.tera_machine.specs.Advance.{Leads, Advance}
use Rattle.tera_machine.specs.Subject.{engine_of, place_at, here_of}
use Rattle.tera_machine.proofs.Ends.{after-none, ends_here, step_ends, within_step, further, on_leads, skip_leads, to_leads, out_leads}
use Rattle.tera_machine.specs.Open.{AtAsk}

within_cond : (m : ℕ) (b : Bool) (x : End) → Within m (cond b x Stuck) → (b ≡ true) × Within m x
within_cond m true x h = (refl, h)
within_cond m false x h = absurd h

-- where the machine stands with an engine is where the body stands in the world
pub here_is : {O : Type 0} (engine : O → Engine) (w : World) (m : VirtualMachine O) (file file0 : Name) (blocks0 : OpenBodies) (c c0 : Configuration) → engine_of engine m ≡ w.registry.engine → file ≡ file0 → around_of c.scopes ≡ around_of c0.scopes → here_of engine m file c ≡ here_at w (place_at m file0 blocks0 c0)
here_is engine w m file file0 blocks0 c c0 e f a =
    ap (λ (e : Engine). record { file = file; around = around_of c.scopes; autoescape = m.autoescape; engine = e }) e
    ∙ ap₂ (λ name around. record { file = name; around = around; autoescape = m.autoescape; engine = w.registry.engine }) f a

module _ {most : ℕ} {w : World} {place : Place} {code : Code} {c0 : Config} where
  pub starts : {n : ℕ} → EndsWithin w place code 0 c0 (most - n) → Advance most w place code c0 n 0 c0 n
  starts {n} x = record {
    counted = omega arith;
    bounded = λ h. h;
    within = x;
    leads = record { by = λ o over e. let z : n - n ≡ 0 = omega arith in subst (λ k. Ends w place code 0 c0 (after k o)) (sym z) (subst (Ends w place code 0 c0) (sym (after-none o)) e) };
  }

  module _ {n0 ip : ℕ} {c : Config} {n : ℕ} {i : Instruction} (g : Advance most w place code c0 n0 ip c n) where
    pub one_left : slice_get code ip ≡ Some i → n < most
    one_left e =
        let x = within_step w place code ip c i (effect (here_at w place) (ip + 1) i c) (most - n) g.within e refl in
        omega (arith, x.1)

    module _ {here : Here} (same : here ≡ here_at w place) where
      small_did : (d : Did) → effect (here_at w place) (ip + 1) i c ≡ d → slice_get code ip ≡ Some i → length code < 2 ^ 64 → IsSmall d
      small_did (Goes c2 On) a e l = tt
      small_did (Goes c2 (Skip k)) a e l =
          let x = within_step w place code ip c i (Goes c2 (Skip k)) (most - n) g.within e a in
          let q = within_cond (most - n - 1) (nat_le (ip + 1 + k) (length code)) _ x.2 in
          omega (arith, leb-true (ip + 1 + k) (length code) q.0, l)
      small_did (Goes c2 (To p k)) a e l =
          let x = within_step w place code ip c i (Goes c2 (To p k)) (most - n) g.within e a in
          let q = within_cond (most - n - 1) (nat_le (p + k) (length code)) _ x.2 in
          omega (arith, leb-true (p + k) (length code) q.0, l)
      small_did (Goes c2 Out) a e l = tt
      small_did (Goes c2 (Ask q u)) a e l = tt
      small_did (Faults fault) a e l = tt
      small_did Sticks a e l = tt

      -- a jump of a run that ends can be counted
      pub small : slice_get code ip ≡ Some i → length code < 2 ^ 64 → IsSmall (effect here (ip + 1) i c)
      small e l =
          subst (λ h. IsSmall (effect h (ip + 1) i c)) (sym same) (small_did (effect (here_at w place) (ip + 1) i c) refl e l)

      pub not_stuck : slice_get code ip ≡ Some i → effect here (ip + 1) i c ≢ Sticks
      not_stuck e = λ a. (within_step w place code ip c i Sticks (most - n) g.within e (ap (λ h. effect h (ip + 1) i c) (sym same) ∙ a)).2

      module _ {n2 : ℕ} (e : slice_get code ip ≡ Some i) (m : n2 ≡ n + 1) where
        pub goes_on : {c2 : Config} → effect here (ip + 1) i c ≡ Goes c2 On → Advance most w place code c0 n0 (ip + 1) c2 n2
        goes_on {c2} a =
            let at_least = g.counted in
            let d : effect (here_at w place) (ip + 1) i c ≡ Goes c2 On = ap (λ h. effect h (ip + 1) i c) (sym same) ∙ a in
            let x = within_step w place code ip c i (Goes c2 On) (most - n) g.within e d in
            let left : most - n - 1 ≡ most - n2 = omega arith in
            let taken : n2 - n0 ≡ n - n0 + 1 = omega arith in
            record {
              counted = omega arith;
              bounded = λ h. omega (arith, x.1);
              within = record { depth = x.0; within = subst (λ z. Within z (exec w x.0 place code (ip + 1) c2)) left x.2 };
              leads = further w place code 0 c0 (n - n0) 1 (n2 - n0) ip (ip + 1) c c2 g.leads taken (on_leads w place code ip c c2 i e d);
            }

        pub went_on : {c2 : Config} {f : declared.Flow} → effect here (ip + 1) i c ≡ Goes c2 (flow_of f) → f ≡ flow.On → Advance most w place code c0 n0 (ip + 1) c2 n2
        went_on {c2} {f} a is = goes_on (a ∙ ap (λ x. Goes c2 (flow_of x)) is)

        -- a place that a run goes to lies within the code, and the run goes on there
        landed : {c2 : Config} (to : ℕ) (d : Did) → ((k : ℕ) → follow (length code) (body_by w (exec w k) place) (exec w k place code) ip d ≡ within_code (length code) (exec w k place code) to c2) → effect (here_at w place) (ip + 1) i c ≡ d → (1 ≤ most - n) × (to ≤ length code) × EndsWithin w place code to c2 (most - n - 1)
        landed to d is a =
            let x = within_step w place code ip c i d (most - n) g.within e a in
            let q = within_cond (most - n - 1) (nat_le to (length code)) _ (subst (Within (most - n - 1)) (is x.0) x.2) in
            (x.1, leb-true to (length code) q.0, record { depth = x.0; within = q.1 })

        at_place : {f : declared.Flow} {c2 : Config} → effect here (ip + 1) i c ≡ Goes c2 (flow_of f) → (f2 : declared.Flow) → f ≡ f2 → effect (here_at w place) (ip + 1) i c ≡ Goes c2 (flow_of f2)
        at_place {c2 = c2} a f2 is = ap (λ h. effect h (ip + 1) i c) (sym same) ∙ a ∙ ap (λ x. Goes c2 (flow_of x)) is

        arrived : {c2 : Config} (to : ℕ) → (1 ≤ most - n) × (to ≤ length code) × EndsWithin w place code to c2 (most - n - 1) → Leads w place code ip c 1 to c2 → Advance most w place code c0 n0 to c2 n2
        arrived {c2} to x led =
            let at_least = g.counted in
            let left : most - n - 1 ≡ most - n2 = omega arith in
            let taken : n2 - n0 ≡ n - n0 + 1 = omega arith in
            record {
              counted = omega arith;
              bounded = λ h. omega (arith, x.0);
              within = subst (EndsWithin w place code to c2) left x.2;
              leads = further w place code 0 c0 (n - n0) 1 (n2 - n0) ip to c c2 g.leads taken led;
            }

        pub skip_within : {c2 : Config} {f : declared.Flow} {k : ℕ} → effect here (ip + 1) i c ≡ Goes c2 (flow_of f) → f ≡ flow.Skip k → ip + 1 + k ≤ length code
        skip_within {c2} {f} {k} a is = (landed (ip + 1 + k) (Goes c2 (Skip k)) (λ _. refl) (at_place a (flow.Skip k) is)).1

        pub skipped : {c2 : Config} {f : declared.Flow} {k : ℕ} → effect here (ip + 1) i c ≡ Goes c2 (flow_of f) → f ≡ flow.Skip k → Advance most w place code c0 n0 (ip + 1 + k) c2 n2
        skipped {c2} {f} {k} a is =
            let d = at_place a (flow.Skip k) is in
            let x = landed (ip + 1 + k) (Goes c2 (Skip k)) (λ _. refl) d in
            arrived (ip + 1 + k) x (skip_leads w place code ip k c c2 i e d x.1)

        pub place_within : {c2 : Config} {f : declared.Flow} {p k : ℕ} → effect here (ip + 1) i c ≡ Goes c2 (flow_of f) → f ≡ flow.To p k → p + k ≤ length code
        place_within {c2} {f} {p} {k} a is = (landed (p + k) (Goes c2 (To p k)) (λ _. refl) (at_place a (flow.To p k) is)).1

        pub went_to : {c2 : Config} {f : declared.Flow} {p k : ℕ} → effect here (ip + 1) i c ≡ Goes c2 (flow_of f) → f ≡ flow.To p k → Advance most w place code c0 n0 (p + k) c2 n2
        went_to {c2} {f} {p} {k} a is =
            let d = at_place a (flow.To p k) is in
            let x = landed (p + k) (Goes c2 (To p k)) (λ _. refl) d in
            arrived (p + k) x (to_leads w place code ip p k c c2 i e d x.1)

        -- at the end of the code, which an instruction goes to
        pub went_out : {c2 : Config} {f : declared.Flow} → effect here (ip + 1) i c ≡ Goes c2 (flow_of f) → f ≡ flow.Out → Advance most w place code c0 n0 (length code) c2 n2
        went_out {c2} {f} a is =
            let at_least = g.counted in
            let d = at_place a flow.Out is in
            let x = within_step w place code ip c i (Goes c2 Out) (most - n) g.within e d in
            let left : most - n - 1 ≡ most - n2 = omega arith in
            let taken : n2 - n0 ≡ n - n0 + 1 = omega arith in
            record {
              counted = omega arith;
              bounded = λ h. omega (arith, x.1);
              within = record { depth = x.0; within = subst (λ z. Within z (exec w x.0 place code (length code) c2)) left x.2 };
              leads = further w place code 0 c0 (n - n0) 1 (n2 - n0) ip (length code) c c2 g.leads taken (out_leads w place code ip c c2 i e d);
            }

        -- at an instruction that takes another body
        pub at_request : {c2 : Config} {f f2 : declared.Flow} (q : Request) (u : Use) → effect here (ip + 1) i c ≡ Goes c2 (flow_of f) → f ≡ f2 → flow_of f2 ≡ Ask q u → AtAsk most w place code c0 n0 ip c n i c2 n2 q u
        at_request {c2} {f2 = f2} q u did is asks =
            record { progress = g; is = e; count = m; did = at_place did f2 is ∙ ap (Goes c2) asks }

        pub effect_failed : (r : SeenError) (c2 : Config) → Effected (effect here (ip + 1) i c) (Err r) c2 → Ran {A = Unit {0}} w place code c0 (Err r) c2 (n2 - n0)
        effect_failed None c2 a = tt
        effect_failed (Some f) c2 a =
            let at_least = g.counted in
            let z : n - n0 + (1 + 0) ≡ n2 - n0 = omega arith in
            subst (λ k. Ends w place code 0 c0 (Broken f k)) z (g.leads.by (Broken f (1 + 0)) tt (step_ends w place code ip c i (Faults f) 0 (Broken f 0) e (ap (λ h. effect h (ip + 1) i c) (sym same) ∙ a) refl))

  -- at the end
  pub finished : {n0 ip : ℕ} {c : Config} {n n2 : ℕ} → Advance most w place code c0 n0 ip c n → slice_get code ip ≡ None → n2 ≡ n → Ends w place code 0 c0 (Finished c (n2 - n0))
  finished {n0} {ip} {c} {n} {n2} g e m =
      let z : n - n0 + 0 ≡ n2 - n0 = omega arith in
      subst (λ k. Ends w place code 0 c0 (Finished c k)) z (g.leads.by (Finished c 0) tt (ends_here w place code ip c e))
