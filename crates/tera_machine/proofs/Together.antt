-- Instructions that are done together are done one by one.
use Rattle.std.proofs.Common.{inl, inr, ◌≡◌, ℕ, zero, suc, ◌+◌, ◌-◌, ◌<◌, ◌≤◌, Option, Some, None, refl, sym, ap, ◌∙◌, subst, arith}
use Rattle.std.specs.Prelude.{slice_get, length, option_and_then}
use Rattle.std.proofs.lemmas.Option.{slice_get_cases}
use Rattle.tera_meaning.specs.Here.{Here}
use Rattle.tera_meaning.specs.Whole.{World, Place, here_at}
use Rattle.tera_code.specs.declared.instruction.Instruction.{Instruction}
use Rattle.tera_code.specs.Code.{Code}
use Rattle.tera_machine.specs.declared.machine.Flow.TheVariants as flow
use Rattle.tera_machine.specs.Config.{Config}
use Rattle.tera_machine.specs.Flow.{Flow, On, Skip, To, Out, Ask}
use Rattle.tera_machine.specs.Did.{Did, Goes, Faults, Sticks}
use Rattle.tera_machine.specs.Effect.{effect}
use Rattle.tera_machine.specs.Advance.{Advance}
use Rattle.tera_machine.specs.Together.{done, done_at, done_there, after_steps, onward}
use Rattle.tera_machine.proofs.Runs.{went_on, skipped, went_to}
use Rattle.tera_machine.proofs.Still.{still}

nowhere : {s : ℕ × Config} → None ≡ Some s → ⊥
nowhere o = cc

some_same : {a b : ℕ × Config} → Some a ≡ Some b → a ≡ b
some_same e = cc

module _ (here : Here) (code : Code) (k ip : ℕ) (c : Config) {at : ℕ} {c1 : Config} (led : after_steps here code k ip c ≡ Some (at, c1)) where
  -- what one more does
  pub done_behind : (i : Instruction) → slice_get code at ≡ Some i → done here code (suc k) ip c ≡ effect here (at + 1) i c1
  done_behind i e = ap (done_there here code) led ∙ ap (λ o. done_at here at o c1) e

  -- and where it leads
  pub led_behind : (d : Did) → done here code (suc k) ip c ≡ d → after_steps here code (suc k) ip c ≡ onward at d
  led_behind d e =
      ap (option_and_then (λ s. onward s.0 (done_at here s.0 (slice_get code s.0) s.1))) led
      ∙ ap (onward at) (ap (done_there here code) (sym led) ∙ e)

module _ (most : ℕ) (w : World) (place : Place) (code : Code) (c0 : Config) (n0 : ℕ) where
  -- how far a run comes, in which no block ended since
  pub record Came (at : ℕ) (c : Config) (n : ℕ) (old : Config) : Type 0 where
    pub progress : Advance most w place code c0 n0 at c n
    pub blocks : c.run.blocks ≡ old.run.blocks

  module _ {ip n : ℕ} {c old : Config} (g : Came ip c n old) where
    -- one instruction further
    one_further : (i : Instruction) → slice_get code ip ≡ Some i → (d : Did) → effect (here_at w place) (ip + 1) i c ≡ d → (to : ℕ) (c2 : Config) → onward ip d ≡ Some (to, c2) → Came to c2 (n + 1) old
    one_further i e (Goes c1 On) a to c2 o = subst (λ s. Came s.0 s.1 (n + 1) old) (some_same o) (record {
      progress = went_on g.progress refl e refl {f = flow.On} a refl;
      blocks = still (here_at w place) (ip + 1) i c c1 On a ∙ g.blocks;
    })
    one_further i e (Goes c1 (Skip k)) a to c2 o = subst (λ s. Came s.0 s.1 (n + 1) old) (some_same o) (record {
      progress = skipped g.progress refl e refl {f = flow.Skip k} a refl;
      blocks = still (here_at w place) (ip + 1) i c c1 (Skip k) a ∙ g.blocks;
    })
    one_further i e (Goes c1 (To p k)) a to c2 o = subst (λ s. Came s.0 s.1 (n + 1) old) (some_same o) (record {
      progress = went_to g.progress refl e refl {f = flow.To p k} a refl;
      blocks = still (here_at w place) (ip + 1) i c c1 (To p k) a ∙ g.blocks;
    })
    one_further i e (Goes c1 Out) a to c2 o = absurd (nowhere o)
    one_further i e (Goes c1 (Ask q u)) a to c2 o = absurd (nowhere o)
    one_further i e (Faults f) a to c2 o = absurd (nowhere o)
    one_further i e Sticks a to c2 o = absurd (nowhere o)

  -- so many instructions further
  pub came_through : (k ip n : ℕ) (c old : Config) → Came ip c n old → (to : ℕ) (c2 : Config) → after_steps (here_at w place) code k ip c ≡ Some (to, c2) → Came to c2 (n + k) old
  came_through zero ip n c old g to c2 e =
      let none : n ≡ n + 0 = omega arith in
      subst (λ m. Came to c2 m old) none (subst (λ s. Came s.0 s.1 n old) (some_same e) g)
  came_through (suc k) ip n c old g to c2 e =
      from (after_steps (here_at w place) code k ip c) refl (λ s q. came_through k ip n c old g s.0 s.1 q) e
    where
      by : (s : ℕ × Config) → Came s.0 s.1 (n + k) old → (o : Option Instruction) → slice_get code s.0 ≡ o → onward s.0 (done_at (here_at w place) s.0 o s.1) ≡ Some (to, c2) → Came to c2 (n + k + 1) old
      by s h None q o = absurd (nowhere o)
      by s h (Some i) q o = one_further h i q (effect (here_at w place) (s.0 + 1) i s.1) refl to c2 o

      from : (s : Option (ℕ × Config)) → after_steps (here_at w place) code k ip c ≡ s → ((t : ℕ × Config) → after_steps (here_at w place) code k ip c ≡ Some t → Came t.0 t.1 (n + k) old) → option_and_then (λ s. onward s.0 (done_at (here_at w place) s.0 (slice_get code s.0) s.1)) s ≡ Some (to, c2) → Came to c2 (n + suc k) old
      from None q led o = absurd (nowhere o)
      from (Some s) q led o =
          let z : n + k + 1 ≡ n + suc k = omega arith in
          subst (λ m. Came to c2 m old) z (by s (led s q) (slice_get code s.0) refl o)

-- where the last one stands of those that are done together
pub record Last (most : ℕ) (w : World) (place : Place) (code : Code) (c0 : Config) (n0 at n2 : ℕ) (c : Config) (d : Did) : Type 0 where
  pub before : ℕ
  pub instruction : Instruction
  pub config : Config
  pub progress : Advance most w place code c0 n0 at config before
  pub found : slice_get code at ≡ Some instruction
  pub count : n2 ≡ before + 1
  pub did : effect (here_at w place) (at + 1) instruction config ≡ d
  pub blocks : config.run.blocks ≡ c.run.blocks

there : (code : Code) (at : ℕ) → at < length code → (i : Instruction) × (slice_get code at ≡ Some i)
there code at lt = elim ((slice_get_cases code at).1) [
  | inl t ↦ (t.0, t.2)
  | inr t ↦ absurd (omega (arith, t.0, lt))
]

pub last_of : {most : ℕ} {w : World} {place : Place} {code : Code} {c0 : Config} {n0 ip n n1 n2 at : ℕ} {c c1 : Config} {here : Here} → Advance most w place code c0 n0 ip c n → here ≡ here_at w place → n1 ≡ n + 1 → n1 ≤ n2 → at < length code → after_steps here code (n2 - n1) ip c ≡ Some (at, c1) → Last most w place code c0 n0 at n2 c (done here code (suc (n2 - n1)) ip c)
last_of {most} {w} {place} {code} {c0} {n0} {ip} {n} {n1} {n2} {at} {c} {c1} {here} g same m le lt led =
    let k = n2 - n1 in
    let there_led : after_steps (here_at w place) code k ip c ≡ Some (at, c1) = subst (λ h. after_steps h code k ip c ≡ Some (at, c1)) same led in
    let it = there code at lt in
    let sum : n2 ≡ n + k + 1 = omega (arith, m, le) in
    let came = came_through most w place code c0 n0 k ip n c c (record { progress = g; blocks = refl }) at c1 there_led in
    record {
      before = n + k;
      instruction = it.0;
      config = c1;
      progress = came.progress;
      found = it.1;
      count = sum;
      did = sym (subst (λ h. done h code (suc k) ip c ≡ effect (here_at w place) (at + 1) it.0 c1) (sym same) (done_behind (here_at w place) code k ip c there_led it.0 it.1));
      blocks = came.blocks;
    }

-- no block ends in all of them
pub last_still : {most : ℕ} {w : World} {place : Place} {code : Code} {c0 : Config} {n0 n2 at : ℕ} {c : Config} {d : Did} → Last most w place code c0 n0 at n2 c d → {c2 : Config} {f : Flow} → d ≡ Goes c2 f → c2.run.blocks ≡ c.run.blocks
last_still {w = w} {place} {at = at} l {c2} {f} e =
    still (here_at w place) (at + 1) l.instruction l.config c2 f (l.did ∙ e) ∙ l.blocks
