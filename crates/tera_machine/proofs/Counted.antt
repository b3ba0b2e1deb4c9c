-- Runs of code that give a meaning, in at most eight instructions a visit.
use Rattle.std.proofs.Common.{◌≡◌, ℕ, ◌+◌, ◌*◌, ◌≤◌, Bool, true, false, not, length, Some, Result, Ok, Err, refl, sym, ap, subst, arith}
use Rattle.std.specs.Prelude.{slice_get}
use Rattle.tera_errors.specs.Site.{Text}
use Rattle.tera_errors.specs.Fault.{Fault}
use Rattle.tera_meaning.specs.Run.{Run, Signal, Request, Answer, Failed, Gave, Meaning, more, onward, gives, answered, if_else, joined, joined_answer, put_back}
use Rattle.tera_meaning.specs.Whole.{World, Place, here_at, whole}
use Rattle.tera_code.specs.declared.instruction.Instruction.{Instruction}
use Rattle.tera_code.specs.Code.{Code}
use Rattle.tera_machine.specs.Config.{Config}
use Rattle.tera_machine.specs.Flow.{Use, On, Skip, Ask}
use Rattle.tera_machine.specs.Did.{Goes, Faults}
use Rattle.tera_machine.specs.Effect.{effect, branched}
use Rattle.tera_machine.specs.Exec.{Finished, Broken, used, Ends, BodyEnds}
use Rattle.tera_machine.specs.Advance.{Leads}
use Rattle.tera_machine.proofs.Ends.{after-none, step_ends, further, on_leads, skip_leads, ask_leads, ask_breaks}

-- a position in the code, and what the machine works on there
pub record Spot : Type 0 where
  pub ip : ℕ
  pub config : Config

-- the body of a request gives this answer, in at most eight instructions a visit
abbrev pub Asked : World → Place → Request → Use → Config → Answer Signal → Type 0
Asked w place q u c (Failed f n) = (k : ℕ) × (k ≤ 8 * n) × BodyEnds w place q u c (Broken f k)
Asked w place q u c (Gave signal r n) = (k : ℕ) × (k ≤ 8 * n) × BodyEnds w place q u c (Finished (used u r c) k)

-- the bodies that a place takes give what they mean
abbrev pub Below : World → Place → Type 0
Below w place = (q : Request) (u : Use) (c : Config) → Asked w place q u c (whole w place q c.run.vars)

-- a fact of what an answer gives
abbrev pub Holds : {A : Type 0} → (A → Type 0) → Answer A → Type 0
Holds P (Failed f v) = Unit {0}
Holds P (Gave a r v) = P a

holds_more : {A : Type 0} (P : A → Type 0) (n : ℕ) (x : Answer A) → Holds P x → Holds P (more n x)
holds_more P n (Failed f v) h = tt
holds_more P n (Gave a r v) h = h

pub holds_onward : {A B : Type 0} (P : A → Type 0) (Q : B → Type 0) (x : Answer A) (go : A → Meaning B) → Holds P x → ((a : A) (r : Run) → P a → Holds Q (go a r)) → Holds Q (onward x go)
holds_onward P Q (Failed f v) go h k = tt
holds_onward P Q (Gave a r v) go h k = holds_more Q v (go a r) (k a r h)

pub holds_any : {A : Type 0} (x : Answer A) → Holds (λ _. Unit {0}) x
holds_any (Failed f v) = tt
holds_any (Gave a r v) = tt

module _ (w : World) (place : Place) (code : Code) where
  abbrev pub Reaches : Spot → ℕ → Spot → Type 0
  Reaches a k b = Leads w place code a.ip a.config k b.ip b.config

  abbrev pub Breaks : Spot → ℕ → Fault → Type 0
  Breaks a k f = Ends w place code a.ip a.config (Broken f k)

  -- with so many instructions to spend besides eight a visit, of which so many are left
  abbrev pub Comes : {A : Type 0} → Spot → ℕ → ℕ → (A → Run → Spot) → Answer A → Type 0
  Comes from s t goal (Failed f v) = (k : ℕ) × (k + t ≤ s + 8 * v) × Breaks from k f
  Comes from s t goal (Gave a r v) = (k : ℕ) × (k + t ≤ s + 8 * v) × Reaches from k (goal a r)

  pub record Runs {A : Type 0} (from : Spot) (s t : ℕ) (goal : A → Run → Spot) (x : Answer A) : Type 0 where
    pub by : Comes from s t goal x

  reaches_then : (a b c : Spot) (j k : ℕ) → Reaches a j b → Reaches b k c → Reaches a (j + k) c
  reaches_then a b c j k g h =
      further w place code a.ip a.config j k (j + k) b.ip c.ip b.config c.config g refl h

  breaks_then : (a b : Spot) (j k : ℕ) (f : Fault) → Reaches a j b → Breaks b k f → Breaks a (j + k) f
  breaks_then a b j k f g h = g.by (Broken f k) tt h

  pub reaches_none : (a : Spot) → Reaches a 0 a
  reaches_none a = record { by = λ o over x. subst (Ends w place code a.ip a.config) (sym (after-none o)) x }

  -- nothing is to do
  pub done : {A : Type 0} {s t : ℕ} {goal : A → Run → Spot} {a : A} {r : Run} → t ≤ s → Runs (goal a r) s t goal (Gave a r 0)
  done {s = s} {t = t} {goal = goal} {a = a} {r = r} l = record { by = (0, omega (arith, l), reaches_none (goal a r)) }

  spend_comes : {A : Type 0} (from : Spot) (s t : ℕ) (goal : A → Run → Spot) (x : Answer A) → Comes from (s + 8) t goal x → Comes from s t goal (more 1 x)
  spend_comes from s t goal (Failed f v) h = (h.0, omega (arith, h.1), h.2)
  spend_comes from s t goal (Gave a r v) h = (h.0, omega (arith, h.1), h.2)

  -- a visit gives eight instructions
  pub spend : {A : Type 0} {from : Spot} {s t : ℕ} {goal : A → Run → Spot} {x : Answer A} → Runs from (s + 8) t goal x → Runs from s t goal (more 1 x)
  spend {from = from} {s = s} {t = t} {goal = goal} {x = x} h = record { by = spend_comes from s t goal x h.by }

  step_comes : {A : Type 0} (a b : Spot) (s t : ℕ) (goal : A → Run → Spot) (x : Answer A) → Reaches a 1 b → Comes b s t goal x → Comes a (s + 1) t goal x
  step_comes a b s t goal (Failed f v) g h = (1 + h.0, omega (arith, h.1), breaks_then a b 1 h.0 f g h.2)
  step_comes a b s t goal (Gave x r v) g h = (1 + h.0, omega (arith, h.1), reaches_then a b (goal x r) 1 h.0 g h.2)

  -- one instruction that leads to a position, and the rest
  pub step : {A : Type 0} {a : Spot} (b : Spot) (s : ℕ) {t : ℕ} {goal : A → Run → Spot} {x : Answer A} → Reaches a 1 b → Runs b s t goal x → Runs a (s + 1) t goal x
  step {a = a} b s {t = t} {goal = goal} {x = x} g h = record { by = step_comes a b s t goal x g h.by }

  -- one instruction, and the rest
  pub first : {A : Type 0} {ip : ℕ} {c : Config} (c2 : Config) (s : ℕ) {t : ℕ} {goal : A → Run → Spot} {x : Answer A} (i : Instruction) → slice_get code ip ≡ Some i → effect (here_at w place) (ip + 1) i c ≡ Goes c2 On → Runs (record { ip = ip + 1; config = c2 }) s t goal x → Runs (record { ip = ip; config = c }) (s + 1) t goal x
  first {ip = ip} {c = c} c2 s i e a h =
      step (record { ip = ip + 1; config = c2 }) s (on_leads w place code ip c c2 i e a) h

  -- one instruction, which jumps
  pub jump : {A : Type 0} {ip : ℕ} {c : Config} (c2 : Config) (s n : ℕ) {t : ℕ} {goal : A → Run → Spot} {x : Answer A} (i : Instruction) → slice_get code ip ≡ Some i → effect (here_at w place) (ip + 1) i c ≡ Goes c2 (Skip n) → ip + 1 + n ≤ length code → Runs (record { ip = ip + 1 + n; config = c2 }) s t goal x → Runs (record { ip = ip; config = c }) (s + 1) t goal x
  jump {ip = ip} {c = c} c2 s n i e a l h =
      step (record { ip = ip + 1 + n; config = c2 }) s (skip_leads w place code ip n c c2 i e a l) h

  adjust_comes : {A : Type 0} (from : Spot) (s t s' t' : ℕ) (goal : A → Run → Spot) (x : Answer A) → s + t' ≤ s' + t → Comes from s t goal x → Comes from s' t' goal x
  adjust_comes from s t s' t' goal (Failed f v) l k = (k.0, omega (arith, l, k.1), k.2)
  adjust_comes from s t s' t' goal (Gave a r v) l k = (k.0, omega (arith, l, k.1), k.2)

  -- more to spend, and less left over
  pub adjust : {A : Type 0} {from : Spot} {s t : ℕ} (s' t' : ℕ) {goal : A → Run → Spot} {x : Answer A} → s + t' ≤ s' + t → Runs from s t goal x → Runs from s' t' goal x
  adjust {from = from} {s = s} {t = t} s' t' {goal = goal} {x = x} l h =
      record { by = adjust_comes from s t s' t' goal x l h.by }

  -- one instruction, which faults
  pub fail : {A : Type 0} {ip : ℕ} {c : Config} {s t : ℕ} {goal : A → Run → Spot} (f : Fault) (i : Instruction) → t ≤ s → slice_get code ip ≡ Some i → effect (here_at w place) (ip + 1) i c ≡ Faults f → Runs (record { ip = ip; config = c }) (s + 1) t goal (Failed f 0)
  fail {ip = ip} {c = c} f i l e a =
      record { by = (1, omega (arith, l), step_ends w place code ip c i (Faults f) 0 (Broken f 0) e a refl) }

  rest_comes : {A : Type 0} (a b : Spot) (k s t u v : ℕ) (goal : A → Run → Spot) (y : Answer A) → k + t ≤ 0 + 8 * v → Reaches a k b → Comes b (s + t) u goal y → Comes a s u goal (more v y)
  rest_comes a b k s t u v goal (Failed f w) l g h = (k + h.0, omega (arith, h.1, l), breaks_then a b k h.0 f g h.2)
  rest_comes a b k s t u v goal (Gave x r w) l g h = (k + h.0, omega (arith, h.1, l), reaches_then a b (goal x r) k h.0 g h.2)

  onward_comes : {A B : Type 0} (from : Spot) (s t u : ℕ) (goal : A → Run → Spot) (goal' : B → Run → Spot) (x : Answer A) (go : A → Meaning B) → u ≤ s + t → Comes from 0 t goal x → ((a : A) (r : Run) → Runs (goal a r) (s + t) u goal' (go a r)) → Comes from s u goal' (onward x go)
  onward_comes from s t u goal goal' (Failed f v) go l h k = (h.0, omega (arith, l, h.1), h.2)
  onward_comes from s t u goal goal' (Gave a r v) go l h k =
      rest_comes from (goal a r) h.0 s t u v goal' (go a r) h.1 h.2 (k a r).by

  -- one part and then another; what is left of the first is spent in the second
  pub onward_runs : {A B : Type 0} {from : Spot} {s t u : ℕ} {goal : A → Run → Spot} {goal' : B → Run → Spot} {x : Answer A} {go : A → Meaning B} → u ≤ s + t → Runs from 0 t goal x → ((a : A) (r : Run) → Runs (goal a r) (s + t) u goal' (go a r)) → Runs from s u goal' (onward x go)
  onward_runs {from = from} {s = s} {t = t} {u = u} {goal = goal} {goal' = goal'} {x = x} {go = go} l h k =
      record { by = onward_comes from s t u goal goal' x go l h.by k }

  lent_comes : (k p s t u v h w : ℕ) → k + t ≤ p + 8 * v → h + u ≤ s + t + 8 * w → k + h + u ≤ s + p + 8 * (v + w)
  lent_comes k p s t u v h w a b = omega (arith, a, b)

  rest_lent : {A : Type 0} (a b : Spot) (k p s t u v : ℕ) (goal : A → Run → Spot) (y : Answer A) → k + t ≤ p + 8 * v → Reaches a k b → Comes b (s + t) u goal y → Comes a (s + p) u goal (more v y)
  rest_lent a b k p s t u v goal (Failed f w) l g h = (k + h.0, lent_comes k p s t u v h.0 w l h.1, breaks_then a b k h.0 f g h.2)
  rest_lent a b k p s t u v goal (Gave x r w) l g h = (k + h.0, lent_comes k p s t u v h.0 w l h.1, reaches_then a b (goal x r) k h.0 g h.2)

  lent_onward : {A B : Type 0} (from : Spot) (p s t u : ℕ) (goal : A → Run → Spot) (goal' : B → Run → Spot) (x : Answer A) (go : A → Meaning B) → u ≤ s + t → Comes from p t goal x → ((a : A) (r : Run) → Runs (goal a r) (s + t) u goal' (go a r)) → Comes from (s + p) u goal' (onward x go)
  lent_onward from p s t u goal goal' (Failed f v) go l h k = (h.0, omega (arith, l, h.1), h.2)
  lent_onward from p s t u goal goal' (Gave a r v) go l h k =
      rest_lent from (goal a r) h.0 p s t u v goal' (go a r) h.1 h.2 (k a r).by

  -- the same, where the first part may spend p of what there is
  pub onward_lent : {A B : Type 0} {from : Spot} (p s : ℕ) {t u : ℕ} {goal : A → Run → Spot} {goal' : B → Run → Spot} {x : Answer A} {go : A → Meaning B} → u ≤ s + t → Runs from p t goal x → ((a : A) (r : Run) → Runs (goal a r) (s + t) u goal' (go a r)) → Runs from (s + p) u goal' (onward x go)
  onward_lent {from = from} p s {t = t} {u = u} {goal = goal} {goal' = goal'} {x = x} {go = go} l h k =
      record { by = lent_onward from p s t u goal goal' x go l h.by k }

  where_comes : {A B : Type 0} (P : A → Type 0) (from : Spot) (s t u : ℕ) (goal : A → Run → Spot) (goal' : B → Run → Spot) (x : Answer A) (go : A → Meaning B) → u ≤ s + t → Holds P x → Comes from 0 t goal x → ((a : A) (r : Run) → P a → Runs (goal a r) (s + t) u goal' (go a r)) → Comes from s u goal' (onward x go)
  where_comes P from s t u goal goal' (Failed f v) go l p h k = (h.0, omega (arith, l, h.1), h.2)
  where_comes P from s t u goal goal' (Gave a r v) go l p h k =
      rest_comes from (goal a r) h.0 s t u v goal' (go a r) h.1 h.2 (k a r p).by

  -- the same, with a fact of what the first part gives
  pub onward_where : {A B : Type 0} (P : A → Type 0) {from : Spot} {s t u : ℕ} {goal : A → Run → Spot} {goal' : B → Run → Spot} {x : Answer A} {go : A → Meaning B} → u ≤ s + t → Holds P x → Runs from 0 t goal x → ((a : A) (r : Run) → P a → Runs (goal a r) (s + t) u goal' (go a r)) → Runs from s u goal' (onward x go)
  onward_where P {from = from} {s = s} {t = t} {u = u} {goal = goal} {goal' = goal'} {x = x} {go = go} l p h k =
      record { by = where_comes P from s t u goal goal' x go l p h.by k }

  -- one instruction, which chooses what comes next
  pub choice_runs : {B : Type 0} {ip : ℕ} {c : Config} (go stay : Config) (s skip : ℕ) {t : ℕ} {goal : B → Run → Spot} (b : Bool) (m n : Meaning B) (r : Run) (i : Instruction) → slice_get code ip ≡ Some i → effect (here_at w place) (ip + 1) i c ≡ branched b go skip stay → ip + 1 + skip ≤ length code → Runs (record { ip = ip + 1; config = go }) s t goal (m r) → Runs (record { ip = ip + 1 + skip; config = stay }) s t goal (n r) → Runs (record { ip = ip; config = c }) (s + 1) t goal (if_else b m n r)
  choice_runs go stay s skip true m n r i e a l f g = first go s i e a f
  choice_runs go stay s skip false m n r i e a l f g = jump stay s skip i e a l g

  -- the same, where it chooses by the opposite
  pub choice_not_runs : {B : Type 0} {ip : ℕ} {c : Config} (go stay : Config) (s skip : ℕ) {t : ℕ} {goal : B → Run → Spot} (b : Bool) (m n : Meaning B) (r : Run) (i : Instruction) → slice_get code ip ≡ Some i → effect (here_at w place) (ip + 1) i c ≡ branched (not b) go skip stay → ip + 1 + skip ≤ length code → Runs (record { ip = ip + 1; config = go }) s t goal (n r) → Runs (record { ip = ip + 1 + skip; config = stay }) s t goal (m r) → Runs (record { ip = ip; config = c }) (s + 1) t goal (if_else b m n r)
  choice_not_runs go stay s skip true m n r i e a l f g = jump stay s skip i e a l g
  choice_not_runs go stay s skip false m n r i e a l f g = first go s i e a f

  -- the one position is the other, or an instruction leads there
  abbrev pub Follows : Spot → Spot → Type 0
  Follows a b = (k : ℕ) × (k ≤ 1) × Reaches a k b

  after_comes : {A : Type 0} (from : Spot) (s t : ℕ) (goal goal' : A → Run → Spot) (x : Answer A) → ((a : A) (r : Run) → Follows (goal a r) (goal' a r)) → Comes from s t goal x → Comes from (s + 1) t goal' x
  after_comes from s t goal goal' (Failed f v) g h = (h.0, omega (arith, h.1), h.2)
  after_comes from s t goal goal' (Gave a r v) g h =
      let k = g a r in
      (h.0 + k.0, omega (arith, h.1, k.1), reaches_then from (goal a r) (goal' a r) h.0 k.0 h.2 k.2)

  -- at most one instruction more at the end
  pub jump_after : {A : Type 0} {from : Spot} {s t : ℕ} {goal goal' : A → Run → Spot} {x : Answer A} → ((a : A) (r : Run) → Follows (goal a r) (goal' a r)) → Runs from s t goal x → Runs from (s + 1) t goal' x
  jump_after {from = from} {s = s} {t = t} {goal = goal} {goal' = goal'} {x = x} g h =
      record { by = after_comes from s t goal goal' x g h.by }

  none_comes : {A : Type 0} (from : Spot) (s t : ℕ) (goal : A → Run → Spot) (x : Answer A) → Comes from s t goal x → Comes from s t goal (more 0 x)
  none_comes from s t goal (Failed f v) h = (h.0, omega (arith, h.1), h.2)
  none_comes from s t goal (Gave a r v) h = (h.0, omega (arith, h.1), h.2)

  -- what is no visit
  pub none : {A : Type 0} {from : Spot} {s t : ℕ} {goal : A → Run → Spot} {x : Answer A} → Runs from s t goal x → Runs from s t goal (more 0 x)
  none {from = from} {s = s} {t = t} {goal = goal} {x = x} h =
      record { by = none_comes from s t goal x h.by }

  -- what is answered, by one instruction that faults where that is a fault
  pub answered_runs : {A B : Type 0} {ip : ℕ} {c : Config} (s : ℕ) {t : ℕ} {goal : B → Run → Spot} (o : Result A Fault) (r : Run) (go : A → Meaning B) (i : Instruction) → t ≤ s → slice_get code ip ≡ Some i → ((f : Fault) → o ≡ Err f → effect (here_at w place) (ip + 1) i c ≡ Faults f) → ((a : A) → o ≡ Ok a → Runs (record { ip = ip; config = c }) (s + 1) t goal (go a r)) → Runs (record { ip = ip; config = c }) (s + 1) t goal (onward (answered o r) go)
  answered_runs s (Ok a) r go i l e f k = none (k a refl)
  answered_runs s (Err fault) r go i l e f k = fail {s = s} fault i l e (f fault refl)

  put_back_comes : {A : Type 0} (from : Spot) (s : ℕ) (before : Text) (goal : Signal → Run → Spot) (goal' : A → Run → Spot) (x : Answer Signal) (go : Signal × Text → Meaning A) → Comes from 0 0 goal x → ((signal : Signal) (r : Run) → Runs (goal signal r) s 0 goal' (go (signal, r.text) (record r { text = before }))) → Comes from s 0 goal' (onward (put_back before x) go)
  put_back_comes from s before goal goal' (Failed f v) go h k = (h.0, omega (arith, h.1), h.2)
  put_back_comes from s before goal goal' (Gave signal r v) go h k =
      rest_comes from (goal signal r) h.0 s 0 0 v goal' (go (signal, r.text) (record r { text = before })) h.1 h.2 (adjust (s + 0) 0 (omega arith) (k signal r)).by

  -- a text that was captured, and the text around it
  pub put_back_runs : {A : Type 0} {from : Spot} (s : ℕ) (before : Text) (goal : Signal → Run → Spot) {goal' : A → Run → Spot} {x : Answer Signal} (go : Signal × Text → Meaning A) → Runs from 0 0 goal x → ((signal : Signal) (r : Run) → Runs (goal signal r) s 0 goal' (go (signal, r.text) (record r { text = before }))) → Runs from s 0 goal' (onward (put_back before x) go)
  put_back_runs {from = from} s before goal {goal' = goal'} {x = x} go h k =
      record { by = put_back_comes from s before goal goal' x go h.by k }

  rest_asked : {A : Type 0} (a b : Spot) (k s t n : ℕ) (goal : A → Run → Spot) (y : Answer A) → k ≤ 8 * n → Reaches a (1 + k) b → Comes b s t goal y → Comes a (s + 1) t goal (more n y)
  rest_asked a b k s t n goal (Failed f w) l g h = (1 + k + h.0, omega (arith, h.1, l), breaks_then a b (1 + k) h.0 f g h.2)
  rest_asked a b k s t n goal (Gave x r w) l g h = (1 + k + h.0, omega (arith, h.1, l), reaches_then a b (goal x r) (1 + k) h.0 g h.2)

  asked_comes : {B : Type 0} (ip s t : ℕ) (c c2 : Config) (goal : B → Run → Spot) (q : Request) (u : Use) (r : Run) (go : Text → Meaning B) (i : Instruction) (x : Answer Signal) → t ≤ s → slice_get code ip ≡ Some i → effect (here_at w place) (ip + 1) i c ≡ Goes c2 (Ask q u) → Asked w place q u c2 x → ((after : Run) → Runs (record { ip = ip + 1; config = used u after c2 }) s t goal (go after.text (joined r after))) → Comes (record { ip = ip; config = c }) (s + 1) t goal (onward (joined_answer r x) go)
  asked_comes ip s t c c2 goal q u r go i (Failed f n) l e a h k =
      (1 + h.0, omega (arith, l, h.1), ask_breaks w place code ip c c2 i q u h.0 f e a h.2)
  asked_comes ip s t c c2 goal q u r go i (Gave signal after n) l e a h k =
      let from : Spot = record { ip = ip; config = c } in
      let to : Spot = record { ip = ip + 1; config = used u after c2 } in
      let at : Reaches from (1 + h.0) to = ask_leads w place code ip c c2 (used u after c2) i q u h.0 e a h.2 in
      rest_asked from to h.0 s t n goal (go after.text (joined r after)) h.1 at (k after).by

  -- one instruction, which takes another body
  pub asked_runs : {B : Type 0} {ip : ℕ} {c : Config} (c2 : Config) (s : ℕ) {t : ℕ} {goal : B → Run → Spot} (q : Request) (u : Use) (r : Run) (go : Text → Meaning B) (i : Instruction) (x : Answer Signal) → t ≤ s → slice_get code ip ≡ Some i → effect (here_at w place) (ip + 1) i c ≡ Goes c2 (Ask q u) → Asked w place q u c2 x → ((after : Run) → Runs (record { ip = ip + 1; config = used u after c2 }) s t goal (go after.text (joined r after))) → Runs (record { ip = ip; config = c }) (s + 1) t goal (onward (joined_answer r x) go)
  asked_runs {ip = ip} {c = c} c2 s {t = t} {goal = goal} q u r go i x l e a h k =
      record { by = asked_comes ip s t c c2 goal q u r go i x l e a h k }

  -- a result of which something is made
  pub mapped_runs : {A B : Type 0} {from : Spot} (s : ℕ) {t : ℕ} {goal : B → Run → Spot} (f : A → B) {x : Answer A} → Runs from s t (λ a r. goal (f a) r) x → Runs from s t goal (onward x (λ a. gives (f a)))
  mapped_runs s {t = t} f h =
      adjust {s = 0 + s} {t = t} s t (omega arith) (onward_lent s 0 (omega arith) h (λ a r. done (omega arith)))

  same_comes : {A : Type 0} (from : Spot) (s t : ℕ) (goal goal' : A → Run → Spot) (x : Answer A) → ((a : A) (r : Run) → goal a r ≡ goal' a r) → Comes from s t goal x → Comes from s t goal' x
  same_comes from s t goal goal' (Failed f v) e h = h
  same_comes from s t goal goal' (Gave a r v) e h = (h.0, h.1, subst (Reaches from h.0) (e a r) h.2)

  -- to the same positions, told otherwise
  pub same_goal : {A : Type 0} {from : Spot} {s t : ℕ} {goal goal' : A → Run → Spot} {x : Answer A} → ((a : A) (r : Run) → goal a r ≡ goal' a r) → Runs from s t goal x → Runs from s t goal' x
  same_goal {from = from} {s = s} {t = t} {goal = goal} {goal' = goal'} {x = x} e h =
      record { by = same_comes from s t goal goal' x e h.by }

more-more : {A : Type 0} (n m : ℕ) (x : Answer A) → more n (more m x) ≡ more (n + m) x
more-more n m (Failed fault k) = let e : n + (m + k) ≡ n + m + k = omega arith in ap (Failed fault) e
more-more n m (Gave a r k) = let e : n + (m + k) ≡ n + m + k = omega arith in ap (Gave a r) e

more-onward : {A B : Type 0} (n : ℕ) (x : Answer A) (g : A → Meaning B) → onward (more n x) g ≡ more n (onward x g)
more-onward n (Failed fault m) g = refl
more-onward n (Gave a r m) g = sym (more-more n m (g a r))

-- what follows a part that is followed by another
pub onward-onward : {A B D : Type 0} (x : Answer A) (f : A → Meaning B) (g : B → Meaning D) → onward (onward x f) g ≡ onward x (λ a r. onward (f a r) g)
onward-onward (Failed fault n) f g = refl
onward-onward (Gave a r n) f g = more-onward n (f a r) g
