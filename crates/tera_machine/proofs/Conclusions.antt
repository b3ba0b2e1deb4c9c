-- A run of the code of a tree, from its start to its end.
use Rattle.std.proofs.Common.{◌≡◌, ℕ, zero, suc, ◌+◌, ◌-◌, ◌*◌, ◌<◌, ◌≤◌, [], length, Some, None, Result, Ok, Err, refl, sym, ap, ◌∙◌, subst, arith}
use Rattle.tera_errors.specs.Fault.{Fault}
use Rattle.tera_errors.specs.Answer.{SeenError}
use Rattle.tera_syntax_tree.specs.Tree.{Nodes}
use Rattle.tera_values.specs.Alphabet.{plain}
use Rattle.tera_state.specs.Scope.{Variables}
use Rattle.tera_meaning.specs.Run.{Run, Request, Signal, On, Broke, Continued, Answer, Failed, Gave, more, visits_of}
use Rattle.tera_meaning.specs.Meaning.{nodes_meaning}
use Rattle.tera_meaning.specs.Whole.{World, Place, Way, Refuses, Takes, way, rank, ends, along, here_at, whole}
use Rattle.tera_meaning.proofs.Levels.{IsLower, falls, unrolls}
use Rattle.tera_code.specs.Code.{Code, nodes_code}
use Rattle.tera_machine.specs.Config.{Config}
use Rattle.tera_machine.specs.Flow.{Use}
use Rattle.tera_machine.specs.Exec.{Finished, Broken, entered, leaving, taken, exec, Within, Ends, EndsWithin, Ran}
use Rattle.tera_machine.specs.Subject.{Means}
use Rattle.tera_machine.proofs.Ends.{ends_here, same_end}
use Rattle.tera_machine.proofs.Places.{stands_whole, nothing_behind}
use Rattle.tera_machine.proofs.Counted.{Asked, Below, Reaches, Comes}
use Rattle.tera_machine.proofs.Arrivals.{Base, spot, Arrive, arrive_at}
use Rattle.tera_machine.proofs.Chunks.{nodes_runs}

-- what waits in a body, none of whose loops is open
abbrev waiting : Config → Base
waiting c = record { operands = c.operands; captures = c.captures; loops = [] }

abbrev outside : Config → Config
outside c = record c { loops = [] }

module _ (w : World) (place : Place) where
  -- the whole run ends as the answer says, in at most eight instructions a visit
  abbrev pub Concludes : Code → Config → Answer Signal → Type 0
  Concludes code c (Failed f v) = (k : ℕ) × (k ≤ 8 * v) × Ends w place code 0 c (Broken f k)
  Concludes code c (Gave signal r v) = (k : ℕ) × (k ≤ 8 * v) × Ends w place code 0 c (Finished (record c { run = r }) k)

  -- a body ends where its code does, also by a way out of a loop that is not there
  finishes : (code : Code) (c : Config) (r : Run) (k v : ℕ) → k + 0 ≤ 0 + 8 * v → Reaches w place code (spot 0 (waiting c) c.run) k (spot (length code) (waiting c) r) → Concludes code (outside c) (Gave On r v)
  finishes code c r k v l h =
      let last : Config = record c { loops = []; run = r } in
      (k + 0, omega (arith, l), h.by (Finished last 0) tt (ends_here w place code (length code) last (nothing_behind code)))

  comes_to : (code : Code) (c : Config) (x : Answer Signal) → Comes w place code (spot 0 (waiting c) c.run) 0 0 (Arrive code (length code) (waiting c) 0) x → Concludes code (outside c) x
  comes_to code c (Failed f v) h = (h.0, omega (arith, h.1), h.2)
  comes_to code c (Gave On r v) h = finishes code c r h.0 v h.1 h.2
  comes_to code c (Gave Broke r v) h = finishes code c r h.0 v h.1 h.2
  comes_to code c (Gave Continued r v) h = finishes code c r h.0 v h.1 h.2

  -- the code of a tree does, where the bodies that it takes do
  pub concludes : Below w place → (tree : Nodes) (c : Config) → c.loops ≡ [] → Concludes (nodes_code tree 0) c (nodes_meaning (here_at w place) (whole w place) tree c.run)
  concludes below tree c own =
      let code = nodes_code tree 0 in
      let answer = nodes_meaning (here_at w place) (whole w place) tree c.run in
      let e : 0 + length code ≡ length code = omega arith in
      let runs = arrive_at w place code 0 _ e (nodes_runs w place code below tree 0 0 (waiting c) c.run tt (stands_whole code)) in
      subst (λ loops. Concludes code (record c { loops = loops }) answer) (sym own) (comes_to code c answer runs.by)

  module _ (code : Code) (c : Config) where
    -- one visit more, for the body
    pub ends_within : (x : Answer Signal) → Concludes code c x → EndsWithin w place code 0 c (8 * visits_of (more 1 x))
    ends_within (Failed f v) h =
        record { depth = h.2.depth; within = subst (Within (8 * (1 + v))) (sym h.2.is) (omega (arith, h.1)) }
    ends_within (Gave signal r v) h =
        record { depth = h.2.depth; within = subst (Within (8 * (1 + v))) (sym h.2.is) (omega (arith, h.1)) }

    same_config : (a b : Config) (j k : ℕ) → Finished a j ≡ Finished b k → a ≡ b
    same_config a b j k e = cc

    same_fault : (f g : Fault) (j k : ℕ) → Broken f j ≡ Broken g k → f ≡ g
    same_fault f g j k e = cc

    not_both : (a : Config) (f : Fault) (j k : ℕ) → Finished a j ≡ Broken f k → ⊥
    not_both a f j k e = cc

    -- and so does the machine
    pub means : (x : Answer Signal) → Concludes code c x → (result : Result (Unit {0}) SeenError) (c2 : Config) (n : ℕ) → Ran w place code c result c2 n → Means (more 1 x) c result c2
    means (Failed f v) h (Ok u) c2 n ran =
        not_both c2 f n h.0 (same_end w place code 0 c _ _ tt tt ran h.2)
    means (Failed f v) h (Err None) c2 n ran = tt
    means (Failed f v) h (Err (Some g)) c2 n ran =
        same_fault g f n h.0 (same_end w place code 0 c _ _ tt tt ran h.2)
    means (Gave signal r v) h (Ok u) c2 n ran =
        same_config c2 _ n h.0 (same_end w place code 0 c _ _ tt tt ran h.2)
    means (Gave signal r v) h (Err None) c2 n ran = tt
    means (Gave signal r v) h (Err (Some g)) c2 n ran =
        not_both _ g h.0 n (same_end w place code 0 c _ _ tt tt h.2 ran)

-- all bodies, by how many levels of them can be below

module _ (w : World) where
  asked_takes : (p p' : Place) (q : Request) (u : Use) (c : Config) (v' : Variables) (body : Nodes) (x : Answer Signal) → way w p q c.run.vars ≡ Takes p' v' body → Concludes w p' (nodes_code body 0) (entered v' c) x → Asked w p q u c (ends q c.run.vars (more 1 x))
  asked_takes p p' q u c v' body (Failed f n) e h =
      (h.0, omega (arith, h.1), record { depth = h.2.depth; is = ap (taken (exec w h.2.depth) q u c) e ∙ ap (leaving q u c) h.2.is })
  asked_takes p p' q u c v' body (Gave s r n) e h =
      (h.0, omega (arith, h.1), record { depth = h.2.depth; is = ap (taken (exec w h.2.depth) q u c) e ∙ ap (leaving q u c) h.2.is })

  asked_along : (p : Place) (q : Request) (u : Use) (c : Config) (x : Way) → way w p q c.run.vars ≡ x → IsLower w p x → ((p' : Place) → rank w p' < rank w p → Below w p') → Asked w p q u c (along plain w (whole w) q c.run.vars x)
  asked_along p q u c (Refuses f) e l h =
      (0, omega arith, record { depth = 0; is = ap (taken (exec w 0) q u c) e })
  asked_along p q u c (Takes p' v' body) e l h =
      asked_takes p p' q u c v' body _ e (concludes w p' (h p' l) body (entered v' c) refl)

  below_rank : (n : ℕ) (p : Place) → rank w p < n → Below w p
  below_rank zero p l q u c = absurd (omega arith)
  below_rank (suc n) p l q u c =
      subst (Asked w p q u c) (sym (unrolls plain w p q c.run.vars)) (asked_along p q u c (way w p q c.run.vars) refl (falls plain w p q c.run.vars) (λ p' lower. below_rank n p' (omega (arith, l, lower))))

  -- the bodies that any place takes give what they mean
  pub all_below : (p : Place) → Below w p
  all_below p = let l : rank w p < suc (rank w p) = omega arith in below_rank (suc (rank w p)) p l

module _ (w : World) {place place2 : Place} {code : Code} (tree : Nodes) (same : place ≡ place2) (is : code ≡ nodes_code tree 0) where
  -- the code of a tree may be run, from any count of instructions
  pub can_run : (c : Config) → c.loops ≡ [] → (n : ℕ) → EndsWithin w place code 0 c (n + 8 * visits_of (more 1 (nodes_meaning (here_at w place2) (whole w place2) tree c.run)) - n)
  can_run c own n =
      let m : ℕ = 8 * visits_of (more 1 (nodes_meaning (here_at w place2) (whole w place2) tree c.run)) in
      let e : m ≡ n + m - n = omega arith in
      let x = ends_within w place2 (nodes_code tree 0) c _ (concludes w place2 (all_below w place2) tree c own) in
      subst (λ p. EndsWithin w p code 0 c (n + m - n)) (sym same) (subst (λ x. EndsWithin w place2 x 0 c (n + m - n)) (sym is) (subst (EndsWithin w place2 (nodes_code tree 0) 0 c) e x))

  -- and gives what the tree means
  pub gave_meant : (c : Config) → c.loops ≡ [] → (result : Result (Unit {0}) SeenError) (c2 : Config) (k : ℕ) → Ran w place code c result c2 k → Means (more 1 (nodes_meaning (here_at w place2) (whole w place2) tree c.run)) c result c2
  gave_meant c own result c2 k ran =
      means w place2 (nodes_code tree 0) c _ (concludes w place2 (all_below w place2) tree c own) result c2 k (subst (λ x. Ran w place2 x c result c2 k) is (subst (λ p. Ran w p code c result c2 k) same ran))

-- a fault is that of a run of any answer
pub fault_ran : (A : Type 0) (w : World) (p : Place) (code : Code) (c : Config) (e : SeenError) (c2 : Config) (k : ℕ) → Ran {A = Unit {0}} w p code c (Err e) c2 k → Ran {A = A} w p code c (Err e) c2 k
fault_ran A w p code c None c2 k ran = tt
fault_ran A w p code c (Some f) c2 k ran = ran
