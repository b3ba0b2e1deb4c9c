-- The machine's loop follows the pure machine into a body and back.
use Rattle.std.proofs.Common.{◌≡◌, ◌≢◌, ℕ, ◌+◌, ◌-◌, ◌<◌, ◌≤◌, Option, Some, None, refl, sym, ap, ◌∙◌, subst, ⊎_elim, arith}
use Rattle.std.proofs.lemmas.Bool.{cases_lt}
use Rattle.tera_errors.specs.Fault.{Fault}
use Rattle.tera_meaning.specs.Run.{Request}
use Rattle.tera_meaning.specs.Whole.{World, Place, Refuses, way}
use Rattle.tera_code.specs.declared.instruction.Instruction.{Instruction}
use Rattle.tera_code.specs.Code.{Code}
use Rattle.tera_machine.specs.Config.{Config}
use Rattle.tera_machine.specs.Flow.{Use, Ask}
use Rattle.tera_machine.specs.Did.{Goes}
use Rattle.tera_machine.specs.Exec.{End, Finished, Broken, Unfinished, Stuck, then_on, entered, left, back, leaving, taken, body_by, exec, Within, IsOver, Ends, EndsWithin, BodyEnds}
use Rattle.tera_machine.specs.Advance.{Advance, BodyWithin}
use Rattle.tera_machine.specs.Bodies.{Entered}
use Rattle.tera_machine.specs.Open.{AtAsk}
use Rattle.tera_machine.proofs.Ends.{within_less, within_step, body_deeper, same_end, further, ask_leads, ask_breaks}

within_over : (m : ℕ) (o : End) → Within m o → IsOver o
within_over m (Finished c n) h = tt
within_over m (Broken f n) h = tt
within_over m Unfinished h = h
within_over m Stuck h = tt

within_then : (m : ℕ) (a : End) (f : Config → End) → Within m (then_on a f) → Within m a
within_then m (Finished c n) f h = (within_less n m (f c) h).0
within_then m (Broken x n) f h = h
within_then m Unfinished f h = h
within_then m Stuck f h = h

within_leaving : (m : ℕ) (q : Request) (u : Use) (c : Config) (o : End) → Within m (leaving q u c o) → Within m o
within_leaving m q u c (Finished d n) h = within_back (left q u c d) h
  where
    within_back : (o : Option Config) → Within m (back o n) → n ≤ m
    within_back None h = absurd h
    within_back (Some z) h = h
within_leaving m q u c (Broken f n) h = h
within_leaving m q u c Unfinished h = h
within_leaving m q u c Stuck h = h

module _ {most : ℕ} {w : World} {p : Place} {code : Code} {c0 : Config} {n0 ip : ℕ} {c : Config} {n : ℕ} {i : Instruction} {c2 : Config} {n2 : ℕ} {q : Request} {u : Use} (at : AtAsk most w p code c0 n0 ip c n i c2 n2 q u) where
  ask_step : (k : ℕ) × (1 ≤ most - n) × Within (most - n - 1) (then_on (body_by w (exec w k) p q u c2) (exec w k p code (ip + 1)))
  ask_step = within_step w p code ip c i (Goes c2 (Ask q u)) (most - n) at.progress.within at.is at.did

  pub ask_left : n < most
  ask_left = let x = ask_step in omega (arith, x.1)

  -- the body may be taken
  pub body_within : BodyWithin w p q u c2 (most - n2)
  body_within =
      let x = ask_step in
      let m = at.count in
      let r : most - n - 1 ≡ most - n2 = omega arith in
      record { depth = x.0; within = subst (λ z. Within z (body_by w (exec w x.0) p q u c2)) r (within_then (most - n - 1) _ _ x.2) }

  within_rest : (c4 : Config) (j : ℕ) → BodyEnds w p q u c2 (Finished c4 j) → Within (most - n - 1 - j) (exec w (ask_step.0) p code (ip + 1) c4)
  within_rest c4 j y =
      let x = ask_step in
      let over = within_over _ _ (within_then (most - n - 1) _ _ x.2) in
      let same = one_body x.0 y.depth over y.is in
      let P : End → Type 0 = Within (most - n - 1) in
      (within_less j (most - n - 1) (exec w x.0 p code (ip + 1) c4) (subst P (ap (λ z. then_on z (exec w x.0 p code (ip + 1))) same) x.2)).1
    where
      one_body : (a b : ℕ) → IsOver (body_by w (exec w a) p q u c2) → body_by w (exec w b) p q u c2 ≡ Finished c4 j → body_by w (exec w a) p q u c2 ≡ Finished c4 j
      one_body a b over h =
          ⊎_elim
          (λ lt. sym (body_deeper w a b (omega arith) p q u c2 over) ∙ h)
          (λ le. body_deeper w b a le p q u c2 (subst IsOver (sym h) tt) ∙ h)
          (cases_lt a b)

  -- where the body ended, the run goes on behind it
  pub came_back : (c4 : Config) (n3 : ℕ) → n2 ≤ n3 → (n2 ≤ most → n3 ≤ most) → BodyEnds w p q u c2 (Finished c4 (n3 - n2)) → Advance most w p code c0 n0 (ip + 1) c4 n3
  came_back c4 n3 le up y =
      let x = ask_step in
      let m = at.count in
      let g = at.progress.counted in
      let r : most - n - 1 - (n3 - n2) ≡ most - n3 = omega arith in
      let d : n3 - n0 ≡ n - n0 + (1 + (n3 - n2)) = omega arith in
      record {
        counted = omega arith;
        bounded = λ h. up (omega (arith, x.1));
        within = record { depth = x.0; within = subst (λ z. Within z (exec w x.0 p code (ip + 1) c4)) r (within_rest c4 (n3 - n2) y) };
        leads = further w p code 0 c0 (n - n0) (1 + (n3 - n2)) (n3 - n0) ip (ip + 1) c c4 at.progress.leads d (ask_leads w p code ip c c2 c4 i q u (n3 - n2) at.is at.did y);
      }

  -- a fault in the body is a fault of the whole
  pub body_failed : (f : Fault) (n3 : ℕ) → n2 ≤ n3 → BodyEnds w p q u c2 (Broken f (n3 - n2)) → Ends w p code 0 c0 (Broken f (n3 - n0))
  body_failed f n3 le y =
      let m = at.count in
      let g = at.progress.counted in
      let z : n - n0 + (1 + (n3 - n2)) ≡ n3 - n0 = omega arith in
      subst (λ k. Ends w p code 0 c0 (Broken f k)) z (at.progress.leads.by (Broken f (1 + (n3 - n2))) tt (ask_breaks w p code ip c c2 i q u (n3 - n2) f at.is at.did y))

-- A body that is taken, from its beginning to its end.

-- what runs it, in the terms of what was entered
body_runs : (w : World) (p : Place) (q : Request) (u : Use) (c : Config) {p' : Place} {code : Code} {c' : Config} (entry : Entered w p q c p' code c') (k : ℕ) → body_by w (exec w k) p q u c ≡ leaving q u c (exec w k p' code 0 c')
body_runs w p q u c {p'} {code} {c'} entry k =
    ap (taken (exec w k) q u c) entry.takes
    ∙ ap (λ x. leaving q u c (exec w k p' x 0 (entered entry.vars c))) (sym entry.is)
    ∙ ap (λ x. leaving q u c (exec w k p' code 0 x)) (sym entry.config)

module _ {w : World} {p : Place} {q : Request} {u : Use} {c : Config} where
  -- a request that is refused
  pub refused : (f : Fault) (k : ℕ) → k ≡ 0 → way w p q c.run.vars ≡ Refuses f → BodyEnds w p q u c (Broken f k)
  refused f k z e =
      record { depth = 0; is = ap (taken (exec w 0) q u c) e ∙ ap (Broken f) (sym z) }

  module _ {p' : Place} {code : Code} {c' : Config} (entry : Entered w p q c p' code c') where
    inside : {m : ℕ} (b : BodyWithin w p q u c m) → Within m (leaving q u c (exec w b.depth p' code 0 c'))
    inside {m} b = let P : End → Type 0 = Within m in subst P (body_runs w p q u c entry b.depth) b.within

    -- it may be run
    pub inner_within : {m : ℕ} → BodyWithin w p q u c m → EndsWithin w p' code 0 c' m
    inner_within {m} b = record { depth = b.depth; within = within_leaving m q u c _ (inside b) }

    -- it may be left
    pub can_leave : {m : ℕ} → BodyWithin w p q u c m → (c3 : Config) (j : ℕ) → Ends w p' code 0 c' (Finished c3 j) → left q u c c3 ≢ None
    can_leave {m} b c3 j x none =
        let P : End → Type 0 = Within m in
        let y : Ends w p' code 0 c' (exec w b.depth p' code 0 c') = record { depth = b.depth; is = refl } in
        let same = same_end w p' code 0 c' _ (Finished c3 j) (within_over m _ (within_leaving m q u c _ (inside b))) tt y x in
        subst P (ap (leaving q u c) same ∙ ap (λ o. back o j) none) (inside b)

    pub body_done : (c3 c4 : Config) (j : ℕ) → Ends w p' code 0 c' (Finished c3 j) → left q u c c3 ≡ Some c4 → BodyEnds w p q u c (Finished c4 j)
    body_done c3 c4 j x l =
        record { depth = x.depth; is = body_runs w p q u c entry x.depth ∙ ap (leaving q u c) x.is ∙ ap (λ o. back o j) l }

    pub body_broke : (f : Fault) (j : ℕ) → Ends w p' code 0 c' (Broken f j) → BodyEnds w p q u c (Broken f j)
    body_broke f j x = record { depth = x.depth; is = body_runs w p q u c entry x.depth ∙ ap (leaving q u c) x.is }
