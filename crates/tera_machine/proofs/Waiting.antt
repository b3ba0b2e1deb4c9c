-- A body that waits puts everything back.
use Rattle.std.proofs.Common.{◌≡◌, ℕ, Bool, false, List, ◌∷◌, length, Option, None, Some, Ok, Err, refl, sym, ap, ◌∙◌, subst}
use Rattle.tera_errors.specs.Site.{Name}
use Rattle.tera_errors.specs.Answer.{SeenError}
use Rattle.tera_errors.specs.declared.span.Span.{Span}
use Rattle.tera_state.specs.Scope.{Around}
use Rattle.tera_state.specs.Scopes.{around_of}
use Rattle.tera_meaning.specs.Run.{Request}
use Rattle.tera_meaning.specs.Whole.{World, Place}
use Rattle.tera_code.specs.Code.{Code}
use Rattle.tera_registry.specs.declared.templates.FoundTemplate.{FoundTemplate}
use Rattle.tera_machine.specs.declared.requests.BlockRequest.{BlockRequest}
use Rattle.tera_machine.specs.declared.open_bodies.OuterBlocks.{OuterBlocks as Kept}
use Rattle.tera_machine.specs.declared.open_bodies.OpenBodies.{OpenBodies}
use Rattle.tera_machine.specs.declared.block_bodies.BodyEnd.TheVariants as back
use Rattle.tera_registry.specs.HandedOut.{code_of}
use Rattle.tera_registry.specs.declared.body.Body.{Body}
use Rattle.tera_machine.specs.declared.block_bodies.EnteredBlock.{EnteredBlock}
use Rattle.tera_machine.specs.declared.block_bodies.SavedBody.{SavedBody}
use Rattle.tera_machine.specs.declared.block_bodies.Waiting.{Waiting}
use Rattle.tera_machine.specs.declared.configuration.Configuration.{Configuration}
use Rattle.tera_machine.specs.declared.machine.VirtualMachine.{VirtualMachine}
use Rattle.tera_machine.specs.Config.{config_of}
use Rattle.tera_machine.specs.Flow.{Use, Written, Pushed, block_request, block_use}
use Rattle.tera_machine.specs.Exec.{Finished, Ends, BodyEnds}
use Rattle.tera_machine.specs.Advance.{BodyWithin}
use Rattle.tera_machine.specs.Subject.{place_at}
use Rattle.tera_machine.specs.Bodies.{Entered, Enters, Stays}
use Rattle.tera_machine.specs.Apart.{Begins, Rejoins}
use Rattle.tera_machine.specs.Includes.{FindsTemplate}
use Rattle.tera_machine.specs.Components.{Calls}
use Rattle.tera_machine.specs.OpenThings.{one_fewer, begun}
use Rattle.tera_machine.specs.Open.{PutsBack, LeavesApart, TakesBody}
use Rattle.tera_machine.proofs.Heights.{ended_again}
use Rattle.tera_machine.proofs.Noting.{noted_apart}
use Rattle.tera_machine.proofs.Rejoining.{KeepsText, reading, has_outer, apart_stayed, apart_over}
use Rattle.tera_machine.proofs.Took.{took, stayed}

-- a body that asked for another
pub keeps_asked : (w : World) {O : Type 0} (m : VirtualMachine O) (file : Name) (a : BlockRequest) (b0 : OpenBodies) (c0 : Configuration) {inside : EnteredBlock} {b1 : OpenBodies} {c1 : Configuration} (entry : Enters w m file a b0 c0 (Ok inside) b1 c1) (here : Body) (at : ℕ) → PutsBack w (place_at m file b0 c0) (block_request a) (block_use a) b0 c0 (record { body = here; at = at; above = inside.above; outer = inside.outer; back = back.Block a }) (place_at m (code_of inside.definer.body).file b1 c1) (code_of inside.definer.body).code b1 c1
keeps_asked w m file a b0 c0 {inside} entry here at = record {
  apart = λ b3 c3 stay x. absurd x;
  closes = λ most may b3 c3 j stay over b4 c4 l.
      (took w m file a b0 c0 may entry c3 over stay b4 c4 l, stayed w m file a b0 c0 may entry c3 over stay b4 c4 l);
}

-- a body that stands in a state of its own
module _ (w : World) (p : Place) (q : Request) (u : Use) (keeps : KeepsText q) (b0 : OpenBodies) (c0 : Configuration) {p1 : Place} {code : Code} {b1 : OpenBodies} {c1 : Configuration} (entry : Entered w p q (config_of c0) p1 code (config_of c1)) {inside : Around} {outer : SavedBody} (begins : Begins inside c0 outer c1) (seen : inside.above ≡ reading c0.scopes ∷ (around_of c0.scopes).above) {around : Kept} (opened : b1.opened ≡ begun b0.opened) (start : around.start ≡ length b0.opened.around) (notes : around.notes ≡ b0.wanted.notes) (wanted : b1.wanted ≡ record b0.wanted { notes = false }) where
  closes_apart : (most : ℕ) → BodyWithin w p q u (config_of c0) most → (b3 : OpenBodies) (c3 : Configuration) (j : ℕ) → Stays b1 c1 b3 c3 → Ends w p1 code 0 (config_of c1) (Finished (config_of c3) j) → (b4 : OpenBodies) (c4 : Configuration) (r : Waiting) → r.outer ≡ outer → r.above ≡ b0.above → LeavesApart u around r b3 c3 b4 c4 → b4.included ≡ b0.included → BodyEnds w p q u (config_of c0) (Finished (config_of c4) j) × Stays b0 c0 b4 c4
  closes_apart most may b3 c3 j stay over b4 c4 r is above l included =
      let rejoins = subst (λ o. Rejoins u c3 o c4) is l.rejoins in
      (apart_over begins seen c3 stay rejoins keeps may entry over, apart_stayed begins seen c3 stay rejoins b0 b4 (ended_again opened start stay.opened l.opened) (l.above ∙ above) included (noted_apart stay.since wanted stay.noted l.wanted notes))

  module _ (here : Body) (at : ℕ) (template : Option FoundTemplate) (depth : ℕ) where
    -- that of a template that is included
    pub keeps_included : u ≡ Written → one_fewer b1.included ≡ b0.included → PutsBack w p q u b0 c0 (record { body = here; at = at; above = b0.above; outer = outer; back = back.Include around template }) p1 code b1 c1
    keeps_included written pushed =
        let r : Waiting = record { body = here; at = at; above = b0.above; outer = outer; back = back.Include around template } in
        record {
          apart = λ b3 c3 stay x. has_outer begins seen c3 stay;
          closes = λ most may b3 c3 j stay over b4 c4 l.
              closes_apart most may b3 c3 j stay over b4 c4 r refl refl (subst (λ u. LeavesApart u around r b3 c3 b4 c4) (sym written) l.0) (l.1 ∙ ap one_fewer stay.included ∙ pushed);
        }

    -- and that of a component
    pub keeps_called : (included : ℕ) → included ≡ length b0.included.around → b1.included ≡ begun b0.included → (safe : Bool) (span : Span) → u ≡ Pushed safe span → PutsBack w p q u b0 c0 (record { body = here; at = at; above = b0.above; outer = outer; back = back.Component around included template depth safe span }) p1 code b1 c1
    keeps_called included same apart safe span pushed =
        let r : Waiting = record { body = here; at = at; above = b0.above; outer = outer; back = back.Component around included template depth safe span } in
        record {
          apart = λ b3 c3 stay x. has_outer begins seen c3 stay;
          closes = λ most may b3 c3 j stay over b4 c4 l.
              closes_apart most may b3 c3 j stay over b4 c4 r refl refl (subst (λ u. LeavesApart u around r b3 c3 b4 c4) (sym pushed) l.0) (ended_again apart same stay.included l.1);
        }

-- what is not found is not taken
pub not_taken : (w : World) {O : Type 0} (m : VirtualMachine O) (here : Body) (next : ℕ) (q : Request) (u : Use) (b0 : OpenBodies) (c0 : Configuration) (open0 : List Waiting) (m1 : VirtualMachine O) (b1 : OpenBodies) (c1 : Configuration) (open1 : List Waiting) (r : SeenError) → FindsTemplate w (place_at m (code_of here).file b0 c0) q (config_of c0).run.vars (Err r) → TakesBody w m here next q u b0 c0 open0 m1 (Err r) b1 c1 open1
not_taken w m here next q u b0 c0 open0 m1 b1 c1 open1 None h = tt
not_taken w m here next q u b0 c0 open0 m1 b1 c1 open1 (Some f) h = h

pub not_called : (w : World) {O : Type 0} (m : VirtualMachine O) (here : Body) (next : ℕ) (q : Request) (u : Use) (b0 : OpenBodies) (c0 : Configuration) (open0 : List Waiting) (m1 : VirtualMachine O) (b1 : OpenBodies) (c1 : Configuration) (open1 : List Waiting) (r : SeenError) → Calls w (place_at m (code_of here).file b0 c0) q (config_of c0).run.vars (Err r) → TakesBody w m here next q u b0 c0 open0 m1 (Err r) b1 c1 open1
not_called w m here next q u b0 c0 open0 m1 b1 c1 open1 None h = tt
not_called w m here next q u b0 c0 open0 m1 b1 c1 open1 (Some f) h = h
