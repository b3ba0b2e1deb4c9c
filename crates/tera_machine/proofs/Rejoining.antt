-- Bodies that stand in a state of their own follow the pure machine, from their beginning to their end.
use Rattle.std.proofs.Common.{◌≡◌, ◌≢◌, ℕ, List, [], ◌∷◌, ◌++◌, Some, None, refl, sym, ap, ap₂, ◌∙◌, append-nil}
use Rattle.tera_errors.specs.Site.{Name, Text}
use Rattle.tera_values.specs.Val.{text}
use Rattle.tera_state.specs.Scope.{Frame, Around, Variables}
use Rattle.tera_state.specs.Scopes.{above_of, variables_of, around_of, coming_of, coming_around}
use Rattle.tera_state.specs.declared.scopes.Scopes.{Scopes}
use Rattle.tera_meaning.specs.Run.{Run, Request}
use Rattle.tera_meaning.specs.Whole.{World, Place, left_of}
use Rattle.tera_code.specs.Code.{Code}
use Rattle.tera_machine.specs.declared.block_bodies.SavedBody.{SavedBody}
use Rattle.tera_machine.specs.declared.open_bodies.OpenBodies.{OpenBodies}
use Rattle.tera_machine.specs.declared.configuration.Configuration.{Configuration}
use Rattle.tera_machine.specs.Config.{Loop, config_of, loops_at}
use Rattle.tera_machine.specs.Flow.{Use, Written, Pushed}
use Rattle.tera_machine.specs.Effect.{beneath_in}
use Rattle.tera_machine.specs.Exec.{Finished, used, left, left_in, Ends, BodyEnds}
use Rattle.tera_machine.specs.Advance.{BodyWithin}
use Rattle.tera_machine.specs.Bodies.{Entered, Stays}
use Rattle.tera_machine.specs.WantedBlock.{Noted}
use Rattle.tera_machine.specs.Apart.{Begins, Rejoins, joined_in}
use Rattle.tera_machine.proofs.Taking.{can_leave, body_done}
use Rattle.tera_machine.proofs.Took.{innermost_of, outer_of}

-- a state as one that stands above it has it
abbrev pub reading : Scopes → Frame × Variables
reading s = ((around_of s).frame, variables_of s)

abbrev first_above : List (Frame × Variables) → Frame × Variables → Frame × Variables
first_above [] other = other
first_above (f ∷ fs) other = f

abbrev rest_above : List (Frame × Variables) → List (Frame × Variables)
rest_above [] = []
rest_above (f ∷ fs) = fs

-- a state that stands above others has one below it in memory
below_some : (s : Scopes) (f : Frame × Variables) (fs : List (Frame × Variables)) → (around_of s).above ≡ f ∷ fs → s.below ≢ []
below_some s f fs e none = no_cons (sym (ap (above_of s.bindings) none) ∙ e)
  where
    no_cons : [] ≡ f ∷ fs → ⊥
    no_cons e = cc

-- of the body only its text is kept
abbrev pub KeepsText : Request → Type 0
KeepsText q = (v : Variables) (r : Run) → left_of q v r ≡ record { vars = v; text = r.text; blocks = [] }

-- a body that stands in a state of its own
module _ {c0 : Configuration} {c1 : Configuration} {inside : Around} {outer : SavedBody} (begins : Begins inside c0 outer c1) (seen : inside.above ≡ reading c0.scopes ∷ (around_of c0.scopes).above) {b1 b3 : OpenBodies} (c3 : Configuration) (stay : Stays b1 c1 b3 c3) where
  state_above : (around_of c3.scopes).above ≡ reading c0.scopes ∷ (around_of c0.scopes).above
  state_above = ap (λ (a : Around). a.above) (stay.around ∙ begins.around) ∙ seen

  -- has a state around its own
  pub has_outer : c3.scopes.below ≢ []
  has_outer = below_some c3.scopes _ _ state_above

  module _ {u : Use} {c4 : Configuration} (rejoins : Rejoins u c3 outer c4) where
    both : reading c4.scopes ∷ (around_of c4.scopes).above ≡ reading c0.scopes ∷ (around_of c0.scopes).above
    both = sym rejoins.around ∙ state_above

    same_frame : reading c4.scopes ≡ reading c0.scopes
    same_frame = ap (λ fs. first_above fs (reading c0.scopes)) both

    same_vars : variables_of c4.scopes ≡ variables_of c0.scopes
    same_vars = ap (λ (f : Frame × Variables). f.1) same_frame

    same_around : around_of c4.scopes ≡ around_of c0.scopes
    same_around =
        ap₂ (λ f fs. record { frame = f; above = fs }) (ap (λ (f : Frame × Variables). f.0) same_frame) (ap rest_above both)

    coming_back : coming_of c4.scopes ∷ coming_around c4.scopes ≡ coming_of c0.scopes ∷ coming_around c0.scopes
    coming_back = sym rejoins.coming ∙ ap outer_of stay.beneath ∙ begins.coming

    same_loops : loops_at outer.places (coming_of c4.scopes) ≡ (config_of c0).loops
    same_loops = ap₂ (λ ps tss. loops_at ps tss) begins.places (ap innermost_of coming_back)

    -- the body around goes on as it was, where the same is open as before
    pub apart_stayed : (b0 b4 : OpenBodies) → b4.opened ≡ b0.opened → b4.above ≡ b0.above → b4.included ≡ b0.included → Noted b0.wanted [] b4.wanted → Stays b0 c0 b4 c4
    apart_stayed b0 b4 opened above included noted = record {
      opened = opened;
      above = above;
      included = included;
      around = same_around;
      beneath = ap₂ (λ ps tss. beneath_in ps (innermost_of tss) ∷ outer_of tss) (rejoins.places ∙ begins.places) coming_back;
      since = [];
      ended = rejoins.ended ∙ begins.ended ∙ sym (append-nil c0.ended.all);
      noted = noted;
    }

    -- what is used of a body of which the text alone is kept
    used_joined : (x : Use) (t : Text) (ts : List Text) (v : Variables) (bs : List (Name × Text)) (loops : List Loop) → v ≡ (config_of c0).run.vars → bs ≡ (config_of c0).run.blocks → loops ≡ (config_of c0).loops → used x (record { vars = (config_of c0).run.vars; text = (config_of c3).run.text; blocks = [] }) (record { operands = (config_of c3).operands; captures = ts; loops = (config_of c0).loops; run = record (config_of c0).run { text = t } }) ≡ joined_in x (t ∷ ts) v bs loops (config_of c3)
    used_joined Written t ts v bs loops e f g =
        ap₂ (λ y ys. record { operands = (config_of c3).operands; captures = ts; loops = (config_of c0).loops; run = record { vars = y; text = t ++ (config_of c3).run.text; blocks = ys } }) (sym e) (append-nil (config_of c0).run.blocks ∙ sym f)
        ∙ ap (λ ls. record { operands = (config_of c3).operands; captures = ts; loops = ls; run = record { vars = v; text = t ++ (config_of c3).run.text; blocks = bs } }) (sym g)
    used_joined (Pushed safe span) t ts v bs loops e f g =
        ap₂ (λ y ys. record { operands = record { value = text (config_of c3).run.text safe; span = span } ∷ (config_of c3).operands; captures = ts; loops = (config_of c0).loops; run = record { vars = y; text = t; blocks = ys } }) (sym e) (append-nil (config_of c0).run.blocks ∙ sym f)
        ∙ ap (λ ls. record { operands = record { value = text (config_of c3).run.text safe; span = span } ∷ (config_of c3).operands; captures = ts; loops = ls; run = record { vars = v; text = t; blocks = bs } }) (sym g)

    module _ {w : World} {p : Place} {q : Request} (keeps : KeepsText q) {p1 : Place} {code : Code} {most : ℕ} (may : BodyWithin w p q u (config_of c0) most) (entry : Entered w p q (config_of c0) p1 code (config_of c1)) {j : ℕ} (over : Ends w p1 code 0 (config_of c1) (Finished (config_of c3) j)) where
      ended : left q u (config_of c0) (config_of c3) ≢ None
      ended = can_leave entry may (config_of c3) j over

      left_joined : (ls : List Loop) (ts : List Text) (v : Variables) (bs : List (Name × Text)) (loops : List Loop) → v ≡ (config_of c0).run.vars → bs ≡ (config_of c0).run.blocks → loops ≡ (config_of c0).loops → left_in ls ts q u (config_of c0) (config_of c3) ≢ None → left_in ls ts q u (config_of c0) (config_of c3) ≡ Some (joined_in u ts v bs loops (config_of c3))
      left_joined (l ∷ ls) ts v bs loops e f g h = absurd (h refl)
      left_joined [] [] v bs loops e f g h = absurd (h refl)
      left_joined [] (t ∷ ts) v bs loops e f g h =
          ap (λ done. Some (used u done (record { operands = (config_of c3).operands; captures = ts; loops = (config_of c0).loops; run = record (config_of c0).run { text = t } }))) (keeps (config_of c0).run.vars (config_of c3).run)
          ∙ ap Some (used_joined u t ts v bs loops e f g)

      -- the body is over
      pub apart_over : BodyEnds w p q u (config_of c0) (Finished (config_of c4) j)
      apart_over =
          body_done entry (config_of c3) (config_of c4) j over (left_joined (config_of c3).loops (config_of c3).captures (variables_of c4.scopes) outer.ended.all (loops_at outer.places (coming_of c4.scopes)) same_vars begins.ended same_loops ended ∙ ap Some (sym rejoins.config))
