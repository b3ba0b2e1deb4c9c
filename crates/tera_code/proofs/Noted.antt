-- What is noted in packed instructions of those behind them.
use Rattle.std.proofs.Common.{◌≡◌, ◌≢◌, ℕ, ◌+◌, ◌<◌, Bool, false, List, Option, Some, None, cond, length, map, get_or, refl, sym, ap, subst, ◌∙◌, arith, below_more, get_or-set_other, get_or-set_same}
use Rattle.std.proofs.lemmas.List.{length-set}
use Rattle.std.proofs.lemmas.List.Elements.{All-set}
use Rattle.std.proofs.Math.Seq.{map-set_same}
use Rattle.std.specs.List.{All}
use Rattle.std.specs.Prelude.{set, slice_get, option_map, option_and_then, is_some, IfSome, ◌&&◌}
use Rattle.std.proofs.lemmas.Option.{slice_get-map, slice_get-get_or, slice_get_within, get_or_from_slice_get}
use Rattle.tera_errors.specs.Site.{Name}
use Rattle.tera_errors.specs.declared.span.Span.{Span}
use Rattle.tera_code.specs.declared.instruction.Instruction.{Instruction}
use Rattle.tera_code.specs.declared.instruction.Instruction.TheVariants as instruction
use Rattle.tera_code.specs.declared.packed.Packed.{Packed}
use Rattle.tera_code.specs.declared.packed.Packed.TheVariants as packed
use Rattle.tera_code.specs.InstructionParts.{loaded_name, started_loop, uses_top_at}
use Rattle.tera_code.specs.Packed.{TableContents, Within, unpacked}
use Rattle.tera_code.specs.Printing.{printing, printing_loop_at}
use Rattle.tera_code.specs.Settled.{Notes, Settled, has_notes, reads_on, printing_size}
use Rattle.tera_code.proofs.Parts.{sized, turn_ends}

-- what stands at a position
pub meant_there : (s : TableContents) (ps : List Packed) (i : ℕ) (d : Packed) → i < length ps → slice_get (map (unpacked s) ps) i ≡ Some (unpacked s (get_or ps i d))
meant_there s ps i d l = slice_get-map (unpacked s) ps i ∙ ap (option_map (unpacked s)) (slice_get-get_or ps i d l)

-- nothing is noted in others
plain : (s : TableContents) (p : Packed) → has_notes p ≡ false → (loaded_name (unpacked s p) ≡ None) × (started_loop (unpacked s p) ≡ None) × (reads_on p ≡ false) × (printing_size p ≡ None)
plain s (packed.LoadName is_used name span) e = cc
plain s (packed.StartLoop counts prints names size) e = cc
plain s other e = (refl, refl, refl, refl)

module _ (code : List Instruction) (i : ℕ) where
  abbrev reads : Option Instruction → Bool
  reads o = is_some (option_and_then loaded_name o) && uses_top_at code (i + 1)

  abbrev prints : Option Instruction → Option ℕ
  prints o = option_and_then (printing code i) (option_and_then started_loop o)

  pub notes_name : (name : Name) (span : Span) (n m : ℕ) → slice_get code i ≡ Some (instruction.LoadName name span) → Notes code i (packed.LoadName (uses_top_at code (i + 1)) n m)
  notes_name name span n m e = record { reads = sym (ap reads e); prints = sym (ap prints e) }

  pub notes_loop : (key : Option Name) (name : Name) (counts : Bool) (size names : ℕ) → slice_get code i ≡ Some (instruction.StartLoop key name counts size) → Notes code i (packed.StartLoop counts (is_some (printing_loop_at code i)) names size)
  notes_loop key name counts size names e =
      record {
        reads = sym (ap reads e);
        prints = subst (λ o. cond (is_some (prints o)) (Some size) None ≡ prints o) (sym e) (sized code i key name counts size);
      }

  pub notes_other : (s : TableContents) (p : Packed) → has_notes p ≡ false → slice_get code i ≡ Some (unpacked s p) → Notes code i p
  notes_other s p h e =
      let known = plain s p h in
      record {
        reads = known.2 ∙ sym (ap reads e ∙ ap (λ o. is_some o && uses_top_at code (i + 1)) known.0);
        prints = known.3 ∙ sym (ap prints e ∙ ap (option_and_then (printing code i)) known.1);
      }

-- one of another form
pub not_noted : (p : Packed) → ((x : Bool) (n m : ℕ) → p ≡ packed.LoadName x n m → ⊥) → ((x y : Bool) (n m : ℕ) → p ≡ packed.StartLoop x y n m → ⊥) → has_notes p ≡ false
not_noted (packed.LoadName x n m) a b = absurd (a x n m refl)
not_noted (packed.StartLoop x y n m) a b = absurd (b x y n m refl)
not_noted other a b = refl

-- packed instructions that mean what they did, and are noted up to a position
pub record Noted (s : TableContents) (from : List Packed) (i : ℕ) (ps : List Packed) : Type 0 where
  pub long : length ps ≡ length from
  pub within : All (Within s) ps
  pub same : map (unpacked s) ps ≡ map (unpacked s) from
  pub notes : (k : ℕ) → k < i → Notes (map (unpacked s) from) k (get_or ps k (packed.WriteText 0 0))

pub none_noted : (s : TableContents) (ps : List Packed) → All (Within s) ps → Noted s ps 0 ps
none_noted s ps w = record { long = refl; within = w; same = refl; notes = λ k l. absurd (omega (arith, l)) }

module _ (s : TableContents) (from : List Packed) (i : ℕ) (ps : List Packed) (n : Noted s from i ps) where
  -- one more is noted
  pub one_noted : (p : Packed) → i < length ps → Within s p → unpacked s p ≡ unpacked s (get_or ps i (packed.WriteText 0 0)) → Notes (map (unpacked s) ps) i p → Noted s from (i + 1) (set ps i p)
  one_noted p l w e h =
      record {
        long = length-set ps i p ∙ n.long;
        within = All-set (Within s) ps i p w n.within;
        same = map-set_same (unpacked s) ps i p (packed.WriteText 0 0) e ∙ n.same;
        notes =
            below_more (λ k. Notes (map (unpacked s) from) k (get_or (set ps i p) k (packed.WriteText 0 0))) i
            (λ k b. let other : k ≢ i = omega arith in subst (Notes (map (unpacked s) from) k) (sym (get_or-set_other ps i k p (packed.WriteText 0 0) other)) (n.notes k b))
            (subst (Notes (map (unpacked s) from) i) (sym (get_or-set_same ps i p (packed.WriteText 0 0) l)) (subst (λ code. Notes code i p) n.same h));
      }

  -- nothing is to be noted
  pub none_more : i < length ps → has_notes (get_or ps i (packed.WriteText 0 0)) ≡ false → Noted s from (i + 1) ps
  none_more l h =
      let here = notes_other (map (unpacked s) ps) i s (get_or ps i (packed.WriteText 0 0)) h (meant_there s ps i (packed.WriteText 0 0) l) in
      record {
        long = n.long;
        within = n.within;
        same = n.same;
        notes = below_more (λ k. Notes (map (unpacked s) from) k (get_or ps k (packed.WriteText 0 0))) i n.notes (subst (λ code. Notes code i (get_or ps i (packed.WriteText 0 0))) n.same here);
      }

  pub all_noted : i ≡ length from → Settled s ps
  all_noted e =
      record {
        within = n.within;
        notes = λ k l. let before : k < i = omega (arith, l, n.long, e) in subst (λ code. Notes code k (get_or ps k (packed.WriteText 0 0))) (sym n.same) (n.notes k before);
      }

-- what is noted at a position
pub noted_at : (s : TableContents) (ps : List Packed) → Settled s ps → (i : ℕ) (p : Packed) → slice_get ps i ≡ Some p → Notes (map (unpacked s) ps) i p
noted_at s ps h i p e =
    subst (Notes (map (unpacked s) ps) i) (get_or_from_slice_get ps i p (packed.WriteText 0 0) e) (h.notes i (slice_get_within ps i p e))

-- the size that is noted is told, and the turns of such a body end behind it
pub printing_told : (code : List Instruction) (i : ℕ) (p : Packed) (r : Option ℕ) → Notes code i p → r ≡ printing_size p → (r ≡ printing_loop_at code i) × IfSome r (λ size. slice_get code (i + 1 + size) ≡ Some instruction.NextTurn)
printing_told code i p None n e = (e ∙ n.prints, tt)
printing_told code i p (Some size) n e = let same = e ∙ n.prints in (same, turn_ends code i size (sym same))
