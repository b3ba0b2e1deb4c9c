-- Bodies that put out texts and items alone, part by part.
use Rattle.std.proofs.Common.{◌≡◌, ℕ, zero, suc, ◌+◌, ◌-◌, ◌<◌, Bool, true, false, List, Option, Some, None, cond, refl, ap, subst, ◌∙◌, arith}
use Rattle.std.specs.Prelude.{slice_get, option_map, option_and_then, unwrap_or, is_some, ◌&&◌}
use Rattle.tera_errors.specs.Site.{Name}
use Rattle.tera_values.specs.Naming.{counter_of}
use Rattle.tera_code.specs.declared.instruction.Instruction.{Instruction}
use Rattle.tera_code.specs.declared.instruction.Instruction.TheVariants as instruction
use Rattle.tera_code.specs.InstructionParts.{started_loop, ended_loop, is_next_turn}
use Rattle.tera_code.specs.Printing.{puts, puts_up_to, closes_at, printing, printing_loop_at}

pub puts_by : (b : Bool) (o : Option ℕ) (end : ℕ) → cond b o None ≡ Some end → (b ≡ true) × (o ≡ Some end)
puts_by true o end e = (refl, e)
puts_by false o end e = cc

module _ (name : Name) (code : List Instruction) where
  pub puts_first : (left at : ℕ) (i : Instruction) → 0 < left → slice_get code at ≡ Some i → puts name i ≡ true → puts_up_to name code left at ≡ puts_up_to name code (left - 1) (at + 1)
  puts_first zero at i some e p = absurd (omega (arith, some))
  puts_first (suc n) at i some e p =
      let same : n ≡ suc n - 1 = omega arith in
      ap (λ o. cond (unwrap_or (option_map (puts name) o) false) (puts_up_to name code n (at + 1)) None) e
      ∙ ap (λ b. cond b (puts_up_to name code n (at + 1)) None) p
      ∙ ap (λ k. puts_up_to name code k (at + 1)) same

  -- the position behind them
  pub parts_end : (left at end : ℕ) → puts_up_to name code left at ≡ Some end → end ≡ at + left
  parts_end zero at end p = let same : at ≡ end = cc in omega (arith, same)
  parts_end (suc n) at end p =
      let behind = parts_end n (at + 1) end (puts_by (unwrap_or (option_map (puts name) (slice_get code at)) false) (puts_up_to name code n (at + 1)) end p).1 in
      omega (arith, behind)

-- what is known of such a loop by what opens it
pub opens_by : (b : Bool) (o : Option ℕ) (closes : ℕ → Bool) (n size : ℕ) → cond b None (option_and_then (λ end. cond (closes end) (Some n) None) o) ≡ Some size → (b ≡ false) × (n ≡ size) × ((end : ℕ) × (o ≡ Some end) × (closes end ≡ true))
opens_by true o closes n size e = cc
opens_by false None closes n size e = cc
opens_by false (Some end) closes n size e = by (closes end) refl e
  where
    by : (b : Bool) → closes end ≡ b → cond b (Some n) None ≡ Some size → (false ≡ false) × (n ≡ size) × ((x : ℕ) × (Some end ≡ Some x) × (closes x ≡ true))
    by true q x = (refl, cc, (end, refl, q))
    by false q x = cc

pub both : (a b : Bool) → (a && b) ≡ true → (a ≡ true) × (b ≡ true)
both true b e = (refl, e)
both false b e = cc

is_turn : (o : Option Instruction) → unwrap_or (option_map is_next_turn o) false ≡ true → o ≡ Some instruction.NextTurn
is_turn None e = cc
is_turn (Some instruction.NextTurn) e = refl
is_turn (Some other) e = cc

module _ (code : List Instruction) (at : ℕ) where
  -- its turns end behind the body
  pub turn_ends : (size : ℕ) → printing_loop_at code at ≡ Some size → slice_get code (at + 1 + size) ≡ Some instruction.NextTurn
  turn_ends size e = by (option_and_then started_loop (slice_get code at)) e
    where
      by : (o : Option (Option Name × Name × Bool × ℕ)) → option_and_then (printing code at) o ≡ Some size → slice_get code (at + 1 + size) ≡ Some instruction.NextTurn
      by None p = cc
      by (Some (Some key, name, counts, n)) p = cc
      by (Some (None, name, counts, n)) p =
          let known = opens_by (is_some (counter_of name)) (puts_up_to name code n (at + 1)) (closes_at code) n size p in
          let end = known.2.0 in
          let behind : end ≡ at + 1 + size = parts_end name code n (at + 1) end known.2.1 ∙ ap (λ k. at + 1 + k) known.1 in
          let turn = is_turn (slice_get code end) (both (unwrap_or (option_map is_next_turn (slice_get code end)) false) (is_some (option_and_then ended_loop (slice_get code (end + 1)))) known.2.2).0 in
          subst (λ k. slice_get code k ≡ Some instruction.NextTurn) behind turn

  -- the size of such a body is that of the loop
  pub sized : (key : Option Name) (name : Name) (counts : Bool) (n : ℕ) → cond (is_some (printing code at (key, name, counts, n))) (Some n) None ≡ printing code at (key, name, counts, n)
  sized (Some key) name counts n = refl
  sized None name counts n = by (is_some (counter_of name)) (puts_up_to name code n (at + 1))
    where
      closed : (b : Bool) → cond (is_some (cond b (Some n) None)) (Some n) None ≡ cond b (Some n) None
      closed true = refl
      closed false = refl

      by : (b : Bool) (o : Option ℕ) → cond (is_some (cond b None (option_and_then (λ end. cond (closes_at code end) (Some n) None) o))) (Some n) None ≡ cond b None (option_and_then (λ end. cond (closes_at code end) (Some n) None) o)
      by true o = refl
      by false None = refl
      by false (Some end) = closed (closes_at code end)
