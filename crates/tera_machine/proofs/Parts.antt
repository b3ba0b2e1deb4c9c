-- Loops that put out texts and items alone, instruction by instruction.
use Rattle.std.proofs.Common.{◌≡◌, ◌≢◌, ℕ, zero, suc, ◌+◌, ◌-◌, ◌<◌, ◌≤◌, Bool, true, false, cond, List, [], ◌∷◌, Option, Some, None, Result, Ok, Err, OnOk, drop, length, refl, sym, ap, ap₂, ◌∙◌, subst, true≢false, arith}
use Rattle.std.specs.Prelude.{slice_get, option_map, option_and_then, unwrap_or, codes, bytes_eq, is_some}
use Rattle.std.specs.Option.{option_or}
use Rattle.std.proofs.lemmas.Option.{slice_get_within}
use Rattle.std.proofs.lemmas.List.{drop_all}
use Rattle.std.proofs.lemmas.Slice.Eq.{bytes_eq-Decides}
use Rattle.tera_errors.specs.Site.{Name}
use Rattle.tera_errors.specs.Answer.{SeenError, Lacks}
use Rattle.tera_values.specs.Named.{at_name}
use Rattle.tera_values.specs.Naming.{counter_of}
use Rattle.tera_values.specs.Val.{Val, array, vals}
use Rattle.tera_state.specs.Items.{unkeyed}
use Rattle.tera_state.specs.Scope.{Around, Heading, Variables, look, in_turn, counters, open_turn, turn, loop_turns, turns_over}
use Rattle.tera_state.proofs.Beyond.{innermost_lent}
use Rattle.tera_state.proofs.Walked.{list_of_vals}
use Rattle.tera_operators.specs.Operand.{Evaluated, placed}
use Rattle.tera_code.specs.declared.instruction.Instruction.{Instruction}
use Rattle.tera_code.specs.declared.instruction.Instruction.TheVariants as instruction
use Rattle.tera_code.specs.InstructionParts.{started_loop, ended_loop, is_next_turn}
use Rattle.tera_code.specs.Code.{Code}
use Rattle.tera_code.specs.Printing.{puts, puts_up_to, closes_at, printing, printing_loop_at}
use Rattle.tera_code.proofs.Parts.{both, opens_by, parts_end, puts_by}
use Rattle.tera_meaning.specs.Here.{Here}
use Rattle.tera_machine.specs.declared.cursor.Cursor.{Cursor}
use Rattle.tera_machine.specs.declared.machine.Flow as declared
use Rattle.tera_machine.specs.Config.{Config}
use Rattle.tera_machine.specs.Flow.{On, Skip, To, flow_of}
use Rattle.tera_machine.specs.Did.{Did, Goes, holding}
use Rattle.tera_machine.specs.Loops.{begun_with, loop_started}
use Rattle.tera_machine.specs.Effect.{effect, Effected}
use Rattle.tera_machine.specs.Together.{done_at, after_steps, onward}
use Rattle.tera_machine.specs.Paths.{Start, Stands, Breaks, done_since, start_at, topped}
use Rattle.tera_machine.specs.Printing.{Before, Behind, PrintsItems, Turning, at_items, items_called, saying}
use Rattle.tera_machine.proofs.Together.{done_behind, led_behind}
use Rattle.tera_machine.proofs.Reaching.{Counts, continues_on}

-- a name under which nothing is counted is none of a turn's counters
uncounted_by : {A B : Type 0} (a0 a1 a2 a3 a4 : A) (v0 v1 v2 v3 v4 : B) (b0 b1 b2 b3 b4 : Bool) → cond b0 (Some a0) (cond b1 (Some a1) (cond b2 (Some a2) (cond b3 (Some a3) (cond b4 (Some a4) None)))) ≡ None → cond b0 (Some v0) (cond b1 (Some v1) (cond b2 (Some v2) (cond b3 (Some v3) (cond b4 (Some v4) None)))) ≡ None
uncounted_by a0 a1 a2 a3 a4 v0 v1 v2 v3 v4 true b1 b2 b3 b4 e = cc
uncounted_by a0 a1 a2 a3 a4 v0 v1 v2 v3 v4 false true b2 b3 b4 e = cc
uncounted_by a0 a1 a2 a3 a4 v0 v1 v2 v3 v4 false false true b3 b4 e = cc
uncounted_by a0 a1 a2 a3 a4 v0 v1 v2 v3 v4 false false false true b4 e = cc
uncounted_by a0 a1 a2 a3 a4 v0 v1 v2 v3 v4 false false false false true e = cc
uncounted_by a0 a1 a2 a3 a4 v0 v1 v2 v3 v4 false false false false false e = refl

uncounted : (n : Name) (turns index : ℕ) → counter_of n ≡ None → at_name n (counters {C = ℕ} turns index) ≡ None
uncounted n turns index e =
    uncounted_by _ _ _ _ _ _ _ _ _ _ (bytes_eq n (codes "__tera_loop_index")) (bytes_eq n (codes "__tera_loop_index0")) (bytes_eq n (codes "__tera_loop_first")) (bytes_eq n (codes "__tera_loop_last")) (bytes_eq n (codes "__tera_loop_length")) e

uncounted_if : (counts : Bool) (n : Name) (turns index : ℕ) → counter_of n ≡ None → at_name n (cond counts (counters {C = ℕ} turns index) []) ≡ None
uncounted_if true n turns index e = uncounted n turns index e
uncounted_if false n turns index e = refl

-- in a turn the name stands for the item
named_item_found : (n : Name) (counts : Bool) (turns index : ℕ) (v : Val) → counter_of n ≡ None → in_turn n (turn (items_called n counts) turns index (None, v)) ≡ Some v
named_item_found n counts turns index v e =
    ap₂ (λ c b. option_or c (option_or None (cond b (Some v) None))) (uncounted_if counts n turns index e) ((bytes_eq-Decides n n).1 refl)

pub item_found : (n : Name) (counts : Bool) (turns index : ℕ) (v : Val) (around : Around) (vars : Variables) → counter_of n ≡ None → look n around (open_turn (turn (items_called n counts) turns index (None, v)) vars) ≡ v
item_found n counts turns index v around vars e =
    innermost_lent (Some v) (λ x. x) n around.frame around.above (open_turn (turn (items_called n counts) turns index (None, v)) vars) (named_item_found n counts turns index v e)

-- what the parts are of which one is put out
module _ (name : Name) (code : Code) where
  pub part_puts : (left at end : ℕ) (i : Instruction) → 0 < left → slice_get code at ≡ Some i → puts_up_to name code left at ≡ Some end → (puts name i ≡ true) × (puts_up_to name code (left - 1) (at + 1) ≡ Some end)
  part_puts zero at end i some e p = absurd (omega (arith, some))
  part_puts (suc n) at end i some e p =
      let same : n ≡ suc n - 1 = omega arith in
      let by = puts_by (puts name i) (puts_up_to name code n (at + 1)) end (sym (ap (λ o. cond (unwrap_or (option_map (puts name) o) false) (puts_up_to name code n (at + 1)) None) e) ∙ p) in
      (by.0, ap (λ k. puts_up_to name code k (at + 1)) (sym same) ∙ by.1)

  pub part_missing : (left at end : ℕ) → 0 < left → slice_get code at ≡ None → puts_up_to name code left at ≡ Some end → ⊥
  part_missing zero at end some e p = absurd (omega (arith, some))
  part_missing (suc n) at end some e p =
      true≢false (sym (puts_by false (puts_up_to name code n (at + 1)) end (sym (ap (λ o. cond (unwrap_or (option_map (puts name) o) false) (puts_up_to name code n (at + 1)) None) e) ∙ p)).0)

  -- the parts of the whole body
  pub parts_between : (start size : ℕ) → puts_up_to name code size start ≡ Some (start + size) → puts_up_to name code (start + size - start) start ≡ Some (start + size)
  parts_between start size p =
      let same : start + size - start ≡ size = omega arith in
      ap (λ k. puts_up_to name code k start) same ∙ p

module _ {T : Type 0} {s : Start T} {from : Cursor T} {at : ℕ} {c : Config} (b : Before s from at c) {i : Instruction} (e : slice_get s.cursor.chunk.now.code at ≡ Some i) {to : Cursor T} (m : Counts from to 1) where
  -- the instruction that is handed out next
  led_before : after_steps s.here s.cursor.chunk.now.code (to.steps.now - s.cursor.steps.now) s.cursor.at s.config ≡ Some (at, c)
  led_before =
      let k : suc (from.steps.now - s.cursor.steps.now) ≡ to.steps.now - s.cursor.steps.now = omega (arith, b.counted, m.count) in
      subst (λ j. after_steps s.here s.cursor.chunk.now.code j s.cursor.at s.config ≡ Some (at, c)) k b.led

  pub stands_before : to.at ≡ at → Stands s to
  stands_before p = record {
    continues = continues_on b.continues m;
    counted = omega (arith, b.counted, m.count);
    there = omega (arith, slice_get_within s.cursor.chunk.now.code at i e, p);
    config = c;
    led = led_before ∙ ap (λ q. Some (q, c)) (sym p);
  }

  -- what it does
  pub does_before : done_since s to ≡ effect s.here (at + 1) i c
  does_before = done_behind s.here s.cursor.chunk.now.code (to.steps.now - s.cursor.steps.now) s.cursor.at s.config led_before i e

  pub breaks_before : (x : SeenError) → ((c2 : Config) → Effected (effect s.here (at + 1) i c) (Err x) c2) → Breaks s to x
  breaks_before x h = λ c2. subst (λ d. Effected d (Err x) c2) (sym does_before) (h c2)

  -- where it leads
  pub leads_before : {c2 : Config} (d : Did) (next : ℕ) → effect s.here (at + 1) i c ≡ d → onward at d ≡ Some (next, c2) → Before s to next c2
  leads_before d next f o = record {
    continues = continues_on b.continues m;
    counted = omega (arith, b.counted, m.count);
    led = led_behind s.here s.cursor.chunk.now.code (to.steps.now - s.cursor.steps.now) s.cursor.at s.config led_before d (does_before ∙ f) ∙ o;
  }

-- and where memory is refused nothing is said of it
pub lacking_breaks : {T : Type 0} (s : Start T) (cursor : Cursor T) (e : SeenError) → Lacks e → Breaks s cursor e
lacking_breaks s cursor None h = λ c. tt
lacking_breaks s cursor (Some fault) h = (let q : Some fault ≡ None = h in cc)

-- behind the first instruction
pub first_leads : {T : Type 0} {here : Here} {cursor : Cursor T} {c c2 : Config} (i : Instruction) → here.file ≡ cursor.chunk.now.file → slice_get cursor.chunk.now.code cursor.at ≡ Some i → effect here (cursor.at + 1) i c ≡ Goes c2 On → Before (start_at here cursor c) cursor (cursor.at + 1) c2
first_leads {here = here} {cursor} {c} {c2} i file e f =
    let none : 0 ≡ cursor.steps.now - cursor.steps.now = omega arith in
    record {
      continues = record { chunk = refl; steps = refl; file = file };
      counted = omega arith;
      led = subst (λ k. after_steps here cursor.chunk.now.code (suc k) cursor.at c ≡ Some (cursor.at + 1, c2)) none (ap (onward cursor.at) (ap (λ o. done_at here cursor.at o c) e ∙ f));
    }

-- the loop is opened over items of which there are some
pub opened_over : (here : Here) (start size : ℕ) (name : Name) (counts : Bool) (vs : List Val) (a : Evaluated) (c : Config) → vs ≢ [] → a.value ≡ array (vals vs) → loop_started here start None name counts size (topped a c) ≡ Goes (at_items (items_called name counts) (length (unkeyed vs)) 0 start size vs c) On
opened_over here start size name counts [] a c some e = absurd (some refl)
opened_over here start size name counts (v ∷ vs) a c some e =
    ap (λ x. begun_with start size (placed here.file (loop_turns (items_called name counts) x) a.span) c) e
    ∙ ap (λ is. begun_with start size (placed here.file (turns_over (items_called name counts) (Some (unkeyed is))) a.span) c) (list_of_vals (v ∷ vs))

-- a turn ends, and the next one begins, or the loop is over
pub turning_on : {T : Type 0} {s : Start T} {from to : Cursor T} {start size : ℕ} (h : Heading) (turns index : ℕ) (v : Val) (vs : List Val) (c : Config) → slice_get s.cursor.chunk.now.code (start + size) ≡ Some instruction.NextTurn → Counts from to 1 → Before s from (start + size) (at_items h turns index start size (v ∷ vs) c) → Turning s to start size h turns (suc index) vs c
turning_on {start = start} {size} h turns index v [] c e m b = record {
  last = turn h turns index (None, v);
  before = leads_before b e m (Goes (at_items h turns index start size (v ∷ []) c) On) (start + size + 1) refl refl;
}
turning_on {start = start} {size} h turns index v (w ∷ vs) c e m b =
    let same : start + 0 ≡ start = omega arith in
    leads_before b e m (Goes (at_items h turns (suc index) start size (w ∷ vs) c) (To start 0)) start refl (ap (λ q. Some (q, at_items h turns (suc index) start size (w ∷ vs) c)) same)

-- where no item is left the loop is over
pub turning_over : {T : Type 0} {s : Start T} {cursor : Cursor T} {start size : ℕ} (h : Heading) (turns index : ℕ) (vs : List Val) (c : Config) → length vs ≤ index → Turning s cursor start size h turns index (drop index vs) c → Behind s cursor start size c
turning_over {s = s} {cursor} {start} {size} h turns index vs c all t =
    subst (λ left. Turning s cursor start size h turns index left c) (drop_all index vs all) t

-- the loop ends
pub loop_closes : {T : Type 0} {s : Start T} {from to : Cursor T} {start size : ℕ} {c : Config} (b : Behind s from start size c) (skip : ℕ) (e : slice_get s.cursor.chunk.now.code (start + size + 1) ≡ Some (instruction.EndLoop skip)) (m : Counts from to 1) → done_since s to ≡ Goes c (Skip skip)
loop_closes b skip e m = does_before b.before e m

not_some : {A : Type 0} (o : Option A) → is_some o ≡ false → o ≡ None
not_some None e = refl
not_some (Some a) e = cc

-- what is known of such a loop by what opens it
pub prints_items : (code : Code) (at size : ℕ) (i : Instruction) (key : Option Name) (name : Name) (counts : Bool) (n : ℕ) → slice_get code at ≡ Some i → i ≡ instruction.StartLoop key name counts n → printing_loop_at code at ≡ Some size → slice_get code (at + 1 + size) ≡ Some instruction.NextTurn → (key ≡ None) × (n ≡ size) × PrintsItems code (at + 1) size name
prints_items code at size i (Some k) name counts n e f p t = absurd (keyed (sym (ap (λ o. option_and_then (printing code at) (option_and_then started_loop o)) (e ∙ ap Some f)) ∙ p))
  where
    keyed : {m : ℕ} → None ≡ Some m → ⊥
    keyed x = cc
prints_items code at size i None name counts n e f p t =
    let known = opens_by (is_some (counter_of name)) (puts_up_to name code n (at + 1)) (closes_at code) n size (sym (ap (λ o. option_and_then (printing code at) (option_and_then started_loop o)) (e ∙ ap Some f)) ∙ p) in
    let parts : puts_up_to name code size (at + 1) ≡ Some known.2.0 = subst (λ k. puts_up_to name code k (at + 1) ≡ Some known.2.0) known.1 known.2.1 in
    let behind = parts_end name code size (at + 1) known.2.0 parts in (
      refl,
      known.1,
      record {
        uncounted = not_some (counter_of name) known.0;
        parts = parts ∙ ap Some behind;
        ends = t;
        closes = subst (λ end. is_some (option_and_then ended_loop (slice_get code (end + 1))) ≡ true) behind (both (unwrap_or (option_map is_next_turn (slice_get code known.2.0)) false) (is_some (option_and_then ended_loop (slice_get code (known.2.0 + 1)))) known.2.2).1;
      },
    )

-- the end of the loop is there
pub closed_there : (code : Code) (at : ℕ) → is_some (option_and_then ended_loop (slice_get code at)) ≡ true → slice_get code at ≡ None → ⊥
closed_there code at e n = true≢false (sym e ∙ ap (λ o. is_some (option_and_then ended_loop o)) n)

pub closed_by : (code : Code) (at : ℕ) (i : Instruction) → is_some (option_and_then ended_loop (slice_get code at)) ≡ true → slice_get code at ≡ Some i → ended_loop i ≡ None → ⊥
closed_by code at i e s n =
    true≢false (sym e ∙ ap (λ o. is_some (option_and_then ended_loop o)) s ∙ ap (λ (o : Option ℕ). is_some o) n)

-- the loop is begun
pub loop_begins : {T : Type 0} (here : Here) (cursor : Cursor T) (size : ℕ) (i : Instruction) (key : Option Name) (name : Name) (counts : Bool) (m : ℕ) (vs : List Val) (a : Evaluated) (c : Config) → here.file ≡ cursor.chunk.now.file → slice_get cursor.chunk.now.code cursor.at ≡ Some i → i ≡ instruction.StartLoop key name counts m → key ≡ None → m ≡ size → vs ≢ [] → a.value ≡ array (vals vs) → Before (start_at here cursor (topped a c)) cursor (cursor.at + 1) (at_items (items_called name counts) (length (unkeyed vs)) 0 (cursor.at + 1) size vs c)
loop_begins here cursor size i key name counts m vs a c file e f k z some v =
    first_leads i file e (ap (λ j. effect here (cursor.at + 1) j (topped a c)) f
    ∙ ap₂ (λ x y. effect here (cursor.at + 1) (instruction.StartLoop x name counts y) (topped a c)) k z
    ∙ opened_over here (cursor.at + 1) size name counts vs a c some v)

-- what lies on top of the operands of a configuration
pub as_topped : (c : Config) (a : Evaluated) (rest : List Evaluated) → c.operands ≡ a ∷ rest → topped a (saying c.run.text (holding rest c)) ≡ c
as_topped c a rest e = ap (λ operands. holding operands c) (sym e)

pub effected_same : (d : Did) (r : Result declared.Flow SeenError) (c c2 : Config) → Effected d r c → OnOk r (c ≡ c2) → Effected d r c2
effected_same d (Ok f) c c2 e same = e ∙ ap (λ x. Goes x (flow_of f)) same
effected_same d (Err None) c c2 e same = tt
effected_same d (Err (Some fault)) c c2 e same = e

-- the topmost operand is the one that is taken
pub topmost_is : (operands : List Evaluated) (top a : Evaluated) (rest : List Evaluated) → slice_get operands 0 ≡ Some top → operands ≡ a ∷ rest → a ≡ top
topmost_is operands top a rest e f =
    let same_top : Some a ≡ Some top = sym (ap (λ x. slice_get x 0) f) ∙ e in
    let same : a ≡ top = cc in
    same

pub on_ok_by : {A E P Q : Type 0} (r : Result A E) → (P → Q) → OnOk r P → OnOk r Q
on_ok_by (Ok a) f p = f p
on_ok_by (Err e) f p = tt

pub on_ok : {A E P : Type 0} (r : Result A E) → P → OnOk r P
on_ok (Ok a) p = p
on_ok (Err e) p = tt
