-- Text that a body puts out goes through filters, or to a component.
use Rattle.std.proofs.Common.{◌≡◌, ℕ, suc, ◌+◌, List, [], ◌∷◌, ◌++◌, length, Some, true, refl, subst, arith, length-append}
use Rattle.std.specs.Prelude.{slice_get}
use Rattle.tera_errors.specs.Site as site
use Rattle.tera_errors.specs.declared.span.Span.{Span}
use Rattle.tera_syntax_tree.specs.Tree.{Entries, Filters, NoFilters, MoreFilters, first_span}
use Rattle.tera_values.specs.Alphabet.{plain}
use Rattle.tera_values.specs.Val.{text}
use Rattle.tera_state.specs.Scope.{Variables}
use Rattle.tera_operators.specs.Operand.{Evaluated, Outcome}
use Rattle.tera_operators.specs.Calls.{filter_applied_by}
use Rattle.tera_meaning.specs.Here.{Here, filtered_at}
use Rattle.tera_meaning.specs.Whole.{World, Place, here_at, whole}
use Rattle.tera_meaning.specs.Run.{Run, Signal, On, Broke, Continued, Oracle, Meaning, ◌▹◌, visit, captured, go_on}
use Rattle.tera_meaning.specs.Meaning.{put_out, written, component_meaning_in, entries_meaning, filters_meaning}
use Rattle.tera_code.specs.declared.instruction.Instruction.{Instruction}
use Rattle.tera_code.specs.declared.instruction.Instruction.TheVariants as instruction
use Rattle.tera_code.specs.Code.{Code, entries_code, keys_in, arguments_code, argument_names, filters_code, section_code, captured_code, handed_code}
use Rattle.tera_machine.proofs.Literals.{push_all, firsts, seconds}
use Rattle.tera_machine.proofs.Places.{StandsAt, stands_front, stands_back}
use Rattle.tera_machine.proofs.Counted.{Runs, Below, done, spend, first, onward_runs, onward_lent, onward_where, put_back_runs}
use Rattle.tera_machine.proofs.Arrivals.{Base, over, captured_over, spot, writing, Top, Arrive, top_at, arrive_at}
use Rattle.tera_machine.proofs.Expressions.{outcome_runs, holds_entries, holds_arguments, calls_on, component_runs, entries_runs, arguments_runs}

module _ (w : World) (place : Place) (code : Code) (below : Below w place) where
  abbrev here : Here
  here = here_at w place

  abbrev call : Oracle
  call = whole w place

  -- each filter is a visit
  filters_runs : (fs : Filters) (a : Evaluated) (ip : ℕ) (base : Base) (r : Run) → StandsAt code ip (filters_code fs) → Runs w place code (Top ip base a r) 0 0 (Top (ip + length (filters_code fs)) base) (filters_meaning here call fs a r)
  filters_runs NoFilters a ip base r has =
      let len : ip ≡ ip + 0 = omega arith in top_at w place code _ len (done w place code (omega arith))
  filters_runs (MoreFilters name arguments span rest) a ip base r has =
      let names = argument_names arguments in
      let i = instruction.ApplyFilter name names span in
      let ca = arguments_code arguments in
      let cr = filters_code rest in
      let p = ip + length ca in
      let len : p + 1 + length cr ≡ ip + length (ca ++ (i ∷ cr)) = omega (arith, length-append ca (i ∷ cr)) in
      let h = stands_back code ip ca (i ∷ cr) has in
      let f : Variables → Evaluated → List (site.Name × Evaluated) → Outcome = λ v b given. filter_applied_by here.file (filtered_at plain here v name) b given span in
      top_at w place code _ len (onward_runs w place code {t = 0} (omega arith) (spend w place code (onward_where w place code (λ all. firsts all ≡ names) (omega arith) (holds_arguments w place code below arguments r) (arguments_runs w place code below arguments ip (over a base) r (stands_front code ip ca _ has)) (λ all r1 e. outcome_runs w place code below p (push_all (seconds all) (a ∷ base.operands)) base r1 7 (f r1.vars a all) i (omega arith) h.0 (calls_on w place code below (f r1.vars) names all a base r1 e)))) (λ b r2. filters_runs rest b (p + 1) base r2 h.1))

  -- what is made of the text, by one instruction
  abbrev Used : ℕ → Base → ℕ → (Evaluated → Meaning Signal) → Type 0
  Used q base drops use' =
      (a : Evaluated) (r : Run) → Runs w place code (Top q base a r) 6 0 (Arrive code (q + 1) base drops) (use' a r)

  -- a capture ends
  section_ends : (fs : Filters) (use' : Evaluated → Meaning Signal) (ip : ℕ) (base : Base) (drops : ℕ) (before : site.Text) (signal : Signal) (r : Run) → StandsAt code ip (instruction.EndCapture (first_span fs) ∷ filters_code fs) → Used (ip + 1 + length (filters_code fs)) base drops use' → Runs w place code (Arrive code ip (captured_over before base) (suc drops) signal r) 7 0 (Arrive code (ip + 1 + length (filters_code fs) + 1) base drops) (go_on signal (filters_meaning here call fs (put_out here fs r.text) ▹ use') (writing before r))
  section_ends fs use' ip base drops before On r has uses =
      first w place code _ 6 (instruction.EndCapture (first_span fs)) has.0 refl (onward_runs w place code (omega arith) (filters_runs fs (put_out here fs r.text) (ip + 1) base (writing before r) has.1) uses)
  section_ends fs use' ip base drops before Broke r has uses = done w place code (omega arith)
  section_ends fs use' ip base drops before Continued r has uses = done w place code (omega arith)

  -- a body whose text goes through filters, and what is made of that
  pub section_runs : (fs : Filters) (cb : Code) (body : Meaning Signal) (i : Instruction) (use' : Evaluated → Meaning Signal) (drops ip : ℕ) (base : Base) (r : Run) → StandsAt code ip (section_code fs cb ++ i ∷ []) → (StandsAt code (ip + 1) cb → Runs w place code (spot (ip + 1) (captured_over r.text base) (writing [] r)) 0 0 (Arrive code (ip + 1 + length cb) (captured_over r.text base) (suc drops)) (body (writing [] r))) → ((q : ℕ) → slice_get code q ≡ Some i → Used q base drops use') → Runs w place code (spot ip base r) 0 0 (Arrive code (ip + length (section_code fs cb ++ i ∷ [])) base drops) (visit (captured body ▹ λ c. go_on c.0 (filters_meaning here call fs (put_out here fs c.1) ▹ use')) r)
  section_runs fs cb body i use' drops ip base r has runs uses =
      let cf = filters_code fs in
      let inner = cb ++ (instruction.EndCapture (first_span fs) ∷ cf) in
      let pe = ip + 1 + length cb in
      let q = pe + 1 + length cf in
      let size = length-append cb (instruction.EndCapture (first_span fs) ∷ cf) in
      let same : ip + 1 + length inner ≡ q = omega (arith, size) in
      let len : q + 1 ≡ ip + length (section_code fs cb ++ i ∷ []) = omega (arith, size, length-append inner (i ∷ [])) in
      let front = stands_front code (ip + 1) inner (i ∷ []) has.1 in
      let last = subst (λ n. slice_get code n ≡ Some i) same (stands_back code (ip + 1) inner (i ∷ []) has.1).0 in
      let ends : Signal × site.Text → Meaning Signal = λ c. go_on c.0 (filters_meaning here call fs (put_out here fs c.1) ▹ use') in
      arrive_at w place code drops _ len (spend w place code (first w place code _ 7 instruction.StartCapture has.0 refl (put_back_runs w place code 7 r.text (Arrive code pe (captured_over r.text base) (suc drops)) ends (runs (stands_front code (ip + 1) cb _ front)) (λ signal r1. section_ends fs use' pe base drops r.text signal r1 (stands_back code (ip + 1) cb _ front) (uses q last)))))

  module _ (name : site.Name) (attributes : Entries) (span : Span) where
    -- what a component makes of its attributes and of the text of its body, put out
    abbrev handed_meaning : site.Text → Meaning Signal
    handed_meaning t =
        entries_meaning here call attributes ▹ λ all. component_meaning_in plain here call name all (Some (text t place.autoescape)) span ▹ written here

    -- what a component made is put out, by one instruction
    abbrev Printed : ℕ → Base → ℕ → Type 0
    Printed q base drops =
        (a : Evaluated) (r : Run) → Runs w place code (Top q base a r) 5 0 (Arrive code (q + 1) base drops) (written here a r)

    -- the capture of the body ends
    handed_ends : (ip : ℕ) (base : Base) (drops : ℕ) (before : site.Text) (signal : Signal) (r : Run) → slice_get code ip ≡ Some (instruction.EndCapture span) → StandsAt code (ip + 1) (handed_code name attributes span) → Printed (ip + 1 + length (entries_code attributes) + 1) base drops → Runs w place code (Arrive code ip (captured_over before base) (suc drops) signal r) 7 0 (Arrive code (ip + 1 + length (entries_code attributes) + 1 + 1) base drops) (go_on signal (handed_meaning r.text) (writing before r))
    handed_ends ip base drops before On r end has prints =
        let keys = keys_in attributes in
        let ce = entries_code attributes in
        let i = instruction.TakeComponent name keys true span in
        let body : Evaluated = record { value = text r.text place.autoescape; span = span } in
        let p = ip + 1 + length ce in
        let h = stands_back code (ip + 1) ce (i ∷ instruction.WriteTop ∷ []) has in
        first w place code _ 6 (instruction.EndCapture span) end refl (onward_where w place code (λ all. firsts all ≡ keys) (omega arith) (holds_entries w place code below attributes (writing before r)) (entries_runs w place code below attributes (ip + 1) (over body base) (writing before r) (stands_front code (ip + 1) ce _ has)) (λ all r1 e. onward_lent w place code 1 5 {t = 0} (omega arith) (component_runs w place code below p name keys true all (over body base) base (Some body.value) r1 span 0 (omega arith) h.0 e refl refl) prints))
    handed_ends ip base drops before Broke r end has prints = done w place code (omega arith)
    handed_ends ip base drops before Continued r end has prints = done w place code (omega arith)

    -- a body whose text goes to a component, and what that makes of it
    pub handed_runs : (cb : Code) (body : Meaning Signal) (drops ip : ℕ) (base : Base) (r : Run) → StandsAt code ip (captured_code cb span ++ handed_code name attributes span) → (StandsAt code (ip + 1) cb → Runs w place code (spot (ip + 1) (captured_over r.text base) (writing [] r)) 0 0 (Arrive code (ip + 1 + length cb) (captured_over r.text base) (suc drops)) (body (writing [] r))) → ((q : ℕ) → slice_get code q ≡ Some instruction.WriteTop → Printed q base drops) → Runs w place code (spot ip base r) 0 0 (Arrive code (ip + length (captured_code cb span ++ handed_code name attributes span)) base drops) (visit (captured body ▹ λ c. go_on c.0 (handed_meaning c.1)) r)
    handed_runs cb body drops ip base r has runs prints =
        let ce = entries_code attributes in
        let two = instruction.TakeComponent name (keys_in attributes) true span ∷ instruction.WriteTop ∷ [] in
        let inner = cb ++ instruction.EndCapture span ∷ [] in
        let pe = ip + 1 + length cb in
        let q = pe + 1 + length ce + 1 in
        let size = length-append cb (instruction.EndCapture span ∷ []) in
        let same : ip + 1 + length inner ≡ pe + 1 = omega (arith, size) in
        let len : q + 1 ≡ ip + length (captured_code cb span ++ handed_code name attributes span) = omega (arith, size, length-append inner (ce ++ two), length-append ce two) in
        let front = stands_front code (ip + 1) inner (ce ++ two) has.1 in
        let tail = subst (λ n. StandsAt code n (ce ++ two)) same (stands_back code (ip + 1) inner (ce ++ two) has.1) in
        let last = (stands_back code (pe + 1) ce two tail).1.0 in
        let ends : Signal × site.Text → Meaning Signal = λ c. go_on c.0 (handed_meaning c.1) in
        arrive_at w place code drops _ len (spend w place code (first w place code _ 7 instruction.StartCapture has.0 refl (put_back_runs w place code 7 r.text (Arrive code pe (captured_over r.text base) (suc drops)) ends (runs (stands_front code (ip + 1) cb _ front)) (λ signal r1. handed_ends pe base drops r.text signal r1 (stands_back code (ip + 1) cb _ front).0 tail (prints q last)))))
