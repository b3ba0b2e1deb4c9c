-- The code of an expression gives what the expression means.
use Rattle.std.proofs.Common.{◌≡◌, ℕ, suc, ◌+◌, ◌≤◌, Bool, true, false, cond, List, [], ◌∷◌, ◌++◌, length, Option, Some, None, Result, Ok, Err, refl, sym, ap, ◌∙◌, subst, arith, length-append, append-nil}
use Rattle.std.specs.Prelude.{slice_get}
use Rattle.std.specs.List.{zip}
use Rattle.tera_errors.specs.declared.span.Span.{Span}
use Rattle.tera_errors.specs.Site as site
use Rattle.tera_errors.specs.Fault.{Fault}
use Rattle.tera_syntax_tree.specs.Tree.{Key, Expr, Nothing, Boolean, Integer, Text, Name, Attribute, Index, Slice, Not, Negate, Binary, And, Or, Ternary, Array, Map, Comprehension, Super, Filter, Test, Call, Component, Optional, Absent, Present, Items, NoItems, MoreItems, Entries, NoEntries, MoreEntries, Arguments, NoArguments, MoreArguments}
use Rattle.tera_values.specs.Alphabet.{plain}
use Rattle.tera_values.specs.Val as val
use Rattle.tera_values.specs.Access.{truthy}
use Rattle.tera_state.specs.Scope.{Turn, Variables, Heading, look, dump}
use Rattle.tera_operators.specs.Operand.{Evaluated, Outcome}
use Rattle.tera_operators.specs.Accesses.{attribute_of, item_of, slice_of}
use Rattle.tera_operators.specs.Operators.{not_of, negative_of, binary_of}
use Rattle.tera_operators.specs.Literals.{array_of, map_entries, map_of}
use Rattle.tera_components.specs.Definition.{named_arguments}
use Rattle.tera_operators.specs.Calls.{filter_applied_by, test_applied_by, function_called_by}
use Rattle.tera_meaning.specs.Here.{Here, filtered_at, tested_at, called_at}
use Rattle.tera_meaning.specs.Whole.{World, Place, here_at, whole}
use Rattle.tera_meaning.specs.Run.{Run, Answer, Gave, Above, AComponent, Request, Oracle, Meaning, ◌▹◌, visit, more, reads, answered, answered_at, asks, onward, gives, value_at}
use Rattle.tera_meaning.specs.Meaning.{turns_of, if_kept, comprehension, component_meaning_in, expr_meaning, condition_meaning, bound_meaning, items_meaning, entries_meaning, arguments_meaning}
use Rattle.tera_code.specs.declared.instruction.Instruction.{Instruction}
use Rattle.tera_code.specs.declared.instruction.Instruction.TheVariants as instruction
use Rattle.tera_code.specs.Code.{Code, expr_code, turn_code, keep_code, keep_tail, bound_code, items_code, entries_code, choice_tail, comprehension_tail, is_context, spreads_of, keys_in, arguments_code, arguments_length, argument_names}
use Rattle.tera_machine.specs.Config.{Config}
use Rattle.tera_machine.specs.Flow.{Use, Pushed, Ask}
use Rattle.tera_machine.specs.Did.{Goes, outcome}
use Rattle.tera_machine.specs.Loops.{begun_with}
use Rattle.tera_machine.specs.Effect.{effect, topmost, made_of, called_on, branched, above_in, handed, component_asked, component_given}
use Rattle.tera_machine.proofs.Literals.{push_all, firsts, seconds, zip-firsts, length-seconds, topmost-push_all}
use Rattle.tera_machine.proofs.Places.{StandsAt, stands_front, stands_back, stands_within, parts, round}
use Rattle.tera_machine.proofs.Counted.{Spot, Runs, Below, Holds, holds_onward, holds_any, done, spend, none, first, jump, fail, adjust, onward_runs, onward_lent, onward_where, onward-onward, answered_runs, mapped_runs, choice_runs, choice_not_runs, jump_after, asked_runs}
use Rattle.tera_machine.proofs.Arrivals.{Base, over, in_loop, all_over, config_at, spot, Top, Tops, top_at, tops_at, top_passes}
use Rattle.tera_machine.proofs.Gathered.{one_turn, gather_runs}

module _ (w : World) (place : Place) (code : Code) (below : Below w place) where
  abbrev here : Here
  here = here_at w place

  abbrev call : Oracle
  call = whole w place

  -- one instruction, whose outcome comes on top of what is left
  pub outcome_runs : (ip : ℕ) (stack : List Evaluated) (rest : Base) (r : Run) (s : ℕ) {t : ℕ} (o : Outcome) (i : Instruction) → t ≤ s → slice_get code ip ≡ Some i → effect here (ip + 1) i (config_at (record rest { operands = stack }) r) ≡ outcome o rest.operands (config_at (record rest { operands = stack }) r) → Runs w place code (spot ip (record rest { operands = stack }) r) (s + 1) t (Top (ip + 1) rest) (answered o r)
  outcome_runs ip stack rest r s (Ok a) i l e h = first w place code _ s i e h (done w place code l)
  outcome_runs ip stack rest r s (Err f) i l e h = fail w place code {s = s} f i l e h

  -- one more part in front of others
  holds_part : {X : Type 0} (x : X) (xs : List X) (value : Answer Evaluated) (rest : Meaning (List (X × Evaluated))) → ((r : Run) → Holds (λ all. firsts all ≡ xs) (rest r)) → Holds (λ all. firsts all ≡ x ∷ xs) (onward value (λ a. rest ▹ λ all. gives ((x, a) ∷ all)))
  holds_part x xs value rest h =
      holds_onward _ _ value _ (holds_any value) (λ a r1 _. holds_onward _ _ (rest r1) _ (h r1) (λ all r2 e. ap (λ ys. x ∷ ys) e))

  holds_items : (items : Items) (r : Run) → Holds (λ all. firsts all ≡ spreads_of items) (items_meaning here call items r)
  holds_items NoItems r = refl
  holds_items (MoreItems is_spread value rest) r =
      holds_part is_spread (spreads_of rest) (expr_meaning here call value r) (items_meaning here call rest) (λ r1. holds_items rest r1)

  pub holds_entries : (entries : Entries) (r : Run) → Holds (λ all. firsts all ≡ keys_in entries) (entries_meaning here call entries r)
  holds_entries NoEntries r = refl
  holds_entries (MoreEntries key value rest) r =
      holds_part key (keys_in rest) (expr_meaning here call value r) (entries_meaning here call rest) (λ r1. holds_entries rest r1)

  -- the operands of the parts are there, and what is made of them is meant
  makes : {X : Type 0} (f : List (X × Evaluated) → Outcome) (xs : List X) (all : List (X × Evaluated)) (base : Base) (r : Run) → firsts all ≡ xs → made_of (λ vs. f (zip xs vs)) (topmost (length xs) (push_all (seconds all) base.operands)) (config_at (all_over (seconds all) base) r) ≡ outcome (f all) base.operands (config_at (all_over (seconds all) base) r)
  makes f xs all base r e =
      let c : Config = config_at (all_over (seconds all) base) r in
      ap (λ o. made_of (λ vs. f (zip xs vs)) o c) (topmost-push_all (length xs) (seconds all) base.operands (length-seconds xs all e))
      ∙ ap (λ ps. outcome (f ps) base.operands c) (zip-firsts xs all e)

  -- the arguments have their names
  pub holds_arguments : (arguments : Arguments) (r : Run) → Holds (λ all. firsts all ≡ argument_names arguments) (arguments_meaning here call arguments r)
  holds_arguments NoArguments r = refl
  holds_arguments (MoreArguments name value rest) r =
      holds_part name (argument_names rest) (expr_meaning here call value r) (arguments_meaning here call rest) (λ r1. holds_arguments rest r1)

  length-argument_names : (arguments : Arguments) → length (argument_names arguments) ≡ arguments_length arguments
  length-argument_names NoArguments = refl
  length-argument_names (MoreArguments name value rest) = ap (λ n. suc n) (length-argument_names rest)

  -- they are dropped, and the body above is asked for
  asks_above : (next : ℕ) (arguments : Arguments) (all : List (site.Name × Evaluated)) (base : Base) (r : Run) (span : Span) → firsts all ≡ argument_names arguments → effect here next (instruction.TakeSuper (arguments_length arguments) span) (config_at (all_over (seconds all) base) r) ≡ Goes (config_at base r) (Ask (Above span) (Pushed true span))
  asks_above next arguments all base r span e =
      let c : Config = config_at (all_over (seconds all) base) r in
      ap (λ o. above_in span o c) (topmost-push_all (arguments_length arguments) (seconds all) base.operands (sym (length-argument_names arguments) ∙ length-seconds (argument_names arguments) all e))

  -- they are there, above what the call is on
  pub calls_on : (f : Evaluated → List (site.Name × Evaluated) → Outcome) (names : List site.Name) (all : List (site.Name × Evaluated)) (a : Evaluated) (base : Base) (r : Run) → firsts all ≡ names → called_on f names (topmost (length names) (push_all (seconds all) (a ∷ base.operands))) (config_at (all_over (seconds all) (over a base)) r) ≡ outcome (f a all) base.operands (config_at (all_over (seconds all) (over a base)) r)
  calls_on f names all a base r e =
      let c : Config = config_at (all_over (seconds all) (over a base)) r in
      ap (λ o. called_on f names o c) (topmost-push_all (length names) (seconds all) (a ∷ base.operands) (length-seconds names all e))
      ∙ ap (λ ps. outcome (f a ps) base.operands c) (zip-firsts names all e)

  -- the attributes are there, above the body that the component is handed
  takes_component : (next : ℕ) (name : site.Name) (keys : List (Option Key)) (has_body : Bool) (all : List (Option Key × Evaluated)) (below0 base : Base) (body : Option val.Val) (r : Run) (span : Span) → firsts all ≡ keys → handed has_body below0.operands ≡ Some (body, base.operands) → effect here next (instruction.TakeComponent name keys has_body span) (config_at (all_over (seconds all) below0) r) ≡ component_asked place.autoescape name span (map_entries place.file all) (Some (body, base.operands)) (config_at (all_over (seconds all) below0) r)
  takes_component next name keys has_body all below0 base body r span e h =
      let c : Config = config_at (all_over (seconds all) below0) r in
      ap (λ o. component_given here name keys has_body span o c) (topmost-push_all (length keys) (seconds all) below0.operands (length-seconds keys all e))
      ∙ ap (λ ps. component_asked place.autoescape name span (map_entries place.file ps) (handed has_body below0.operands) c) (zip-firsts keys all e)
      ∙ ap (λ o. component_asked place.autoescape name span (map_entries place.file all) o c) h

  -- and the component's text is on top of the operands below
  pub component_runs : (ip : ℕ) (name : site.Name) (keys : List (Option Key)) (has_body : Bool) (all : List (Option Key × Evaluated)) (below0 base : Base) (body : Option val.Val) (r : Run) (span : Span) (s : ℕ) {t : ℕ} → t ≤ s → slice_get code ip ≡ Some (instruction.TakeComponent name keys has_body span) → firsts all ≡ keys → handed has_body below0.operands ≡ Some (body, base.operands) → config_at base r ≡ config_at (record below0 { operands = base.operands }) r → Runs w place code (spot ip (all_over (seconds all) below0) r) (s + 1) t (Top (ip + 1) base) (component_meaning_in plain here call name all body span r)
  component_runs ip name keys has_body all below0 base body r span s l i e h same =
      let c : Config = config_at (all_over (seconds all) below0) r in
      let tk = instruction.TakeComponent name keys has_body span in
      let takes = takes_component (ip + 1) name keys has_body all below0 base body r span e h in
      let top : site.Text → Meaning Evaluated = λ t. value_at (val.text t place.autoescape) span in
      let q : List (val.KeyVal × val.Val) → Request = λ given. AComponent name (named_arguments given) body span in
      let u : Use = Pushed place.autoescape span in
      answered_runs w place code s (map_entries place.file all) r (λ given r1. onward (asks call (q given) r1) top) tk l i (λ f g. takes ∙ ap (λ o. component_asked place.autoescape name span o (Some (body, base.operands)) c) g) (λ given g. asked_runs w place code (config_at base r) s (q given) u r top tk (call (q given) r.vars) l i (takes ∙ ap (λ o. component_asked place.autoescape name span o (Some (body, base.operands)) c) g ∙ ap (λ d. Goes d (Ask (q given) u)) (sym same)) (below (q given) u (config_at base r)) (λ after. done w place code l))

  -- a part of which this holds, and one instruction behind it
  one_behind : {A : Type 0} (P : A → Type 0) (cs : Code) (i : Instruction) (ip t : ℕ) (base : Base) (r : Run) {goal : A → Run → Spot} {x : Answer A} {go : A → Meaning Evaluated} → StandsAt code ip (cs ++ i ∷ []) → Holds P x → Runs w place code (spot ip base r) 0 t goal x → (slice_get code (ip + length cs) ≡ Some i → (a : A) (r1 : Run) → P a → Runs w place code (goal a r1) (8 + t) 1 (Top (ip + length cs + 1) base) (go a r1)) → Runs w place code (spot ip base r) 0 1 (Top (ip + length (cs ++ i ∷ [])) base) (more 1 (onward x go))
  one_behind P cs i ip t base r has holds part effects =
      let len : ip + length cs + 1 ≡ ip + length (cs ++ i ∷ []) = omega (arith, length-append cs (i ∷ [])) in
      top_at w place code _ len (spend w place code (onward_where w place code P (omega arith) holds part (effects (stands_back code ip cs (i ∷ []) has).0)))

  -- an operand, and what is made of it
  of_one : (cs : Code) (i : Instruction) (f : Evaluated → Outcome) (ip : ℕ) (base : Base) (r : Run) {x : Answer Evaluated} → StandsAt code ip (cs ++ i ∷ []) → Runs w place code (spot ip base r) 0 1 (Top (ip + length cs) base) x → ((a : Evaluated) (r1 : Run) → effect here (ip + length cs + 1) i (config_at (over a base) r1) ≡ outcome (f a) base.operands (config_at (over a base) r1)) → Runs w place code (spot ip base r) 0 1 (Top (ip + length (cs ++ i ∷ [])) base) (more 1 (onward x (λ a. answered (f a))))
  of_one cs i f ip base r {x} has part effects =
      one_behind (λ _. Unit {0}) cs i ip 1 base r has (holds_any x) part (λ at a r1 _. outcome_runs (ip + length cs) (a ∷ base.operands) base r1 8 (f a) i (omega arith) at (effects a r1))

  -- parts, and what is made of all their operands
  of_all : {X : Type 0} (cs : Code) (i : Instruction) (xs : List X) (f : Variables → List (X × Evaluated) → Outcome) (ip : ℕ) (base : Base) (r : Run) {x : Answer (List (X × Evaluated))} → StandsAt code ip (cs ++ i ∷ []) → Holds (λ all. firsts all ≡ xs) x → Runs w place code (spot ip base r) 0 0 (Tops (ip + length cs) base) x → ((all : List (X × Evaluated)) (r1 : Run) → effect here (ip + length cs + 1) i (config_at (all_over (seconds all) base) r1) ≡ made_of (λ vs. f r1.vars (zip xs vs)) (topmost (length xs) (push_all (seconds all) base.operands)) (config_at (all_over (seconds all) base) r1)) → Runs w place code (spot ip base r) 0 1 (Top (ip + length (cs ++ i ∷ [])) base) (more 1 (onward x (λ all. answered_at (λ v. f v all))))
  of_all cs i xs f ip base r has holds part effects =
      one_behind (λ all. firsts all ≡ xs) cs i ip 0 base r has holds part (λ at all r1 e. outcome_runs (ip + length cs) (push_all (seconds all) base.operands) base r1 7 (f r1.vars all) i (omega arith) at (effects all r1 ∙ makes (f r1.vars) xs all base r1 e))

  -- an operand, a part above it of which this holds, and one instruction behind both
  two_behind : {A : Type 0} (P : A → Type 0) (cv cp : Code) (i : Instruction) (ip t : ℕ) (base : Base) (r : Run) {goal : Evaluated → A → Run → Spot} {x : Answer Evaluated} {next : Evaluated → Meaning A} {go : Evaluated → A → Meaning Evaluated} → StandsAt code ip (cv ++ (cp ++ i ∷ [])) → Runs w place code (spot ip base r) 0 1 (Top (ip + length cv) base) x → ((a : Evaluated) (r1 : Run) → Holds P (next a r1)) → (StandsAt code (ip + length cv) cp → (a : Evaluated) (r1 : Run) → Runs w place code (spot (ip + length cv) (over a base) r1) 0 t (goal a) (next a r1)) → (slice_get code (ip + length cv + length cp) ≡ Some i → (a : Evaluated) (b : A) (r2 : Run) → P b → Runs w place code (goal a b r2) (9 + t) 1 (Top (ip + length cv + length cp + 1) base) (go a b r2)) → Runs w place code (spot ip base r) 0 1 (Top (ip + length (cv ++ (cp ++ i ∷ []))) base) (more 1 (onward x (λ a r1. onward (next a r1) (go a))))
  two_behind P cv cp i ip t base r has operand holds part effects =
      let p = ip + length cv in
      let len : p + length cp + 1 ≡ ip + length (cv ++ (cp ++ i ∷ [])) = omega (arith, length-append cv (cp ++ i ∷ []), length-append cp (i ∷ [])) in
      let h = stands_back code ip cv (cp ++ i ∷ []) has in
      let at = (stands_back code p cp (i ∷ []) h).0 in
      top_at w place code _ len (spend w place code (onward_runs w place code (omega arith) operand (λ a r1. onward_where w place code P (omega arith) (holds a r1) (part (stands_front code p cp _ h) a r1) (λ b r2 e. effects at a b r2 e))))

  -- two operands, and what is made of both
  of_two : (cl cr : Code) (i : Instruction) (f : Evaluated → Evaluated → Outcome) (ip : ℕ) (base : Base) (r : Run) {x : Answer Evaluated} (next : Meaning Evaluated) → StandsAt code ip (cl ++ (cr ++ i ∷ [])) → Runs w place code (spot ip base r) 0 1 (Top (ip + length cl) base) x → (StandsAt code (ip + length cl) cr → (a : Evaluated) (r1 : Run) → Runs w place code (spot (ip + length cl) (over a base) r1) 0 1 (Top (ip + length cl + length cr) (over a base)) (next r1)) → ((a b : Evaluated) (r2 : Run) → effect here (ip + length cl + length cr + 1) i (config_at (over b (over a base)) r2) ≡ outcome (f a b) base.operands (config_at (over b (over a base)) r2)) → Runs w place code (spot ip base r) 0 1 (Top (ip + length (cl ++ (cr ++ i ∷ []))) base) (more 1 (onward x (λ a. next ▹ λ b. answered (f a b))))
  of_two cl cr i f ip base r next has left right effects =
      two_behind (λ _. Unit {0}) cl cr i ip 1 base r {next = λ a. next} has left (λ a r1. holds_any (next r1)) right (λ at a b r2 _. outcome_runs (ip + length cl + length cr) (b ∷ a ∷ base.operands) base r2 9 (f a b) i (omega arith) at (effects a b r2))

  -- an operand, arguments above it, and what is called with both
  of_call : (cv ca : Code) (i : Instruction) (names : List site.Name) (f : Variables → Evaluated → List (site.Name × Evaluated) → Outcome) (ip : ℕ) (base : Base) (r : Run) {x : Answer Evaluated} (next : Meaning (List (site.Name × Evaluated))) → StandsAt code ip (cv ++ (ca ++ i ∷ [])) → Runs w place code (spot ip base r) 0 1 (Top (ip + length cv) base) x → ((r1 : Run) → Holds (λ all. firsts all ≡ names) (next r1)) → (StandsAt code (ip + length cv) ca → (a : Evaluated) (r1 : Run) → Runs w place code (spot (ip + length cv) (over a base) r1) 0 0 (Tops (ip + length cv + length ca) (over a base)) (next r1)) → ((a : Evaluated) (all : List (site.Name × Evaluated)) (r2 : Run) → effect here (ip + length cv + length ca + 1) i (config_at (all_over (seconds all) (over a base)) r2) ≡ called_on (f r2.vars) names (topmost (length names) (push_all (seconds all) (a ∷ base.operands))) (config_at (all_over (seconds all) (over a base)) r2)) → Runs w place code (spot ip base r) 0 1 (Top (ip + length (cv ++ (ca ++ i ∷ []))) base) (more 1 (onward x (λ a. next ▹ λ given. answered_at (λ v. f v a given))))
  of_call cv ca i names f ip base r next has operand holds arguments effects =
      two_behind (λ all. firsts all ≡ names) cv ca i ip 0 base r {next = λ a. next} has operand (λ a r1. holds r1) arguments (λ at a all r2 e. outcome_runs (ip + length cv + length ca) (push_all (seconds all) (a ∷ base.operands)) base r2 8 (f r2.vars a all) i (omega arith) at (effects a all r2 ∙ calls_on (f r2.vars) names all a base r2 e))

  -- an operand, a jump behind it, and code that the jump may pass
  jumps_behind : (cl cr : Code) (i : Instruction) (ip : ℕ) (base : Base) (r : Run) {x : Answer Evaluated} {go : Evaluated → Meaning Evaluated} → StandsAt code ip (cl ++ (i ∷ cr)) → Runs w place code (spot ip base r) 0 1 (Top (ip + length cl) base) x → (StandsAt code (ip + length cl) (i ∷ cr) → ip + length cl + 1 + length cr ≤ length code → (a : Evaluated) (r1 : Run) → Runs w place code (Top (ip + length cl) base a r1) 9 1 (Top (ip + length cl + 1 + length cr) base) (go a r1)) → Runs w place code (spot ip base r) 0 1 (Top (ip + length (cl ++ (i ∷ cr))) base) (more 1 (onward x go))
  jumps_behind cl cr i ip base r has operand chooses =
      let p = ip + length cl in
      let len : p + 1 + length cr ≡ ip + length (cl ++ (i ∷ cr)) = omega (arith, length-append cl (i ∷ cr)) in
      let h = stands_back code ip cl (i ∷ cr) has in
      let m : p + length (i ∷ cr) ≤ length code = stands_within code p i cr h in
      let l : p + 1 + length cr ≤ length code = omega (arith, m) in
      top_at w place code _ len (spend w place code (onward_runs w place code (omega arith) operand (chooses h l)))

  -- no part, and one part in front of others
  no_parts : (X : Type 0) (ip : ℕ) (base : Base) (r : Run) → Runs w place code (spot ip base r) 0 0 (Tops {A = X} (ip + 0) base) (Gave [] r 0)
  no_parts X ip base r =
      let len : ip ≡ ip + 0 = omega arith in tops_at w place code _ len (done w place code (omega arith))

  more_parts : {X : Type 0} (x : X) (cv cr : Code) (ip : ℕ) (base : Base) (r : Run) {value : Answer Evaluated} (rest : Meaning (List (X × Evaluated))) → StandsAt code ip (cv ++ cr) → Runs w place code (spot ip base r) 0 1 (Top (ip + length cv) base) value → (StandsAt code (ip + length cv) cr → (a : Evaluated) (r1 : Run) → Runs w place code (spot (ip + length cv) (over a base) r1) 0 0 (Tops (ip + length cv + length cr) (over a base)) (rest r1)) → Runs w place code (spot ip base r) 0 0 (Tops (ip + length (cv ++ cr)) base) (onward value (λ a. rest ▹ λ all. gives ((x, a) ∷ all)))
  more_parts x cv cr ip base r rest has part others =
      let len : ip + length cv + length cr ≡ ip + length (cv ++ cr) = omega (arith, length-append cv cr) in
      tops_at w place code _ len (onward_runs w place code (omega arith) part (λ a r1. onward_runs w place code (omega arith) (others (stands_back code ip cv cr has) a r1) (λ all r2. done w place code (omega arith))))

  -- a name's value on top, or the map of all that is bound
  name_runs : (b : Bool) (name : site.Name) (span : Span) (ip : ℕ) (base : Base) (r : Run) → StandsAt code ip (cond b (instruction.LoadContext span ∷ []) (instruction.LoadName name span ∷ [])) → Runs w place code (spot ip base r) 0 1 (Top (ip + length (cond b (instruction.LoadContext span ∷ []) (instruction.LoadName name span ∷ []))) base) (visit (reads (λ v. cond b (dump place.around v) (look name place.around v)) ▹ λ v. value_at v span) r)
  name_runs true name span ip base r has =
      spend w place code (first w place code _ 7 (instruction.LoadContext span) has.0 refl (done w place code (omega arith)))
  name_runs false name span ip base r has =
      spend w place code (first w place code _ 7 (instruction.LoadName name span) has.0 refl (done w place code (omega arith)))

  -- in a loop that keeps further values
  abbrev Kept : ℕ → ℕ → ℕ → List Turn → List val.Val → Base → List val.Val → Run → Spot
  Kept ip start size ts kept base vs r = spot ip (in_loop start size ts (kept ++ vs) base) r

  module _ (value : Meaning Evaluated) (cv : Code) (value_runs : (ip : ℕ) (base : Base) (r : Run) → StandsAt code ip cv → Runs w place code (spot ip base r) 0 1 (Top (ip + length cv) base) (value r)) (start size ip : ℕ) (ts : List Turn) (kept : List val.Val) (base : Base) (r : Run) where
    -- a value is kept
    kept_runs : StandsAt code ip (keep_code cv) → Runs w place code (spot ip (in_loop start size ts kept base) r) 1 0 (Kept (ip + length (keep_code cv)) start size ts kept base) (onward (value r) (λ a. gives (a.value ∷ [])))
    kept_runs has =
        let inside = in_loop start size ts kept base in
        let p = ip + length cv in
        let len : p + 1 ≡ ip + length (keep_code cv) = omega (arith, length-append cv (instruction.Keep ∷ [])) in
        let i = (stands_back code ip cv (instruction.Keep ∷ []) has).0 in
        subst (λ n. Runs w place code (spot ip inside r) 1 0 (Kept n start size ts kept base) (onward (value r) (λ a. gives (a.value ∷ [])))) len (onward_runs w place code (omega arith) (value_runs ip inside r (stands_front code ip cv _ has)) (λ a r1. first w place code _ 1 instruction.Keep i refl (done w place code (omega arith))))

    -- nothing is kept of an item that is passed over
    none_kept : (p : ℕ) → Runs w place code (spot p (in_loop start size ts kept base) r) 1 0 (Kept p start size ts kept base) (Gave [] r 0)
    none_kept p =
        subst (λ all. Runs w place code (spot p (in_loop start size ts all base) r) 1 0 (Kept p start size ts kept base) (Gave [] r 0)) (append-nil kept) (done w place code (omega arith))

  -- a value is kept where the condition, which is on top, holds
  pick_runs : (value : Meaning Evaluated) (cv : Code) → ((ip : ℕ) (base : Base) (r : Run) → StandsAt code ip cv → Runs w place code (spot ip base r) 0 1 (Top (ip + length cv) base) (value r)) → (start size p : ℕ) (ts : List Turn) (kept : List val.Val) (base : Base) (r : Run) (a : Evaluated) (b : Bool) → slice_get code p ≡ Some (instruction.PopJumpIfFalse (length cv + 1)) → effect here (p + 1) (instruction.PopJumpIfFalse (length cv + 1)) (config_at (over a (in_loop start size ts kept base)) r) ≡ branched b (config_at (in_loop start size ts kept base) r) (length cv + 1) (config_at (in_loop start size ts kept base) r) → p + 1 + (length cv + 1) ≤ length code → p + 1 + (length cv + 1) ≡ p + 1 + length (keep_code cv) → StandsAt code (p + 1) (keep_code cv) → Runs w place code (spot p (over a (in_loop start size ts kept base)) r) 2 0 (Kept (p + 1 + length (keep_code cv)) start size ts kept base) (if_kept b value r)
  pick_runs value cv value_runs start size p ts kept base r a true i e l passed has =
      first w place code _ 1 (instruction.PopJumpIfFalse (length cv + 1)) i e (kept_runs value cv value_runs start size (p + 1) ts kept base r has)
  pick_runs value cv value_runs start size p ts kept base r a false i e l passed has =
      subst (λ n. Runs w place code (spot p (over a (in_loop start size ts kept base)) r) 2 0 (Kept n start size ts kept base) (Gave [] r 0)) passed (jump w place code _ 1 (length cv + 1) (instruction.PopJumpIfFalse (length cv + 1)) i e l (none_kept value cv value_runs start size (p + 1) ts kept base r (p + 1 + (length cv + 1))))

  mutual
    pub expr_runs : (e : Expr) (ip : ℕ) (base : Base) (r : Run) → StandsAt code ip (expr_code e) → Runs w place code (spot ip base r) 0 1 (Top (ip + length (expr_code e)) base) (expr_meaning here call e r)
    expr_runs (Nothing span) ip base r has =
        spend w place code (first w place code _ 7 (instruction.LoadConst val.none span) has.0 refl (done w place code (omega arith)))
    expr_runs (Boolean b span) ip base r has =
        spend w place code (first w place code _ 7 (instruction.LoadConst (val.bool b) span) has.0 refl (done w place code (omega arith)))
    expr_runs (Integer z span) ip base r has =
        spend w place code (first w place code _ 7 (instruction.LoadConst (val.int z) span) has.0 refl (done w place code (omega arith)))
    expr_runs (Text t span) ip base r has =
        spend w place code (first w place code _ 7 (instruction.LoadConst (val.text t false) span) has.0 refl (done w place code (omega arith)))
    expr_runs (Name name span) ip base r has =
        name_runs (is_context name) name span ip base r has
    expr_runs (Attribute target name optional span) ip base r has =
        let ct = expr_code target in
        of_one ct (instruction.LoadAttribute name optional span) (λ a. attribute_of here.file optional a name span) ip base r has (expr_runs target ip base r (stands_front code ip ct _ has)) (λ a r1. refl)
    expr_runs (Index target index optional span) ip base r has =
        let ct = expr_code target in
        of_two ct (expr_code index) (instruction.LoadItem optional span) (λ a b. item_of here.file optional a b span) ip base r (expr_meaning here call index) has (expr_runs target ip base r (stands_front code ip ct _ has)) (λ stands a r1. expr_runs index (ip + length ct) (over a base) r1 stands) (λ a b r2. refl)
    expr_runs (Slice target start end step optional span) ip base r has =
        let i = instruction.Slice optional span in
        let ct = expr_code target in
        let cs = bound_code start in
        let ce = bound_code end in
        let cp = bound_code step in
        let p = ip + length ct in
        let q = p + length cs in
        let u = q + length ce in
        let v = u + length cp in
        let len : v + 1 ≡ ip + length (ct ++ (cs ++ (ce ++ (cp ++ i ∷ [])))) = omega (arith, length-append ct (cs ++ (ce ++ (cp ++ i ∷ []))), length-append cs (ce ++ (cp ++ i ∷ [])), length-append ce (cp ++ i ∷ []), length-append cp (i ∷ [])) in
        let h1 = stands_back code ip ct (cs ++ (ce ++ (cp ++ i ∷ []))) has in
        let h2 = stands_back code p cs (ce ++ (cp ++ i ∷ [])) h1 in
        let h3 = stands_back code q ce (cp ++ i ∷ []) h2 in
        let at = (stands_back code u cp (i ∷ []) h3).0 in
        top_at w place code _ len (spend w place code (onward_runs w place code (omega arith) (expr_runs target ip base r (stands_front code ip ct _ has)) (λ a r1. onward_lent w place code 1 8 (omega arith) (bound_runs start p (over a base) r1 (stands_front code p cs _ h1)) (λ s r2. onward_lent w place code 1 7 (omega arith) (bound_runs end q (over s (over a base)) r2 (stands_front code q ce _ h2)) (λ e r3. onward_lent w place code 1 6 (omega arith) (bound_runs step u (over e (over s (over a base))) r3 (stands_front code u cp _ h3)) (λ t r4. outcome_runs v (t ∷ e ∷ s ∷ a ∷ base.operands) base r4 5 (slice_of here.file optional a s e t span) i (omega arith) at refl))))))
    expr_runs (Not operand span) ip base r has =
        let co = expr_code operand in
        of_one co instruction.Not (λ a. Ok (not_of a)) ip base r has (expr_runs operand ip base r (stands_front code ip co _ has)) (λ a r1. refl)
    expr_runs (Negate operand span) ip base r has =
        let co = expr_code operand in
        of_one co instruction.Negate (negative_of here.file) ip base r has (expr_runs operand ip base r (stands_front code ip co _ has)) (λ a r1. refl)
    expr_runs (Binary operator left right span) ip base r has =
        let cl = expr_code left in
        of_two cl (expr_code right) (instruction.Binary operator span) (λ a b. binary_of here.file operator a b span) ip base r (expr_meaning here call right) has (expr_runs left ip base r (stands_front code ip cl _ has)) (λ stands a r1. expr_runs right (ip + length cl) (over a base) r1 stands) (λ a b r2. refl)
    expr_runs (And left right span) ip base r has =
        let cl = expr_code left in
        let cr = expr_code right in
        let i = instruction.JumpIfFalseOrPop (length cr) in
        jumps_behind cl cr i ip base r has (expr_runs left ip base r (stands_front code ip cl _ has)) (λ h l a r1. choice_runs w place code _ _ 8 (length cr) (truthy a.value) (expr_meaning here call right) (gives a) r1 i h.0 refl l (adjust w place code 8 1 (omega arith) (expr_runs right (ip + length cl + 1) base r1 h.1)) (done w place code (omega arith)))
    expr_runs (Or left right span) ip base r has =
        let cl = expr_code left in
        let cr = expr_code right in
        let i = instruction.JumpIfTrueOrPop (length cr) in
        jumps_behind cl cr i ip base r has (expr_runs left ip base r (stands_front code ip cl _ has)) (λ h l a r1. choice_not_runs w place code _ _ 8 (length cr) (truthy a.value) (gives a) (expr_meaning here call right) r1 i h.0 refl l (adjust w place code 8 1 (omega arith) (expr_runs right (ip + length cl + 1) base r1 h.1)) (done w place code (omega arith)))
    expr_runs (Ternary value condition other span) ip base r has =
        let cc = expr_code condition in
        let cv = expr_code value in
        let co = expr_code other in
        let p = ip + length cc in
        let h = parts code p cv co (stands_back code ip cc (choice_tail cv co) has) in
        let end = ip + length (cc ++ choice_tail cv co) in
        let len : p + 1 + (length cv + 1) + length co ≡ end = omega (arith, length-append cc (choice_tail cv co), length-append cv (instruction.Jump (length co) ∷ co)) in
        let pass : p + 1 + length cv + 1 + length co ≡ end = omega (arith, len) in
        spend w place code (onward_runs w place code (omega arith) (expr_runs condition ip base r (stands_front code ip cc _ has)) (λ c r1. choice_runs w place code _ _ 8 (length cv + 1) (truthy c.value) (expr_meaning here call value) (expr_meaning here call other) r1 (instruction.PopJumpIfFalse (length cv + 1)) h.branch refl h.within (adjust w place code 8 1 (omega arith) (jump_after w place code (top_passes w place code (p + 1 + length cv) end (length co) base h.jump h.ends pass) (expr_runs value (p + 1) base r1 h.first))) (adjust w place code 8 1 (omega arith) (top_at w place code _ len (expr_runs other (p + 1 + (length cv + 1)) base r1 h.second)))))
    expr_runs (Array items span) ip base r has =
        let ci = items_code items in
        of_all ci (instruction.MakeArray (spreads_of items) span) (spreads_of items) (λ v all. array_of here.file all span) ip base r has (holds_items items r) (items_runs items ip base r (stands_front code ip ci _ has)) (λ all r1. refl)
    expr_runs (Map entries span) ip base r has =
        let ce = entries_code entries in
        of_all ce (instruction.MakeMap (keys_in entries) span) (keys_in entries) (λ v all. map_of here.file all span) ip base r has (holds_entries entries r) (entries_runs entries ip base r (stands_front code ip ce _ has)) (λ all r1. refl)
    expr_runs (Super arguments span) ip base r has =
        let ca = arguments_code arguments in
        let i = instruction.TakeSuper (arguments_length arguments) span in
        let top : site.Text → Meaning Evaluated = λ t. value_at (val.text t true) span in
        one_behind (λ all. firsts all ≡ argument_names arguments) ca i ip 0 base r has (holds_arguments arguments r) (arguments_runs arguments ip base r (stands_front code ip ca _ has)) (λ at all r1 e. asked_runs w place code (config_at base r1) 7 (Above span) (Pushed true span) r1 top i (call (Above span) r1.vars) (omega arith) at (asks_above (ip + length ca + 1) arguments all base r1 span e) (below (Above span) (Pushed true span) (config_at base r1)) (λ after. done w place code (omega arith)))
    expr_runs (Filter value name arguments span) ip base r has =
        let cv = expr_code value in
        let names = argument_names arguments in
        let f : Variables → Evaluated → List (site.Name × Evaluated) → Outcome = λ v a given. filter_applied_by here.file (filtered_at plain here v name) a given span in
        of_call cv (arguments_code arguments) (instruction.ApplyFilter name names span) names f ip base r (arguments_meaning here call arguments) has (expr_runs value ip base r (stands_front code ip cv _ has)) (λ r1. holds_arguments arguments r1) (λ stands a r1. arguments_runs arguments (ip + length cv) (over a base) r1 stands) (λ a all r2. refl)
    expr_runs (Test value name arguments span) ip base r has =
        let cv = expr_code value in
        let names = argument_names arguments in
        let f : Variables → Evaluated → List (site.Name × Evaluated) → Outcome = λ v a given. test_applied_by here.file (tested_at plain here v name) a given span in
        of_call cv (arguments_code arguments) (instruction.ApplyTest name names span) names f ip base r (arguments_meaning here call arguments) has (expr_runs value ip base r (stands_front code ip cv _ has)) (λ r1. holds_arguments arguments r1) (λ stands a r1. arguments_runs arguments (ip + length cv) (over a base) r1 stands) (λ a all r2. refl)
    expr_runs (Call name arguments span) ip base r has =
        let ca = arguments_code arguments in
        let names = argument_names arguments in
        of_all ca (instruction.CallFunction name names span) names (λ v given. function_called_by here.file (called_at plain here v name) given span) ip base r has (holds_arguments arguments r) (arguments_runs arguments ip base r (stands_front code ip ca _ has)) (λ all r1. refl)
    expr_runs (Component name attributes span) ip base r has =
        let ca = entries_code attributes in
        let keys = keys_in attributes in
        one_behind (λ all. firsts all ≡ keys) ca (instruction.TakeComponent name keys false span) ip 0 base r has (holds_entries attributes r) (entries_runs attributes ip base r (stands_front code ip ca _ has)) (λ at all r1 e. component_runs (ip + length ca) name keys false all base base None r1 span 7 (omega arith) at e refl refl)
    expr_runs (Comprehension value key name target condition span) ip base r has =
        let heading : Heading = record { name = name; key = key; counts = false } in
        let ct = expr_code target in
        let cb = turn_code condition (expr_code value) in
        let size = length cb in
        let start = instruction.StartLoop key name false size in
        let made = instruction.MakeArray [] span in
        let p = ip + length ct in
        let at = p + 1 in
        let tail = instruction.NextTurn ∷ instruction.EndComprehension span ∷ made ∷ [] in
        let len : at + (size + 1) + 1 + 1 ≡ ip + length (ct ++ comprehension_tail key name cb span) = omega (arith, length-append ct (comprehension_tail key name cb span), length-append cb tail) in
        let h = stands_back code ip ct (comprehension_tail key name cb span) has in
        let g = round code at cb (instruction.EndComprehension span) (made ∷ []) h.1 in
        let test = condition_meaning here call condition in
        let gives_value = expr_meaning here call value in
        let each = λ (ts : List Turn) (kept : List val.Val) (r1 : Run). turn_runs condition gives_value (expr_code value) (λ ip1 base1 r2 stands. expr_runs value ip1 base1 r2 stands) at size at ts kept base r1 g.turn in
        let begins = λ (a : Evaluated) (turns : Result (List Turn) Fault) (r1 : Run). begun_with at size turns (config_at base r1) in
        top_at w place code _ len (spend w place code (onward_runs w place code (omega arith) (expr_runs target ip base r (stands_front code ip ct _ has)) (λ a r1. answered_runs w place code 8 (turns_of here heading a) r1 (λ turns. comprehension test gives_value turns ▹ λ all. value_at (val.array (val.vals all)) span) start (omega arith) h.0 (λ f e. ap (λ o. begins a o r1) e) (λ turns e. adjust w place code 9 1 (omega arith) (mapped_runs w place code 8 (λ all. record { value = val.array (val.vals all); span = span }) (gather_runs w place code test gives_value span size at base g.next g.over g.rest.0 g.within each p (config_at (over a base) r1) start turns r1 refl h.0 (ap (λ o. begins a o r1) e)))))))

    -- a turn of a comprehension, whose value runs so
    turn_runs : (condition : Optional) (value : Meaning Evaluated) (cv : Code) → ((ip : ℕ) (base : Base) (r : Run) → StandsAt code ip cv → Runs w place code (spot ip base r) 0 1 (Top (ip + length cv) base) (value r)) → (start size ip : ℕ) (ts : List Turn) (kept : List val.Val) (base : Base) (r : Run) → StandsAt code ip (turn_code condition cv) → Runs w place code (spot ip (in_loop start size ts kept base) r) 2 0 (Kept (ip + length (turn_code condition cv)) start size ts kept base) (one_turn (condition_meaning here call condition) value r)
    turn_runs Absent value cv value_runs start size ip ts kept base r has =
        none w place code (adjust w place code 2 0 (omega arith) (kept_runs value cv value_runs start size ip ts kept base r has))
    turn_runs (Present e) value cv value_runs start size ip ts kept base r has =
        let ce = expr_code e in
        let skip = length cv + 1 in
        let i = instruction.PopJumpIfFalse skip in
        let inside = in_loop start size ts kept base in
        let p = ip + length ce in
        let h = stands_back code ip ce (keep_tail cv) has in
        let len : p + 1 + length (keep_code cv) ≡ ip + length (ce ++ keep_tail cv) = omega (arith, length-append ce (keep_tail cv)) in
        let passed : p + 1 + skip ≡ p + 1 + length (keep_code cv) = omega (arith, length-append cv (instruction.Keep ∷ [])) in
        let l : p + 1 + skip ≤ length code = let m : p + length (keep_tail cv) ≤ length code = stands_within code p i (keep_code cv) h in omega (arith, m, passed) in
        subst (λ n. Runs w place code (spot ip inside r) 2 0 (Kept n start size ts kept base) (one_turn (condition_meaning here call (Present e)) value r)) len (subst (Runs w place code (spot ip inside r) 2 0 (Kept (p + 1 + length (keep_code cv)) start size ts kept base)) (sym (onward-onward (expr_meaning here call e r) (λ a. gives (truthy a.value)) (λ keep. if_kept keep value))) (onward_runs w place code (omega arith) (expr_runs e ip inside r (stands_front code ip ce _ has)) (λ a r1. none w place code (adjust w place code 3 0 (omega arith) (pick_runs value cv value_runs start size p ts kept base r1 a (truthy a.value) h.0 refl l passed h.1)))))

    -- a bound that isn't written has an instruction and no visit
    bound_runs : (b : Optional) (ip : ℕ) (base : Base) (r : Run) → StandsAt code ip (bound_code b) → Runs w place code (spot ip base r) 1 0 (Top (ip + length (bound_code b)) base) (bound_meaning here call b r)
    bound_runs Absent ip base r has =
        first w place code _ 0 (instruction.LoadConst val.none (record { start = 0; end = 0 })) has.0 refl (done w place code (omega arith))
    bound_runs (Present e) ip base r has = adjust w place code 1 0 (omega arith) (expr_runs e ip base r has)

    items_runs : (items : Items) (ip : ℕ) (base : Base) (r : Run) → StandsAt code ip (items_code items) → Runs w place code (spot ip base r) 0 0 (Tops (ip + length (items_code items)) base) (items_meaning here call items r)
    items_runs NoItems ip base r has = no_parts Bool ip base r
    items_runs (MoreItems is_spread value rest) ip base r has =
        let cv = expr_code value in
        more_parts is_spread cv (items_code rest) ip base r (items_meaning here call rest) has (expr_runs value ip base r (stands_front code ip cv _ has)) (λ stands a r1. items_runs rest (ip + length cv) (over a base) r1 stands)

    pub entries_runs : (entries : Entries) (ip : ℕ) (base : Base) (r : Run) → StandsAt code ip (entries_code entries) → Runs w place code (spot ip base r) 0 0 (Tops (ip + length (entries_code entries)) base) (entries_meaning here call entries r)
    entries_runs NoEntries ip base r has = no_parts (Option Key) ip base r
    entries_runs (MoreEntries key value rest) ip base r has =
        let cv = expr_code value in
        more_parts key cv (entries_code rest) ip base r (entries_meaning here call rest) has (expr_runs value ip base r (stands_front code ip cv _ has)) (λ stands a r1. entries_runs rest (ip + length cv) (over a base) r1 stands)

    pub arguments_runs : (arguments : Arguments) (ip : ℕ) (base : Base) (r : Run) → StandsAt code ip (arguments_code arguments) → Runs w place code (spot ip base r) 0 0 (Tops (ip + length (arguments_code arguments)) base) (arguments_meaning here call arguments r)
    arguments_runs NoArguments ip base r has = no_parts site.Name ip base r
    arguments_runs (MoreArguments name value rest) ip base r has =
        let cv = expr_code value in
        more_parts name cv (arguments_code rest) ip base r (arguments_meaning here call rest) has (expr_runs value ip base r (stands_front code ip cv _ has)) (λ stands a r1. arguments_runs rest (ip + length cv) (over a base) r1 stands)
