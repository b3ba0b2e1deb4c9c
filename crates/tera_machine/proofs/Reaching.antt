-- A path is read as its instructions say.
use Rattle.std.proofs.Common.{◌≡◌, ℕ, suc, ◌+◌, ◌-◌, ◌<◌, ◌^◌, ◌∷◌, Bool, true, false, length, Option, Some, None, Ok, Err, refl, sym, ap, ap₂, ◌∙◌, subst, arith, Result}
use Rattle.std.specs.Prelude.{slice_get, if◌then◌else◌}
use Rattle.std.proofs.lemmas.Option.{slice_get_within}
use Rattle.tera_errors.specs.declared.span.Span.{Span}
use Rattle.tera_errors.specs.Site as site
use Rattle.tera_errors.specs.Site.{Name}
use Rattle.tera_errors.specs.Answer.{SeenError, Says, Lacks}
use Rattle.tera_errors.specs.Fault.{rendering_error}
use Rattle.tera_values.specs.Val.{Val}
use Rattle.tera_values.specs.Access.{is_undefined}
use Rattle.tera_state.specs.Rendered.{rendered}
use Rattle.tera_operators.specs.Operand.{fault_at, Evaluated}
use Rattle.tera_meaning.specs.Meaning.{output}
use Rattle.tera_state.specs.Scope.{look}
use Rattle.tera_operators.specs.Accesses.{attribute_of}
use Rattle.tera_meaning.specs.Here.{Here}
use Rattle.tera_code.specs.InstructionParts.{Compares}
use Rattle.tera_code.specs.declared.comparison.Comparison.{Comparison}
use Rattle.tera_code.specs.declared.instruction.Instruction.{Instruction}
use Rattle.tera_code.specs.declared.instruction.Instruction.TheVariants as instruction
use Rattle.tera_code.specs.Code.{Code}
use Rattle.tera_code.specs.Listing.{Listing}
use Rattle.tera_state.specs.Engine.{Engine}
use Rattle.tera_machine.specs.declared.machine.VirtualMachine.{VirtualMachine}
use Rattle.tera_machine.specs.declared.configuration.Configuration.{Configuration}
use Rattle.tera_machine.specs.declared.cursor.Cursor.{Cursor}
use Rattle.tera_machine.specs.declared.machine.Flow as declared
use Rattle.tera_machine.specs.Subject.{here_of}
use Rattle.tera_machine.specs.Config.{Config, config_of}
use Rattle.tera_machine.specs.Flow.{On}
use Rattle.tera_machine.specs.Did.{Did, Goes, Faults, holding, pushed, outcome, with_text}
use Rattle.tera_machine.specs.Effect.{effect, Effected, Does, put_out}
use Rattle.tera_machine.specs.Dispatch.{CanRun, HasRun, IsPosition}
use Rattle.tera_machine.specs.Together.{done, done_at, after_steps}
use Rattle.tera_machine.specs.Paths.{Start, Continues, Stands, Comes, Reaches, Breaks, done_since, start_at, topped, constant_of, truth_of}
use Rattle.tera_machine.proofs.Together.{done_behind, led_behind}

-- an instruction alone
pub alone_did : (here : Here) (code : Code) (c : Config) (at n : ℕ) (i : Instruction) → slice_get code at ≡ Some i → done here code (suc (n - n)) at c ≡ effect here (at + 1) i c
alone_did here code c at n i e =
    let none : 0 ≡ n - n = omega arith in
    subst (λ k. done here code (suc k) at c ≡ effect here (at + 1) i c) none (ap (λ o. done_at here at o c) e)

pub alone_stands : {T : Type 0} {here : Here} {cursor : Cursor T} {c : Config} (i : Instruction) → here.file ≡ cursor.chunk.now.file → slice_get cursor.chunk.now.code cursor.at ≡ Some i → Stands (start_at here cursor c) cursor
alone_stands {here = here} {cursor} {c} i f e =
    let none : 0 ≡ cursor.steps.now - cursor.steps.now = omega arith in
    record {
      continues = record { chunk = refl; steps = refl; file = f };
      counted = omega arith;
      there = slice_get_within cursor.chunk.now.code cursor.at i e;
      config = c;
      led = subst (λ k. after_steps here cursor.chunk.now.code k cursor.at c ≡ Some (cursor.at, c)) none refl;
    }

-- and what it does is what was done since: a dispatch that ran this instruction alone
pub ran_so : {O T : Type 0} (engine : O → Engine) (m : VirtualMachine O) {cursor cursor2 : Cursor T} {i : Instruction} {file : Name} {before after : Configuration} {r r2 : Result declared.Flow SeenError} → slice_get cursor.chunk.now.code cursor.at ≡ Some i → file ≡ cursor.chunk.now.file → cursor2 ≡ cursor → r2 ≡ r → Does (effect (here_of engine m file before) (cursor.at + 1) i) before r after → HasRun engine m cursor before r2 cursor2 after
ran_so engine m {cursor} {cursor2} {i} {file} {before} {after} {r} {r2} e f k s d =
    let code : Code = cursor.chunk.now.code in
    let here = here_of engine m cursor.chunk.now.file before in
    let alone : Effected (done here code (suc (cursor.steps.now - cursor.steps.now)) cursor.at (config_of before)) r (config_of after) =
    subst (λ x. Effected x r (config_of after)) (sym (alone_did here code (config_of before) cursor.at cursor.steps.now i e))
    (subst (λ name. Effected (effect (here_of engine m name before) (cursor.at + 1) i (config_of before)) r (config_of after)) f d.0) in
    let ran : HasRun engine m cursor before r cursor after = record { stands = alone_stands i refl e; does = (alone, d.1) } in
    subst (λ x. HasRun engine m cursor before x cursor2 after) (sym s) (subst (λ cursor2. HasRun engine m cursor before r cursor2 after) (sym k) ran)

-- a cursor that is where it was, since no instruction was handed out
pub stayed : {T : Type 0} {cursor : Cursor T} {n : ℕ} → n ≡ cursor.steps.now → record cursor { steps = record cursor.steps { now = n } } ≡ cursor
stayed {cursor = cursor} e = ap (λ n. record cursor { steps = record cursor.steps { now = n } }) e

-- the same of an instruction that could run, and is this one
pub ran_alone : {O T : Type 0} {engine : O → Engine} {m : VirtualMachine O} {cursor : Cursor T} {i j : Instruction} {file : Name} {before after : Configuration} {r : Result declared.Flow SeenError} → CanRun engine m cursor i before → i ≡ j → file ≡ cursor.chunk.now.file → Does (effect (here_of engine m file before) (cursor.at + 1) j) before r after → HasRun engine m cursor before r cursor after
ran_alone {engine = engine} {m = m} q e f d =
    ran_so engine m (q.there ∙ ap (λ k. Some k) e) f refl refl d

-- and where its result was made a flow
pub ran_alone_after : {O T : Type 0} {engine : O → Engine} {m : VirtualMachine O} {cursor : Cursor T} {i j : Instruction} {before after : Configuration} {r r2 : Result declared.Flow SeenError} → CanRun engine m cursor i before → i ≡ j → r2 ≡ r → Does (effect (here_of engine m cursor.chunk.now.file before) (cursor.at + 1) j) before r after → HasRun engine m cursor before r2 cursor after
ran_alone_after {engine = engine} {m = m} q e s d =
    ran_so engine m (q.there ∙ ap (λ k. Some k) e) refl refl s d

lacking : (d : Did) (x : SeenError) (c : Config) → Lacks x → Effected d (Err x) c
lacking d None c h = tt
lacking d (Some fault) c h = (let q : Some fault ≡ None = h in cc)

-- where memory is refused nothing is said of what was done
lacking_does : (f : Config → Did) (before : Configuration) (x : SeenError) → Lacks x → Does f before (Err x) before
lacking_does f before x h = (lacking (f (config_of before)) x (config_of before) h, (refl, tt))

-- and it is refused before anything is done
pub ran_lacking : {O T : Type 0} {engine : O → Engine} {m : VirtualMachine O} {cursor : Cursor T} {i : Instruction} {before : Configuration} {x : SeenError} → CanRun engine m cursor i before → Lacks x → HasRun engine m cursor before (Err x) cursor before
ran_lacking {engine = engine} {m = m} {cursor = cursor} {i = i} {before = before} {x = x} q h =
    ran_alone q refl refl (lacking_does (effect (here_of engine m cursor.chunk.now.file before) (cursor.at + 1) i) before x h)

-- a name alone: what it stands for lies on top
pub begins : {T : Type 0} {here : Here} {cursor : Cursor T} {c : Config} {name sought : site.Name} {span : Span} {found : Val} {a : Evaluated} → here.file ≡ cursor.chunk.now.file → slice_get cursor.chunk.now.code cursor.at ≡ Some (instruction.LoadName name span) → sought ≡ name → found ≡ look sought here.around c.run.vars → a ≡ record { value = found; span = span } → Reaches (start_at here cursor c) cursor a
begins {here = here} {cursor} {c} {name} {sought} {span} {found} f e is l same =
    let stands_for : look name here.around c.run.vars ≡ found = ap (λ x. look x here.around c.run.vars) (sym is) ∙ sym l in
    record {
      stands = alone_stands _ f e;
      did = alone_did here cursor.chunk.now.code c cursor.at cursor.steps.now _ e ∙ ap (λ v. pushed v span c) stands_for ∙ ap (λ b. Goes (holding (b ∷ c.operands) c) On) (sym same);
    }

-- a cursor in the same chunk, by which so many instructions more were handed out
pub record Counts {T : Type 0} (a b : Cursor T) (k : ℕ) : Type 0 where
  pub chunk : b.chunk.now ≡ a.chunk.now
  pub steps : b.steps.ghost_name ≡ a.steps.ghost_name
  pub count : b.steps.now ≡ a.steps.now + k

pub counted_so : {T : Type 0} {cursor : Cursor T} {at n k : ℕ} → n ≡ cursor.steps.now + k → Counts cursor (record cursor { at = at; steps = record cursor.steps { now = n } }) k
counted_so e = record { chunk = refl; steps = refl; count = e }

pub continues_on : {T : Type 0} {s : Start T} {a b : Cursor T} {k : ℕ} → Continues s a → Counts a b k → Continues s b
continues_on c m = record { chunk = m.chunk ∙ c.chunk; steps = m.steps ∙ c.steps; file = c.file }

module _ {T : Type 0} {s : Start T} {a : Cursor T} (c : Continues s a) where
  -- what stands in its chunk stands where the reading began, too
  pub found_there : (at : ℕ) {o : Option Instruction} → slice_get a.chunk.now.code at ≡ o → slice_get s.cursor.chunk.now.code at ≡ o
  found_there at {o} e = subst (λ (l : Listing). slice_get l.code at ≡ o) c.chunk e

  pub compares_there : {at : ℕ} {comparison : Comparison} → Compares a.chunk.now.code at comparison → Compares s.cursor.chunk.now.code at comparison
  compares_there {at} {comparison} e =
      subst (λ (l : Listing). Compares l.code at comparison) c.chunk e

  -- and the file is that of what is fixed
  pub file_there : {file : site.Name} → file ≡ a.chunk.now.file → file ≡ s.here.file
  file_there e = e ∙ ap (λ (l : Listing). l.file) c.chunk ∙ sym c.file

-- it stands at a position of its chunk
pub position : {T : Type 0} {s : Start T} {a : Cursor T} → Stands s a → length s.cursor.chunk.now.code < 2 ^ 64 → IsPosition a
position {s = s} {a} r few =
    let same : length a.chunk.now.code ≡ length s.cursor.chunk.now.code = ap (λ (l : Listing). length l.code) r.continues.chunk in
    record { few = omega (arith, few, same); there = omega (arith, r.there, same) }

module _ {T : Type 0} {s : Start T} {a : Cursor T} {c : Config} (r : Comes s a c) {i : Instruction} {b : Cursor T} (e : slice_get s.cursor.chunk.now.code (a.at + 1) ≡ Some i) (p : b.at ≡ a.at + 1) (m : Counts a b 1) where
  -- one more, which stands behind
  pub more : Stands s b
  more =
      let code : Code = s.cursor.chunk.now.code in
      let k : suc (a.steps.now - s.cursor.steps.now) ≡ b.steps.now - s.cursor.steps.now = omega (arith, r.stands.counted, m.count) in
      record {
        continues = continues_on r.stands.continues m;
        counted = omega (arith, r.stands.counted, m.count);
        there = omega (arith, slice_get_within code (a.at + 1) i e, p);
        config = c;
        led = subst (λ j. after_steps s.here code j s.cursor.at s.config ≡ Some (b.at, c)) k (led_behind s.here code (a.steps.now - s.cursor.steps.now) s.cursor.at s.config r.stands.led (Goes c On) r.did ∙ ap (λ q. Some (q, c)) (sym p));
      }

  -- what it does
  pub more_did : done_since s b ≡ effect s.here (b.at + 1) i c
  unfolding more
  more_did = done_behind s.here s.cursor.chunk.now.code (b.steps.now - s.cursor.steps.now) s.cursor.at s.config more.led i (subst (λ q. slice_get s.cursor.chunk.now.code q ≡ Some i) (sym p) e)

module _ {T : Type 0} {s : Start T} {from : Cursor T} {a : Evaluated} (r : Reaches s from a) {name : site.Name} {optional : Bool} {span : Span} {to : Cursor T} (e : slice_get from.chunk.now.code (from.at + 1) ≡ Some (instruction.LoadAttribute name optional span)) (p : to.at ≡ from.at + 1) (m : Counts from to 1) {file2 name2 : site.Name} (f2 : file2 ≡ from.chunk.now.file) (g2 : name2 ≡ name) where
  same : attribute_of s.here.file optional a name span ≡ attribute_of file2 optional a name2 span
  same = ap₂ (λ g k. attribute_of g optional a k span) (sym (file_there r.stands.continues f2)) (sym g2)

  -- an attribute more
  pub attribute_stands : Stands s to
  attribute_stands = more r (found_there r.stands.continues _ e) p m

  attribute_did : done_since s to ≡ outcome (attribute_of file2 optional a name2 span) s.config.operands (topped a s.config)
  attribute_did = more_did r (found_there r.stands.continues _ e) p m ∙ ap (λ x. outcome x s.config.operands (topped a s.config)) same

  pub attribute_reached : {b : Evaluated} → attribute_of file2 optional a name2 span ≡ Ok b → Reaches s to b
  attribute_reached o = record {
    stands = attribute_stands;
    did = attribute_did ∙ ap (λ x. outcome x s.config.operands (topped a s.config)) o;
  }

  -- or its fault
  pub attribute_breaks : (x : SeenError) → Says x (attribute_of file2 optional a name2 span) → Breaks s to x
  attribute_breaks None y = λ c. tt
  attribute_breaks (Some fault) y = λ c. attribute_did ∙ ap (λ x. outcome x s.config.operands (topped a s.config)) y

module _ {T : Type 0} {s : Start T} {from : Cursor T} {c : Config} (r : Comes s from c) {comparison : Comparison} {to : Cursor T} (e : Compares s.cursor.chunk.now.code (from.at + 1) comparison) (p : to.at ≡ from.at + 2) (m : Counts from to 2) where
  abbrev between : Cursor T
  between = record from { at = from.at + 1; steps = record from.steps { now = from.steps.now + 1 } }

  -- a constant lies on top
  on_top : Comes s between (topped (constant_of comparison) c)
  on_top = record { stands = more r e.loads refl (counted_so refl); did = more_did r e.loads refl (counted_so refl) }

  counts_on : Counts between to 1
  counts_on = record { chunk = m.chunk; steps = m.steps; count = omega (arith, m.count) }

  -- and the comparison with it stands behind
  pub two_more : Stands s to
  two_more = more on_top e.applies (omega (arith, p)) counts_on

  -- what it does
  pub two_more_did : done_since s to ≡ effect s.here (to.at + 1) (instruction.Binary comparison.operator comparison.span) (topped (constant_of comparison) c)
  two_more_did = more_did on_top e.applies (omega (arith, p)) counts_on

module _ {T : Type 0} {s : Start T} {from : Cursor T} {a : Evaluated} (c : Config) (r : Comes s from (topped a c)) {comparison : Comparison} {to : Cursor T} (e : Compares s.cursor.chunk.now.code (from.at + 1) comparison) (p : to.at ≡ from.at + 2) (m : Counts from to 2) {file : site.Name} (f : file ≡ s.here.file) where
  abbrev both : Config
  both = topped (constant_of comparison) (topped a c)

  compared_did : done_since s to ≡ outcome (truth_of file a comparison) c.operands both
  compared_did =
      two_more_did r e p m ∙ ap (λ g. outcome (truth_of g a comparison) c.operands both) (sym f)

  -- its truth value
  pub compared_comes : {b : Evaluated} → truth_of file a comparison ≡ Ok b → Comes s to (topped b c)
  compared_comes o = record {
    stands = two_more r e p m;
    did = compared_did ∙ ap (λ x. outcome x c.operands both) o;
  }

  -- or its fault
  pub compared_breaks : (x : SeenError) → Says x (truth_of file a comparison) → Breaks s to x
  compared_breaks None y = λ c. tt
  compared_breaks (Some fault) y = λ d. compared_did ∙ ap (λ x. outcome x c.operands both) y

-- an operand that is put out
pub written : (here : Here) (a : Evaluated) (c : Config) → is_undefined a.value ≡ false → put_out (output here a) c ≡ Goes (with_text (rendered here.autoescape here.engine.escape a.value) c) On
written here a c e =
    ap (λ b. put_out (if b then fault_at here.file a.span else Ok (rendered here.autoescape here.engine.escape a.value)) c) e

-- or is undefined
pub unwritten : (here : Here) (a : Evaluated) (c : Config) → is_undefined a.value ≡ true → put_out (output here a) c ≡ Faults (rendering_error (record { file = here.file; span = a.span }))
unwritten here a c e =
    ap (λ b. put_out (if b then fault_at here.file a.span else Ok (rendered here.autoescape here.engine.escape a.value)) c) e
