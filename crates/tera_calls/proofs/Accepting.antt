-- Calls lead from a registry that is accepted to one that is.
use Rattle.std.proofs.Common.{◌≡◌, Bool, true, false, ◌&&◌, cond, List, [], ◌∷◌, Some, None, Result, Ok, Err, refl, sym, subst}
use Rattle.tera_errors.specs.Site.{Name, Text}
use Rattle.tera_errors.specs.Fault.{Fault, message}
use Rattle.tera_syntax_tree.specs.Delimiters.{delimiters_of, accepted}
use Rattle.tera_values.specs.Escape.{escape_html}
use Rattle.tera_values.specs.Named.{put}
use Rattle.tera_state.specs.Engine.{Engine, with_escape, with_filter, with_test, with_function}
use Rattle.tera_state.specs.Kept.{Meanings, engine_of}
use Rattle.tera_state.specs.Moving.{with_those_of}
use Rattle.tera_state.specs.Laws.{OnlyAdds}
use Rattle.tera_state.proofs.Standing.{registering_adds}
use Rattle.tera_meaning.specs.Registry.{Registry}
use Rattle.tera_meaning.specs.Laws.{IsAccepted}
use Rattle.tera_meaning.proofs.Faultless.{acceptance_stays}
use Rattle.tera_registry.specs.Templates.{is_empty}
use Rattle.tera_registry.specs.Batch.{Adds, ConfiguresOneOf, pairs_of}
use Rattle.tera.specs.Configuring.{Configures, with_delimiters, with_prefixes, with_suffixes}
use Rattle.tera.specs.Lent.{texts_of}
use Rattle.tera.specs.Registering.{with_engine, MovesFrom}
use Rattle.tera.specs.Registry.{registry_of}
use Rattle.tera.specs.declared.engine.TeraOver.{TeraOver}
use Rattle.tera_state.specs.declared.objects.caller_objects.ObjectsOver.{ObjectsOver}
use Rattle.tera_calls.specs.declared.call.CallOver.{CallOver}
use Rattle.tera_calls.specs.declared.call.CallOver.TheVariants.{SetDelimiters, SetFallbackPrefixes, AutoescapeOn, InsertGlobal, SetGlobal, AddRawTemplate, AddRawTemplates, SetEscapeFn, ResetEscapeFn, RegisterFilter, RegisterTest, RegisterFunction, RegisterFrom}
use Rattle.tera_calls.specs.Calls.{Answer, Ends, Leads, with_context, with_global}
use Rattle.tera_calls.specs.Laws.{CallsKeepAcceptance}
use Rattle.tera_calls.proofs.InARow.{Made}

-- whatever a call may make of a registry is accepted, and so is what it leaves
configures : (answer : Answer) (meant : Result Registry Fault) (now next : Registry) → ((r : Registry) → meant ≡ Ok r → IsAccepted r) → IsAccepted now → Configures answer meant now next → IsAccepted next
configures (Ok u) meant now next makes h e = makes next e
configures (Err lack) meant now next makes h e = subst IsAccepted (sym e.1) h

configures_one : (answer : Answer) (Meant : Result Registry Fault → Type 0) (now next : Registry) → ((r : Registry) → Meant (Ok r) → IsAccepted r) → IsAccepted now → ConfiguresOneOf answer Meant now next → IsAccepted next
configures_one (Ok u) Meant now next makes h e = makes next e
configures_one (Err lack) Meant now next makes h e = subst IsAccepted (sym e.1) h

-- that which is meant alone
one_meant : (meant : Registry) → IsAccepted meant → (r : Registry) → ◌≡◌ {A = Result Registry Fault} (Ok meant) (Ok r) → IsAccepted r
one_meant meant h r e = (let is : meant ≡ r = cc in subst IsAccepted is h)

-- what changes only where there is no template
where_empty : (b : Bool) (made : Registry) → (b ≡ true → made.templates ≡ []) → (r : Registry) → cond b (Ok made) (Err message) ≡ Ok r → IsAccepted r
where_empty true made none r e = one_meant made (acceptance_stays.empty made (none refl)) r e
where_empty false made none r e = absurd (cc)

empty_list : {A : Type 0} (xs : List A) → is_empty xs ≡ true → xs ≡ []
empty_list [] h = refl
empty_list (x ∷ xs) h = absurd (cc)

first_of_both : (a b : Bool) → (a && b) ≡ true → a ≡ true
first_of_both true b h = refl
first_of_both false b h = h

adds : (now r : Registry) (batch : List (Name × Text)) → Adds now batch (Ok r) → IsAccepted r
adds now r batch h = acceptance_stays.batch now r h.reading (sym h.is)

registers : (now : Registry) (change : Engine → Engine) → OnlyAdds now.engine (change now.engine) → IsAccepted now → IsAccepted (with_engine change now)
registers now change more h = acceptance_stays.objects now (change now.engine) more h

moves : (answer : Answer) (other : Engine) (now next : Registry) → MovesFrom answer other now next → IsAccepted now → IsAccepted next
moves (Ok u) other now next e h =
    subst IsAccepted (sym e) (registers now (with_those_of other) (registering_adds.all other now.engine) h)
moves (Err None) other now next e h =
    subst IsAccepted (sym e.1) (acceptance_stays.objects now next.engine (registering_adds.in_part other now.engine next.engine e.0) h)
moves (Err (Some fault)) other now next e h = absurd e

module _ {E F T G : Type 0} (objects : Meanings E F T G) where
  pub one_call : (call : CallOver E F T G) (answer : Answer) (now next : Registry) → Ends objects call answer now next → IsAccepted now → IsAccepted next
  one_call (SetDelimiters delimiters) answer now next e h =
      let d = delimiters_of delimiters in
      configures answer (with_delimiters d now) now next
      (where_empty (is_empty now.templates && accepted d) (record now { delimiters = d })
      (λ b. empty_list now.templates (first_of_both (is_empty now.templates) (accepted d) b))) h e
  one_call (SetFallbackPrefixes prefixes) answer now next e h =
      configures answer (with_prefixes (texts_of prefixes.now) now) now next
      (where_empty (is_empty now.templates) (record now { prefixes = texts_of prefixes.now }) (λ b. empty_list now.templates b)) h e
  one_call (AutoescapeOn suffixes) answer now next e h =
      let made = with_suffixes (texts_of suffixes.now) now in
      configures answer (Ok made) now next (one_meant made (acceptance_stays.suffixes now (texts_of suffixes.now) h)) h e
  one_call (InsertGlobal name value) answer now next e h =
      let made = with_global name.now value now in
      configures answer (Ok made) now next (one_meant made (acceptance_stays.global now (put name.now value now.global) h)) h e
  one_call (SetGlobal context) answer now next e h =
      let made = with_context context now in
      configures answer (Ok made) now next (one_meant made (acceptance_stays.global now context h)) h e
  one_call (AddRawTemplate name content) answer now next e h =
      let batch = (name.now, content.now) ∷ [] in
      configures_one answer (Adds now batch) now next (λ r. adds now r batch) h e
  one_call (AddRawTemplates templates) answer now next e h =
      let batch = pairs_of templates.now in
      configures_one answer (Adds now batch) now next (λ r. adds now r batch) h e
  one_call (SetEscapeFn escape) answer now next e h =
      let change = with_escape (objects.escape escape) in
      configures answer (Ok (with_engine change now)) now next
      (one_meant (with_engine change now) (registers now change (registering_adds.escape (objects.escape escape) now.engine) h)) h e
  one_call ResetEscapeFn answer now next e h =
      let change = with_escape escape_html in
      configures answer (Ok (with_engine change now)) now next
      (one_meant (with_engine change now) (registers now change (registering_adds.escape escape_html now.engine) h)) h e
  one_call (RegisterFilter name filter) answer now next e h =
      let change = with_filter name.now (objects.filter filter) in
      configures answer (Ok (with_engine change now)) now next
      (one_meant (with_engine change now) (registers now change (registering_adds.filter name.now (objects.filter filter) now.engine) h)) h e
  one_call (RegisterTest name test) answer now next e h =
      let change = with_test name.now (objects.test test) in
      configures answer (Ok (with_engine change now)) now next
      (one_meant (with_engine change now) (registers now change (registering_adds.test name.now (objects.test test) now.engine) h)) h e
  one_call (RegisterFunction name function) answer now next e h =
      let change = with_function name.now (objects.function function) in
      configures answer (Ok (with_engine change now)) now next
      (one_meant (with_engine change now) (registers now change (registering_adds.function name.now (objects.function function) now.engine) h)) h e
  one_call (RegisterFrom other) answer now next e h = moves answer (engine_of objects other.objects) now next e h

  pub all_calls : (calls : List (CallOver E F T G)) (answers : List Answer) (now last : Registry) → Leads objects now calls answers last → IsAccepted now → IsAccepted last
  all_calls [] [] now last e h = subst IsAccepted e h
  all_calls [] (answer ∷ answers) now last e h = absurd e
  all_calls (call ∷ calls) [] now last e h = absurd e
  all_calls (call ∷ calls) (answer ∷ answers) now last e h =
      all_calls calls answers e.0 last e.2 (one_call call answer now e.0 e.1 h)

pub calls_keep_acceptance : {E F T G : Type 0} → CallsKeepAcceptance E F T G
calls_keep_acceptance = record { one = one_call; all = all_calls }

-- the same of calls that were made
pub made_accepted : {E F T G : Type 0} {objects : Meanings E F T G} {old left : TeraOver (ObjectsOver E F T G)} {calls : List (CallOver E F T G)} {answers : List Answer} → Made objects old calls answers left
    → IsAccepted (registry_of (engine_of objects) old) → IsAccepted (registry_of (engine_of objects) left)
made_accepted {objects = objects} {old = old} {left = left} {calls = calls} {answers = answers} made h =
    all_calls objects calls answers (registry_of (engine_of objects) old) (registry_of (engine_of objects) left) made.led h
