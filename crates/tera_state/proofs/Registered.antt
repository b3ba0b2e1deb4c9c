-- What an engine means when something was registered.
use Rattle.std.proofs.Common.{◌≡◌, ℕ, take, ap, ◌∙◌, Result, Ok, Err, OnOk, OnErr, IfErr, Bool}
use Rattle.tera_errors.specs.Answer.{SeenError, Lacks}
use Rattle.tera_errors.specs.Site.{Name, Text}
use Rattle.tera_values.specs.Named.{Named, put}
use Rattle.tera_state.specs.Engine.{Engine, OwnFilter, OwnTest, OwnFunction}
use Rattle.tera_state.specs.Kept.{Meanings, Registers, each, engine_of}
use Rattle.tera_state.specs.Table.{moved}
use Rattle.tera_state.specs.declared.objects.caller_objects.ObjectsOver.{ObjectsOver}
use Rattle.tera_state.proofs.Each.{each-put, each-take, each-moved}

-- what follows where something was done, or was refused
pub on_ok : {T E P Q : Type 0} (r : Result T E) → (P → Q) → OnOk r P → OnOk r Q
on_ok (Ok x) go h = go h
on_ok (Err e) go h = tt

pub on_err : {T E P Q : Type 0} (r : Result T E) → (P → Q) → OnErr r P → OnErr r Q
on_err (Ok x) go h = tt
on_err (Err e) go h = go h

pub where_err : {T E P : Type 0} (r : Result T E) → P → OnErr r P
where_err (Ok x) p = tt
where_err (Err e) p = p

-- what one call puts or leaves as it is, is registered
pub registers : {E F T G P Q : Type 0} {old new : ObjectsOver E F T G} {change : Meanings E F T G → Engine → Engine} (r : Result (Unit {0}) SeenError)
    → ((m : Meanings E F T G) → P → engine_of m new ≡ change m (engine_of m old)) → ((m : Meanings E F T G) → Q → engine_of m new ≡ engine_of m old)
    → OnOk r P → OnErr r Q → IfErr r Lacks → Registers r old new change
registers r put same ok err lacks =
    record { ok = λ m. on_ok r (put m) ok; err = λ m. on_err r (same m) err; lacks = lacks }

-- an engine of these, and the same engine of what is the same
abbrev pub engine : (Text → Text) → Named OwnFilter → Named OwnTest → Named OwnFunction → Engine
engine escape filters tests functions =
    record { escape = escape; filters = filters; tests = tests; functions = functions }

pub same-engine : {escape : Text → Text} {filters filters' : Named OwnFilter} {tests tests' : Named OwnTest} {functions functions' : Named OwnFunction}
    → filters ≡ filters' → tests ≡ tests' → functions ≡ functions' → engine escape filters tests functions ≡ engine escape filters' tests' functions'
same-engine {escape} f t g = λ i. engine escape (f i) (t i) (g i)

-- what was put means what is put of the meaning
pub one-put : {F O : Type 0} (meaning : F → O) (n : Name) (f : F) (old new : Named F) → new ≡ put n f old → each meaning new ≡ put n (meaning f) (each meaning old)
one-put meaning n f old new h = ap (each meaning) h ∙ each-put meaning n f old

-- what was moved means what is moved of the meanings
module _ {F O : Type 0} (meaning : F → O) (stands : Name → Bool) (old others new : Named F) where
  pub all-moved : new ≡ moved stands old others → each meaning new ≡ moved stands (each meaning old) (each meaning others)
  all-moved h = ap (each meaning) h ∙ each-moved meaning stands old others

  pub some-moved : (k : ℕ) → new ≡ moved stands old (take k others) → each meaning new ≡ moved stands (each meaning old) (take k (each meaning others))
  some-moved k h =
      ap (each meaning) h ∙ each-moved meaning stands old (take k others)
      ∙ ap (λ l. moved stands (each meaning old) l) (each-take meaning k others)
