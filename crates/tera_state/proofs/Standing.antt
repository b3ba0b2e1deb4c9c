-- What names stand for when objects were registered.
use Rattle.std.proofs.Common.{◌≡◌, ◌≢◌, take, Bool, true, false, ◌||◌, cond, if◌then◌else◌, [], ◌∷◌, Option, Some, None, is_some, refl, sym, ap, ◌∙◌, subst}
use Rattle.std.specs.Str.{bytes_eq}
use Rattle.std.specs.Cmp.Lexicographic.{bytes_decides}
use Rattle.tera_errors.specs.Site.{Name}
use Rattle.tera_values.specs.Named.{Named, at_name, put}
use Rattle.tera_values.proofs.Named.{at_put, put_again}
use Rattle.tera_built_ins.specs.Filters.{filter_named}
use Rattle.tera_built_ins.specs.TestTable.{test_named}
use Rattle.tera_built_ins.specs.FunctionTable.{function_named}
use Rattle.tera_state.specs.Engine.{Engine, OwnFilter, OwnTest, OwnFunction, own, own_or_built_in}
use Rattle.tera_state.specs.Table.{more as one_more_of, moved}
use Rattle.tera_state.specs.Moving.{with_filters, with_tests, with_functions, with_those_of, MovedInPart, to_a_filter, to_a_test, to_a_function}
use Rattle.tera_state.specs.Laws.{RegisteringOverwrites, Keeps, MovingKeeps, OnlyAdds, RegisteringAdds}

not_true : (b : Bool) → (b ≡ true → ⊥) → b ≡ false
not_true true h = absurd (h refl)
not_true false h = refl

module _ {O B : Type 0} where
  put-last : (n : Name) (o : O) (es : Named O) (b : Option B) → own_or_built_in (at_name n (put n o es)) b ≡ Some (own o)
  put-last n o es b =
      ap (λ (found : Option O). own_or_built_in found b) (at_put n n o es ∙ ap (λ (c : Bool). cond c (Some o) (at_name n es)) ((bytes_decides n n).1 refl))

  put-other : (n m : Name) (o : O) (es : Named O) (b : Option B) → m ≢ n → own_or_built_in (at_name m (put n o es)) b ≡ own_or_built_in (at_name m es) b
  put-other n m o es b h =
      ap (λ (found : Option O). own_or_built_in found b) (at_put m n o es ∙ ap (λ (c : Bool). cond c (Some o) (at_name m es)) (not_true (bytes_eq m n) (λ e. h ((bytes_decides m n).0 e))))

  one_more : (c : Bool) (o : O) (found : Option O) (b : Option B) → is_some (own_or_built_in found b) ≡ true → is_some (own_or_built_in (cond c (Some o) found) b) ≡ true
  one_more true o found b h = refl
  one_more false o found b h = h

  put-adds : (n m : Name) (o : O) (es : Named O) (b : Option B) → is_some (own_or_built_in (at_name m es) b) ≡ true → is_some (own_or_built_in (at_name m (put n o es)) b) ≡ true
  put-adds n m o es b h = ap (λ (found : Option O). is_some (own_or_built_in found b)) (at_put m n o es) ∙ one_more (bytes_eq m n) o (at_name m es) b h

  -- what stands for something does so by itself or as built in
  stands-some : (found : Option O) (b : Option B) → is_some (own_or_built_in found b) ≡ true → (is_some b || is_some found) ≡ true
  stands-some (Some o) (Some b) h = refl
  stands-some (Some o) None h = refl
  stands-some None (Some b) h = refl
  stands-some None None h = h

module _ {A : Type 0} (stands : Name → Bool) where
  abbrev is_there : Name → Named A → Bool
  is_there n here = stands n || is_some (at_name n here)

  by_test : (n : Name) (here : Named A) (e : Name × A) → is_there n here ≡ true → (b : Bool) → is_there e.0 here ≡ b → at_name n (if b then here else put e.0 e.1 here) ≡ at_name n here
  by_test n here e h true q = refl
  by_test n here e h false q =
      at_put n e.0 e.1 here
      ∙ ap (λ (c : Bool). cond c (Some e.1) (at_name n here))
      (not_true (bytes_eq n e.0) (λ same.
      (let is : is_there e.0 here ≡ true = ap (λ m. is_there m here) (sym ((bytes_decides n e.0).0 same)) ∙ h in
      cc)))

  -- what is there already stays when one more comes, or all of them
  more-keeps : (n : Name) (here : Named A) (e : Name × A) → is_there n here ≡ true → at_name n (one_more_of stands here e) ≡ at_name n here
  more-keeps n here e h = by_test n here e h (is_there e.0 here) refl

  moved-keeps : (n : Name) (here others : Named A) → is_there n here ≡ true → at_name n (moved stands here others) ≡ at_name n here
  moved-keeps n here [] h = refl
  moved-keeps n here (e ∷ es) h =
      let step = more-keeps n here e h in
      moved-keeps n (one_more_of stands here e) es (ap (λ (o : Option A). stands n || is_some o) step ∙ h) ∙ step

-- for one kind of object
keeps-moved : {O B : Type 0} (named : Name → Option B) (n : Name) (here others : Named O) → is_some (own_or_built_in (at_name n here) (named n)) ≡ true
    → own_or_built_in (at_name n (moved (λ m. is_some (named m)) here others)) (named n) ≡ own_or_built_in (at_name n here) (named n)
keeps-moved {O} named n here others h =
    ap (λ (found : Option O). own_or_built_in found (named n)) (moved-keeps (λ m. is_some (named m)) n here others (stands-some (at_name n here) (named n) h))

keeps-filters : (others : Named OwnFilter) (e : Engine) → Keeps e (with_filters others e)
keeps-filters others e =
    record { filters = λ n h. keeps-moved filter_named n e.filters others h; tests = λ n h. refl; functions = λ n h. refl }

keeps-tests : (others : Named OwnTest) (e : Engine) → Keeps e (with_tests others e)
keeps-tests others e =
    record { filters = λ n h. refl; tests = λ n h. keeps-moved test_named n e.tests others h; functions = λ n h. refl }

keeps-functions : (others : Named OwnFunction) (e : Engine) → Keeps e (with_functions others e)
keeps-functions others e =
    record { filters = λ n h. refl; tests = λ n h. refl; functions = λ n h. keeps-moved function_named n e.functions others h }

keeps-on : (a b c : Engine) → Keeps a b → Keeps b c → Keeps a c
keeps-on a b c first more = record {
  filters = λ n h. more.filters n (ap is_some (first.filters n h) ∙ h) ∙ first.filters n h;
  tests = λ n h. more.tests n (ap is_some (first.tests n h) ∙ h) ∙ first.tests n h;
  functions = λ n h. more.functions n (ap is_some (first.functions n h) ∙ h) ∙ first.functions n h;
}

-- filters, then tests, then functions
keeps-three : (filters : Named OwnFilter) (tests : Named OwnTest) (functions : Named OwnFunction) (e : Engine) → Keeps e (with_functions functions (with_tests tests (with_filters filters e)))
keeps-three filters tests functions e =
    let one = with_filters filters e in
    let two = with_tests tests one in
    keeps-on e two (with_functions functions two) (keeps-on e one two (keeps-filters filters e) (keeps-tests tests one)) (keeps-functions functions two)

pub keeps-all : (other e : Engine) → Keeps e (with_those_of other e)
keeps-all other e = keeps-three other.filters other.tests other.functions e

pub keeps-part : (other e left : Engine) → MovedInPart other e left → Keeps e left
keeps-part other e left (to_a_filter k is) = subst (Keeps e) (sym is) (keeps-filters (take k other.filters) e)
keeps-part other e left (to_a_test k is) =
    subst (Keeps e) (sym is) (keeps-on e (with_filters other.filters e) (with_tests (take k other.tests) (with_filters other.filters e)) (keeps-filters other.filters e) (keeps-tests (take k other.tests) (with_filters other.filters e)))
keeps-part other e left (to_a_function k is) =
    subst (Keeps e) (sym is) (keeps-three other.filters other.tests (take k other.functions) e)

-- what keeps all names only adds
adds : (old new : Engine) → Keeps old new → OnlyAdds old new
adds old new keeps = record {
  filters = λ n h. ap is_some (keeps.filters n h) ∙ h;
  tests = λ n h. ap is_some (keeps.tests n h) ∙ h;
  functions = λ n h. ap is_some (keeps.functions n h) ∙ h;
}

pub registering_overwrites : RegisteringOverwrites
registering_overwrites = record {
  filters = record {
    last = λ n o e. put-last n o e.filters (filter_named n);
    no_trace = λ n o before e. ap (λ (es : Named OwnFilter). record e { filters = es }) (put_again n o before e.filters);
    others = λ n m o e h. put-other n m o e.filters (filter_named m) h;
  };
  tests = record {
    last = λ n o e. put-last n o e.tests (test_named n);
    no_trace = λ n o before e. ap (λ (es : Named OwnTest). record e { tests = es }) (put_again n o before e.tests);
    others = λ n m o e h. put-other n m o e.tests (test_named m) h;
  };
  functions = record {
    last = λ n o e. put-last n o e.functions (function_named n);
    no_trace = λ n o before e. ap (λ (es : Named OwnFunction). record e { functions = es }) (put_again n o before e.functions);
    others = λ n m o e h. put-other n m o e.functions (function_named m) h;
  };
}

pub moving_keeps : MovingKeeps
moving_keeps = record { all = keeps-all; in_part = keeps-part }

pub registering_adds : RegisteringAdds
registering_adds = record {
  filter = λ n o e. record { filters = λ m h. put-adds n m o e.filters (filter_named m) h; tests = λ m h. h; functions = λ m h. h };
  test = λ n o e. record { filters = λ m h. h; tests = λ m h. put-adds n m o e.tests (test_named m) h; functions = λ m h. h };
  function = λ n o e. record { filters = λ m h. h; tests = λ m h. h; functions = λ m h. put-adds n m o e.functions (function_named m) h };
  escape = λ escape e. record { filters = λ m h. h; tests = λ m h. h; functions = λ m h. h };
  all = λ other e. adds e (with_those_of other e) (keeps-all other e);
  in_part = λ other e left part. adds e left (keeps-part other e left part);
}
