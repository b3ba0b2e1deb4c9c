-- What holds of registering.
use Rattle.std.specs.Prelude.{◌≡◌, ◌≢◌, IsTrue, Option, Some}
use Rattle.tera_errors.specs.Site.{Name, Text}
use Rattle.tera_state.specs.Engine.{Engine, OwnFilter, OwnTest, OwnFunction, Callee, own, filter_at, test_at, function_at, has_filter, has_test, has_function, with_filter, with_test, with_function, with_escape}
use Rattle.tera_state.specs.Moving.{with_those_of, MovedInPart}

-- Of one kind of object, by what a name stands for and what registering makes: a name stands for
-- what was registered there last, what stood there before leaves no trace, and no other name
-- changes.
pub record LastStands {O B : Type 0} (at : Engine → Name → Option (Callee O B))
    (with : Name → O → Engine → Engine) : Type 0 where
  pub last : (n : Name) (o : O) (e : Engine) → at (with n o e) n ≡ Some (own o)
  pub no_trace : (n : Name) (o before : O) (e : Engine) → with n o (with n before e) ≡ with n o e
  pub others : (n m : Name) (o : O) (e : Engine) → m ≢ n → at (with n o e) m ≡ at e m

pub record RegisteringOverwrites : Type 0 where
  pub filters : LastStands filter_at with_filter
  pub tests : LastStands test_at with_test
  pub functions : LastStands function_at with_function

-- each name that stands for something stands for the same
pub record Keeps (old new : Engine) : Type 0 where
  pub filters : (n : Name) → IsTrue (has_filter old n) → filter_at new n ≡ filter_at old n
  pub tests : (n : Name) → IsTrue (has_test old n) → test_at new n ≡ test_at old n
  pub functions : (n : Name) → IsTrue (has_function old n) → function_at new n ≡ function_at old n

-- What is moved from another engine takes no name that stands for something.
pub record MovingKeeps : Type 0 where
  pub all : (other engine : Engine) → Keeps engine (with_those_of other engine)
  pub in_part : (other engine left : Engine) → MovedInPart other engine left → Keeps engine left

-- each name that stands for something stands for something
pub record OnlyAdds (old new : Engine) : Type 0 where
  pub filters : (n : Name) → IsTrue (has_filter old n) → IsTrue (has_filter new n)
  pub tests : (n : Name) → IsTrue (has_test old n) → IsTrue (has_test new n)
  pub functions : (n : Name) → IsTrue (has_function old n) → IsTrue (has_function new n)

pub record RegisteringAdds : Type 0 where
  pub filter : (n : Name) (o : OwnFilter) (e : Engine) → OnlyAdds e (with_filter n o e)
  pub test : (n : Name) (o : OwnTest) (e : Engine) → OnlyAdds e (with_test n o e)
  pub function : (n : Name) (o : OwnFunction) (e : Engine) → OnlyAdds e (with_function n o e)
  pub escape : (escape : Text → Text) (e : Engine) → OnlyAdds e (with_escape escape e)
  pub all : (other e : Engine) → OnlyAdds e (with_those_of other e)
  pub in_part : (other e left : Engine) → MovedInPart other e left → OnlyAdds e left
