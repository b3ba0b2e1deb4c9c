-- The tests that every engine has.
use Rattle.std.specs.Prelude.{Bool, [], ◌∷◌, Option, Some, None, Result, Ok, Err, codes}
use Rattle.tera_errors.specs.Site.{Name}
use Rattle.tera_errors.specs.Fault.{Fault, message}
use Rattle.tera_values.specs.Val.{ValOf}
use Rattle.tera_values.specs.Alphabet.{Alphabet}
use Rattle.tera_values.specs.Named.{Named, at_name}
use Rattle.tera_built_ins.specs.declared.built_in_test.BuiltInTest.{BuiltInTest}
use Rattle.tera_built_ins.specs.declared.built_in_test.BuiltInTest.TheVariants as test
use Rattle.tera_built_ins.specs.Tests.{is_text, is_integer, is_map, is_bool, is_array, is_none, is_iterable, defined_test, undefined_test, odd_test, even_test, divisible_by_test, starting_with_test, ending_with_test, containing_test}

-- their names
abbrev pub tests : Named BuiltInTest
tests =
    (codes "string", test.String)
    ∷ (codes "number", test.Number)
    ∷ (codes "map", test.Map)
    ∷ (codes "bool", test.Bool)
    ∷ (codes "array", test.Array)
    ∷ (codes "integer", test.Integer)
    ∷ (codes "none", test.None)
    ∷ (codes "iterable", test.Iterable)
    ∷ (codes "defined", test.Defined)
    ∷ (codes "undefined", test.Undefined)
    ∷ (codes "odd", test.Odd)
    ∷ (codes "even", test.Even)
    ∷ (codes "divisible_by", test.DivisibleBy)
    ∷ (codes "starting_with", test.StartingWith)
    ∷ (codes "ending_with", test.EndingWith)
    ∷ (codes "containing", test.Containing)
    ∷ []

abbrev pub test_named : Name → Option BuiltInTest
test_named n = at_name n tests

module _ {C : Type 0} (alphabet : Alphabet C) where
  -- what a test says of a value and arguments
  abbrev pub test_of : BuiltInTest → ValOf C → Named (ValOf C) → Result Bool Fault
  test_of test.String v given = Ok (is_text (alphabet.bare v))
  test_of test.Number v given = Ok (is_integer (alphabet.bare v))
  test_of test.Map v given = Ok (is_map (alphabet.bare v))
  test_of test.Bool v given = Ok (is_bool (alphabet.bare v))
  test_of test.Array v given = Ok (is_array (alphabet.bare v))
  test_of test.Integer v given = Ok (is_integer (alphabet.bare v))
  test_of test.None v given = Ok (is_none (alphabet.bare v))
  test_of test.Iterable v given = Ok (is_iterable (alphabet.bare v))
  test_of test.Defined v given = defined_test alphabet v given
  test_of test.Undefined v given = undefined_test alphabet v given
  test_of test.Odd v given = odd_test alphabet v given
  test_of test.Even v given = even_test alphabet v given
  test_of test.DivisibleBy v given = divisible_by_test alphabet v given
  test_of test.StartingWith v given = starting_with_test alphabet v given
  test_of test.EndingWith v given = ending_with_test alphabet v given
  test_of test.Containing v given = containing_test alphabet v given

  abbrev pub test_in : Option BuiltInTest → ValOf C → Named (ValOf C) → Result Bool Fault
  test_in None v given = Err message
  test_in (Some asked) v given = test_of asked v given

  -- by its name, and a fault where no test has that
  abbrev pub tested_in : Name → ValOf C → Named (ValOf C) → Result Bool Fault
  tested_in n v given = test_in (test_named n) v given
