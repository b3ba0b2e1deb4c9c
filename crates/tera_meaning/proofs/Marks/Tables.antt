-- The filters, tests and functions that every engine has, with marked values.
use Rattle.std.proofs.Common.{◌≡◌, ℕ, refl, Some}
use Rattle.tera_values.specs.Alphabet.{Marked, plain, marking}
use Rattle.tera_values.specs.Escape.{escape_html}
use Rattle.tera_values.specs.Named.{Named}
use Rattle.tera_values.specs.Val.{ValOf}
use Rattle.tera_built_ins.specs.declared.built_in_filter.BuiltInFilter.{BuiltInFilter}
use Rattle.tera_built_ins.specs.declared.built_in_filter.BuiltInFilter.TheVariants as filter
use Rattle.tera_built_ins.specs.declared.built_in_test.BuiltInTest.{BuiltInTest}
use Rattle.tera_built_ins.specs.declared.built_in_test.BuiltInTest.TheVariants as test
use Rattle.tera_built_ins.specs.declared.built_in_function.BuiltInFunction.{BuiltInFunction}
use Rattle.tera_built_ins.specs.declared.built_in_function.BuiltInFunction.TheVariants as function
use Rattle.tera_built_ins.specs.Escaping.{Escaping}
use Rattle.tera_built_ins.specs.Filters.{filter_of}
use Rattle.tera_built_ins.specs.Tests.{is_text, is_integer, is_map, is_bool, is_array, is_none, is_iterable}
use Rattle.tera_built_ins.specs.TestTable.{test_of}
use Rattle.tera_built_ins.specs.FunctionTable.{function_of}
use Rattle.tera_meaning.proofs.Marks.Claim.{Claim, FilterHolds}
use Rattle.tera_meaning.proofs.Marks.Standing.{Stands, ResultStands}
use Rattle.tera_meaning.proofs.Marks.Given.{NamedStand, Equals}
use Rattle.tera_meaning.proofs.Marks.Safety.{safe-stands, escape-stands, str-stands}
use Rattle.tera_meaning.proofs.Marks.Markup.{escape_html-stands, escape_xml-stands, newlines_to_br-stands}
use Rattle.tera_meaning.proofs.Marks.Words.{wordcount-stands}
use Rattle.tera_meaning.proofs.Marks.Trims.{trim-stands, trim_start-stands, trim_end-stands}
use Rattle.tera_meaning.proofs.Marks.Replace.{replace-stands}
use Rattle.tera_meaning.proofs.Marks.Truncate.{truncate-stands}
use Rattle.tera_meaning.proofs.Marks.Indent.{indent-stands}
use Rattle.tera_meaning.proofs.Marks.Split.{split-stands}
use Rattle.tera_meaning.proofs.Marks.Defaults.{default-stands}
use Rattle.tera_meaning.proofs.Marks.Numbers.{pluralize-stands, int-stands, abs-stands}
use Rattle.tera_meaning.proofs.Marks.Sizes.{length-stands, reverse-stands}
use Rattle.tera_meaning.proofs.Marks.Picked.{first-stands, last-stands, nth-stands}
use Rattle.tera_meaning.proofs.Marks.Join.{join-stands}
use Rattle.tera_meaning.proofs.Marks.Sorting.{sort-stands, unique-stands}
use Rattle.tera_meaning.proofs.Marks.Maps.{values-stands, keys-stands, pairs-stands, get-stands}
use Rattle.tera_meaning.proofs.Marks.Groups.{group_by-stands}
use Rattle.tera_meaning.proofs.Marks.Tests as tests
use Rattle.tera_meaning.proofs.Marks.Functions.{range-stands, throw-stands}
use Rattle.tera_state.specs.Engine.{built_in}

module _ {K : Claim} where
  module _ {given : Named (ValOf Marked)} {others : Named (ValOf ℕ)} (ns : NamedStand K given others) where
    -- where texts are escaped for HTML
    module _ (view : Escaping) (by_html : view.escape ≡ escape_html) {v : ValOf Marked} {w : ValOf ℕ} (s : Stands K v w) where
      pub filter-stands : (f : BuiltInFilter) → FilterHolds K (Some (built_in f)) → ResultStands (Stands K) (filter_of marking view f v given) (filter_of plain view f w others)
      filter-stands filter.Safe h = safe-stands (h refl) s
      filter-stands filter.Escape h = escape-stands view by_html s
      filter-stands filter.EscapeHtml h = escape_html-stands s
      filter-stands filter.EscapeXml h = escape_xml-stands s
      filter-stands filter.NewlinesToBr h = newlines_to_br-stands s
      filter-stands filter.Wordcount h = wordcount-stands s
      filter-stands filter.Trim h = trim-stands s ns
      filter-stands filter.TrimStart h = trim_start-stands s ns
      filter-stands filter.TrimEnd h = trim_end-stands s ns
      filter-stands filter.Replace h = replace-stands view by_html s ns
      filter-stands filter.Truncate h = truncate-stands s ns
      filter-stands filter.Indent h = indent-stands view by_html s ns
      filter-stands filter.Split h = split-stands s ns
      filter-stands filter.Default h = default-stands s ns
      filter-stands filter.Pluralize h = pluralize-stands s ns
      filter-stands filter.Str h = str-stands s
      filter-stands filter.Int h = int-stands s ns
      filter-stands filter.Abs h = abs-stands s
      filter-stands filter.Length h = length-stands s
      filter-stands filter.Reverse h = reverse-stands s
      filter-stands filter.First h = first-stands s
      filter-stands filter.Last h = last-stands s
      filter-stands filter.Nth h = nth-stands s ns
      filter-stands filter.Join h = join-stands view by_html s ns
      filter-stands filter.Sort h = sort-stands s ns
      filter-stands filter.Unique h = unique-stands s
      filter-stands filter.Values h = values-stands s
      filter-stands filter.Keys h = keys-stands s
      filter-stands filter.Pairs h = pairs-stands s
      filter-stands filter.Get h = get-stands s ns
      filter-stands filter.GroupBy h = group_by-stands s ns

    module _ {v : ValOf Marked} {w : ValOf ℕ} (s : Stands K v w) where
      pub test-stands : (t : BuiltInTest) → ResultStands Equals (test_of marking t v given) (test_of plain t w others)
      test-stands test.String = tests.bare-stands is_text s
      test-stands test.Number = tests.bare-stands is_integer s
      test-stands test.Map = tests.bare-stands is_map s
      test-stands test.Bool = tests.bare-stands is_bool s
      test-stands test.Array = tests.bare-stands is_array s
      test-stands test.Integer = tests.bare-stands is_integer s
      test-stands test.None = tests.bare-stands is_none s
      test-stands test.Iterable = tests.bare-stands is_iterable s
      test-stands test.Defined = tests.defined-stands s ns
      test-stands test.Undefined = tests.undefined-stands s ns
      test-stands test.Odd = tests.odd-stands s ns
      test-stands test.Even = tests.even-stands s ns
      test-stands test.DivisibleBy = tests.divisible_by-stands s ns
      test-stands test.StartingWith = tests.starting_with-stands s ns
      test-stands test.EndingWith = tests.ending_with-stands s ns
      test-stands test.Containing = tests.containing-stands s ns

    pub function-stands : (f : BuiltInFunction) → ResultStands (Stands K) (function_of marking f given) (function_of plain f others)
    function-stands function.Range = range-stands ns
    function-stands function.Throw = throw-stands ns
