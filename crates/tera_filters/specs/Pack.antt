-- The engine that has the objects of this crate.
use Rattle.std.specs.Borrow.{Bor}
use Rattle.std.specs.Prelude.{false, List, [], ◌∷◌, map, Option, Some, None, codes}
use Rattle.tera_errors.specs.Site.{Name, Text}
use Rattle.tera_state.specs.Engine.{Engine, OwnFilter, OwnTest, OwnFunction, standard_engine, with_filter, with_test, with_function}
use Rattle.tera_state.specs.Kept.{Meanings}
use Rattle.tera_state.specs.declared.objects.unboxed.HtmlEscape.{HtmlEscape}
use Rattle.tera_filters.specs.Extra.{filter_of, test_of, function_of}
use Rattle.tera_filters.specs.declared.clocks.Clock.{Clock}
use Rattle.tera_filters.specs.declared.extra_filter.ExtraFilter.{ExtraFilter}
use Rattle.tera_filters.specs.declared.extra_filter.ExtraFilter.TheVariants as filter
use Rattle.tera_filters.specs.declared.extra_test.ExtraTest.{ExtraTest}
use Rattle.tera_filters.specs.declared.extra_test.ExtraTest.TheVariants as test
use Rattle.tera_filters.specs.declared.extra_function.ExtraFunction.{ExtraFunction}
use Rattle.tera_filters.specs.declared.extra_function.ExtraFunction.TheVariants as function
use Rattle.tera_filters.specs.declared.pack.Pack.{Pack}
use Rattle.tera_filters.specs.declared.pack.Pack.TheVariants.{Extra, Own}

-- of an object of a library, or of the caller's own
abbrev pub in_pack : {E O A : Type 0} → (E → A) → (O → A) → Pack E O → A
in_pack extra own (Extra e) = extra e
in_pack extra own (Own o) = own o

-- Texts that these answer have their own marks.
abbrev pub own_filter : ExtraFilter → OwnFilter
own_filter f = record { meaning = λ v given view. filter_of f v given; safe = false }

abbrev pub own_test : ExtraTest → OwnTest
own_test t = record { meaning = λ v given view. test_of t v given }

abbrev pub own_function : ExtraFunction → OwnFunction
own_function f = record { meaning = λ given view. function_of f given; safe = false }

-- the filters by their names
abbrev pub extra_filters : List (Name × ExtraFilter)
extra_filters =
    (codes "b64decode", filter.B64decode) ∷ (codes "b64encode", filter.B64encode)
    ∷ (codes "capitalize", filter.Capitalize) ∷ (codes "date", filter.Date)
    ∷ (codes "filesizeformat", filter.Filesizeformat) ∷ (codes "json_encode", filter.JsonEncode)
    ∷ (codes "linebreaks", filter.Linebreaks) ∷ (codes "lower", filter.Lower)
    ∷ (codes "md5", filter.Md5) ∷ (codes "regex_replace", filter.RegexReplace)
    ∷ (codes "sha256", filter.Sha256) ∷ (codes "slugify", filter.Slugify)
    ∷ (codes "spaceless", filter.Spaceless) ∷ (codes "striptags", filter.Striptags)
    ∷ (codes "title", filter.Title) ∷ (codes "truncate_words", filter.TruncateWords)
    ∷ (codes "upper", filter.Upper) ∷ (codes "urlencode", filter.Urlencode)
    ∷ (codes "urlencode_strict", filter.UrlencodeStrict) ∷ []

-- names and filters, as they are lent
abbrev pub rows_of : {F : Type 0} → List (Bor Text × F) → List (Name × F)
rows_of = map (λ r. (r.0.now, r.1))

-- what the objects of an engine mean that has a caller's own beside those of this crate
abbrev pub PackMeanings : Type 0 → Type 0 → Type 0 → Type 0
PackMeanings F T G =
    Meanings HtmlEscape (Pack ExtraFilter F) (Pack ExtraTest T) (Pack ExtraFunction G)

-- of those of this crate
abbrev pub in_extra : {E O A : Type 0} → (Pack E O → A) → E → A
in_extra meaning e = meaning (Extra e)

-- each of these filters registered at its name, one after another
abbrev pub with_filters : {F : Type 0} → (F → OwnFilter) → List (Name × F) → Engine → Engine
with_filters meaning [] engine = engine
with_filters meaning (f ∷ fs) engine =
    with_filters meaning fs (with_filter f.0 (meaning f.1) engine)

abbrev pub with_tests : (ExtraTest → OwnTest) → Engine → Engine
with_tests meaning engine =
    with_test (codes "matching") (meaning test.Matching)
    (with_test (codes "in_range") (meaning test.InRange) engine)

-- the function `now`, where the host gives the time
abbrev pub with_now : (ExtraFunction → OwnFunction) → Option Clock → Engine → Engine
with_now meaning None engine = engine
with_now meaning (Some clock) engine =
    with_function (codes "now") (meaning (function.Now clock)) engine

-- an engine without objects of a caller's own
abbrev pub extra_engine : Option Clock → Engine
extra_engine clock =
    with_now own_function clock
    (with_tests own_test (with_filters own_filter extra_filters standard_engine))
