-- What holds of the filters.
use Rattle.std.specs.Prelude.{◌≡◌, ◌≢◌, true, Ok}
use Rattle.tera_values.specs.Prelude.{Val, Named, is_safe}
use Rattle.tera_filters.specs.Extra.{filter_of}
use Rattle.tera_filters.specs.declared.extra_filter.ExtraFilter.{ExtraFilter}
use Rattle.tera_filters.specs.declared.extra_filter.ExtraFilter.TheVariants.{Linebreaks}

-- An answer is safe only where the value that was given is. `linebreaks` escapes any other text.
abbrev pub SafeAnswersAreOfSafeTexts : Type 0
SafeAnswersAreOfSafeTexts =
    (f : ExtraFilter) (v answer : Val) (given : Named Val)
    → f ≢ Linebreaks → filter_of f v given ≡ Ok answer → is_safe answer ≡ true
    → is_safe v ≡ true
