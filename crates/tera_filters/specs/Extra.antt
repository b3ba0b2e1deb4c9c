-- What the objects of this crate make of values.
use Rattle.std.specs.Prelude.{Bool, Result}
use Rattle.tera_errors.specs.Fault.{Fault}
use Rattle.tera_values.specs.Val.{Val}
use Rattle.tera_values.specs.Named.{Named}
use Rattle.tera_filters.specs.declared.extra_filter.ExtraFilter.{ExtraFilter}
use Rattle.tera_filters.specs.declared.extra_filter.ExtraFilter.TheVariants as filter
use Rattle.tera_filters.specs.declared.extra_test.ExtraTest.{ExtraTest}
use Rattle.tera_filters.specs.declared.extra_test.ExtraTest.TheVariants as test
use Rattle.tera_filters.specs.declared.extra_function.ExtraFunction.{ExtraFunction}
use Rattle.tera_filters.specs.declared.extra_function.ExtraFunction.TheVariants as function
use Rattle.tera_filters.specs.Base64Texts.{b64decode_of, b64encode_of}
use Rattle.tera_filters.specs.Case.{capitalize_of, lower_of, title_of, upper_of}
use Rattle.tera_filters.specs.Clocks.{now_of}
use Rattle.tera_filters.specs.Dates.{date_of}
use Rattle.tera_filters.specs.Digests.{md5_of, sha256_of}
use Rattle.tera_filters.specs.FileSizes.{filesizeformat_of}
use Rattle.tera_filters.specs.JsonTexts.{json_encode_of}
use Rattle.tera_filters.specs.Lines.{linebreaks_of}
use Rattle.tera_filters.specs.Patterns.{matching_of, regex_replace_of}
use Rattle.tera_filters.specs.Ranges.{in_range_of}
use Rattle.tera_filters.specs.Slugs.{slugify_of}
use Rattle.tera_filters.specs.Tags.{spaceless_of, striptags_of}
use Rattle.tera_filters.specs.Urls.{urlencode_of, urlencode_strict_of}
use Rattle.tera_filters.specs.Words.{truncate_words_of}

abbrev pub filter_of : ExtraFilter → Val → Named Val → Result Val Fault
filter_of filter.B64decode v given = b64decode_of v given
filter_of filter.B64encode v given = b64encode_of v given
filter_of filter.Capitalize v given = capitalize_of v
filter_of filter.Date v given = date_of v given
filter_of filter.Filesizeformat v given = filesizeformat_of v given
filter_of filter.JsonEncode v given = json_encode_of v given
filter_of filter.Linebreaks v given = linebreaks_of v
filter_of filter.Lower v given = lower_of v
filter_of filter.Md5 v given = md5_of v
filter_of filter.RegexReplace v given = regex_replace_of v given
filter_of filter.Sha256 v given = sha256_of v
filter_of filter.Slugify v given = slugify_of v
filter_of filter.Spaceless v given = spaceless_of v
filter_of filter.Striptags v given = striptags_of v
filter_of filter.Title v given = title_of v
filter_of filter.TruncateWords v given = truncate_words_of v given
filter_of filter.Upper v given = upper_of v
filter_of filter.Urlencode v given = urlencode_of v
filter_of filter.UrlencodeStrict v given = urlencode_strict_of v

abbrev pub test_of : ExtraTest → Val → Named Val → Result Bool Fault
test_of test.InRange v given = in_range_of v given
test_of test.Matching v given = matching_of v given

abbrev pub function_of : ExtraFunction → Named Val → Result Val Fault
function_of (function.Now clock) given = now_of clock.seconds given
