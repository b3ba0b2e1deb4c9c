-- The filters that every engine has.
use Rattle.std.specs.Prelude.{[], ◌∷◌, Option, Some, None, Result, Err, codes}
use Rattle.tera_errors.specs.Site.{Name}
use Rattle.tera_errors.specs.Fault.{Fault, message}
use Rattle.tera_values.specs.Val.{ValOf}
use Rattle.tera_values.specs.Alphabet.{Alphabet}
use Rattle.tera_values.specs.Named.{Named, at_name}
use Rattle.tera_built_ins.specs.declared.built_in_filter.BuiltInFilter.{BuiltInFilter}
use Rattle.tera_built_ins.specs.declared.built_in_filter.BuiltInFilter.TheVariants as filter
use Rattle.tera_built_ins.specs.Escaping.{Escaping}
use Rattle.tera_built_ins.specs.Safety.{safe_of, escape_of, str_of}
use Rattle.tera_built_ins.specs.Defaults.{default_of}
use Rattle.tera_built_ins.specs.Words.{wordcount_of}
use Rattle.tera_built_ins.specs.Markup.{escape_html_of, escape_xml_of, newlines_to_br_of}
use Rattle.tera_built_ins.specs.Numbers.{pluralize_of, abs_of}
use Rattle.tera_built_ins.specs.Trims.{trim_of, trim_start_of, trim_end_of}
use Rattle.tera_built_ins.specs.Replace.{replace_of}
use Rattle.tera_built_ins.specs.Truncate.{truncate_of}
use Rattle.tera_built_ins.specs.Indent.{indent_of}
use Rattle.tera_built_ins.specs.Parse.{int_of}
use Rattle.tera_built_ins.specs.Sizes.{length_of, reverse_of}
use Rattle.tera_built_ins.specs.Split.{split_of}
use Rattle.tera_built_ins.specs.Items.{first_of, last_of, nth_of}
use Rattle.tera_built_ins.specs.Join.{join_of}
use Rattle.tera_built_ins.specs.Sorting.{sort_of, unique_of}
use Rattle.tera_built_ins.specs.Maps.{values_of, keys_of, pairs_of, get_of}
use Rattle.tera_built_ins.specs.Groups.{group_by_of}

-- their names
abbrev pub filters : Named BuiltInFilter
filters =
    (codes "safe", filter.Safe)
    ∷ (codes "default", filter.Default)
    ∷ (codes "wordcount", filter.Wordcount)
    ∷ (codes "escape", filter.Escape)
    ∷ (codes "escape_html", filter.EscapeHtml)
    ∷ (codes "escape_xml", filter.EscapeXml)
    ∷ (codes "newlines_to_br", filter.NewlinesToBr)
    ∷ (codes "pluralize", filter.Pluralize)
    ∷ (codes "trim", filter.Trim)
    ∷ (codes "trim_start", filter.TrimStart)
    ∷ (codes "trim_end", filter.TrimEnd)
    ∷ (codes "replace", filter.Replace)
    ∷ (codes "truncate", filter.Truncate)
    ∷ (codes "indent", filter.Indent)
    ∷ (codes "str", filter.Str)
    ∷ (codes "int", filter.Int)
    ∷ (codes "length", filter.Length)
    ∷ (codes "reverse", filter.Reverse)
    ∷ (codes "split", filter.Split)
    ∷ (codes "abs", filter.Abs)
    ∷ (codes "first", filter.First)
    ∷ (codes "last", filter.Last)
    ∷ (codes "nth", filter.Nth)
    ∷ (codes "join", filter.Join)
    ∷ (codes "sort", filter.Sort)
    ∷ (codes "unique", filter.Unique)
    ∷ (codes "values", filter.Values)
    ∷ (codes "keys", filter.Keys)
    ∷ (codes "pairs", filter.Pairs)
    ∷ (codes "get", filter.Get)
    ∷ (codes "group_by", filter.GroupBy)
    ∷ []

abbrev pub filter_named : Name → Option BuiltInFilter
filter_named n = at_name n filters

module _ {C : Type 0} (alphabet : Alphabet C) (view : Escaping) where
  -- what a filter makes of a value and arguments
  abbrev pub filter_of : BuiltInFilter → ValOf C → Named (ValOf C) → Result (ValOf C) Fault
  filter_of filter.Safe v given = safe_of alphabet v
  filter_of filter.Default v given = default_of v given
  filter_of filter.Wordcount v given = wordcount_of alphabet v
  filter_of filter.Escape v given = escape_of alphabet view v
  filter_of filter.EscapeHtml v given = escape_html_of alphabet v
  filter_of filter.EscapeXml v given = escape_xml_of alphabet v
  filter_of filter.NewlinesToBr v given = newlines_to_br_of alphabet v
  filter_of filter.Pluralize v given = pluralize_of alphabet v given
  filter_of filter.Trim v given = trim_of alphabet v given
  filter_of filter.TrimStart v given = trim_start_of alphabet v given
  filter_of filter.TrimEnd v given = trim_end_of alphabet v given
  filter_of filter.Replace v given = replace_of alphabet view v given
  filter_of filter.Truncate v given = truncate_of alphabet v given
  filter_of filter.Indent v given = indent_of alphabet view v given
  filter_of filter.Str v given = str_of alphabet v
  filter_of filter.Int v given = int_of alphabet v given
  filter_of filter.Length v given = length_of alphabet v
  filter_of filter.Reverse v given = reverse_of alphabet v
  filter_of filter.Split v given = split_of alphabet v given
  filter_of filter.Abs v given = abs_of v
  filter_of filter.First v given = first_of v
  filter_of filter.Last v given = last_of v
  filter_of filter.Nth v given = nth_of v given
  filter_of filter.Join v given = join_of alphabet view v given
  filter_of filter.Sort v given = sort_of alphabet v given
  filter_of filter.Unique v given = unique_of alphabet v
  filter_of filter.Values v given = values_of v
  filter_of filter.Keys v given = keys_of alphabet v
  filter_of filter.Pairs v given = pairs_of alphabet v
  filter_of filter.Get v given = get_of alphabet v given
  filter_of filter.GroupBy v given = group_by_of alphabet v given

  abbrev pub filter_in : Option BuiltInFilter → ValOf C → Named (ValOf C) → Result (ValOf C) Fault
  filter_in None v given = Err message
  filter_in (Some filter) v given = filter_of filter v given

  -- by its name, and a fault where no filter has that
  abbrev pub filtered_in : Name → ValOf C → Named (ValOf C) → Result (ValOf C) Fault
  filtered_in n v given = filter_in (filter_named n) v given
