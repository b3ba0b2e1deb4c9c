-- Texts that are searched by regular expressions.
use Rattle.std.specs.Prelude.{◌≡◌, ◌&&◌, nat_le, is_some, if◌then◌else◌, Bool, Option, Some, None, Result, Ok, Err, codes}
use Rattle.std.specs.Str.{chars}
use Rattle.regex_syntax.specs.Brackets.{Nested}
use Rattle.regex_syntax.specs.Captures.{SameCaptures}
use Rattle.regex_syntax.specs.Grammar.{Names, read}
use Rattle.regex.specs.Patterns.{Re, find_str, find_all_str, default_config}
use Rattle.regex.specs.Replace.{replaced_by, group_bytes}
use Rattle.regex.specs.Strings.{regex_pattern, regex_names}
use Rattle.regex.specs.Templates.{written_after}
use Rattle.regex.specs.declared.string.regex.Regex.{Regex}
use Rattle.tera_errors.specs.Site.{Text}
use Rattle.tera_errors.specs.Fault.{Fault, invalid_argument}
use Rattle.tera_values.specs.Val.{Val, text}
use Rattle.tera_values.specs.Named.{Named}
use Rattle.tera_built_ins.specs.Arguments.{◌▸◌, as_text, needed}

-- what a pattern stands for, and the names of its groups
abbrev pub Pattern : Type 0
Pattern = Re × Names

-- what was read, unless it nests too deep
abbrev pub shallow : Option (Nested Re × Names) → Result Pattern Fault
shallow None = Err invalid_argument
shallow (Some (re, names)) =
    if nat_le re.depth default_config.nest_limit then Ok (re.value, names) else Err invalid_argument

-- the pattern that the grammar of regular expressions reads in a text
abbrev pub pattern_in : Text → Result Pattern Fault
pattern_in t = shallow (read default_config (chars t))

-- what was compiled matches as the pattern does, and its groups have the pattern's names
abbrev pub Compiles : Pattern → Regex → Type 0
Compiles pattern regex =
    SameCaptures (regex_pattern regex) pattern.0 × (regex_names regex ≡ pattern.1)

-- the pattern of the text is what was compiled
abbrev pub IsCompiled : Text → Regex → Type 0
IsCompiled source regex =
    (pattern : Pattern) × (pattern_in source ≡ Ok pattern) × Compiles pattern regex

-- a replacement, with its groups, in the place of each match
abbrev pub replaced : Pattern → Text → Text → Text
replaced pattern rep t =
    replaced_by (λ m. written_after pattern.1 (group_bytes t m) rep 0) t 0
    (find_all_str pattern.0 t)

abbrev pub matching_of : Val → Named Val → Result Bool Fault
matching_of v given =
    as_text v ▸ λ g.
    needed as_text (codes "pat") given ▸ λ source.
    pattern_in source.text ▸ λ pattern.
    Ok (is_some (find_str pattern.0 g.text 0))

-- safe where both the text and what stands in the place of its matches are
abbrev pub regex_replace_of : Val → Named Val → Result Val Fault
regex_replace_of v given =
    as_text v ▸ λ g.
    needed as_text (codes "pattern") given ▸ λ source.
    needed as_text (codes "rep") given ▸ λ rep.
    pattern_in source.text ▸ λ pattern.
    Ok (text (replaced pattern rep.text g.text) (g.safe && rep.safe))
