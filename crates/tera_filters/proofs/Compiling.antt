-- What `Regex::new` makes of a text, and what it says of one that it refuses.
use Rattle.std.proofs.Common.{◌≡◌, ◌⊎◌, ◌≤◌, ◌<◌, length, cond, Option, None, Some, Ok, Err, IsSomeAnd, IfSome, refl, ap, ⊎_elim, arith}
use Rattle.std.proofs.lemmas.Bool.{le-leb}
use Rattle.std.proofs.lemmas.Bool.Decides.{leb_tells}
use Rattle.std.specs.Str.{chars}
use Rattle.regex_syntax.specs.Brackets.{Nested}
use Rattle.regex_syntax.specs.Captures.{SameCaptures}
use Rattle.regex_syntax.specs.Grammar.{Names, group_count, read}
use Rattle.regex_syntax.specs.Verdict.{Reads, Refuses}
use Rattle.regex_syntax.specs.declared.error.ErrorKind.{ErrorKind}
use Rattle.regex_syntax.specs.declared.error.ErrorKind.TheVariants.{OutOfMemory, NestLimitExceeded}
use Rattle.regex.specs.Names.{names_of}
use Rattle.regex.specs.Patterns.{Re, default_config}
use Rattle.regex.specs.Strings.{regex_source, regex_config, IsReadFromSource}
use Rattle.regex.specs.declared.string.regex.Regex.{Regex}
use Rattle.tera_errors.specs.Site.{Text}
use Rattle.tera_errors.specs.Fault.{invalid_argument}
use Rattle.tera_filters.specs.Patterns.{Pattern, shallow, pattern_in, IsCompiled}

-- a tree stands for what was read
shallow_read : (o : Option (Nested Re × Names)) (a : Re) (names : Names) →
    IsSomeAnd o (λ (re, found). (re.depth ≤ default_config.nest_limit) × SameCaptures a re.value × (names ≡ found)
    × (group_count a ≤ length names)) →
    (pattern : Pattern) × (shallow o ≡ Ok pattern) × (SameCaptures a pattern.0 × (names ≡ pattern.1))
shallow_read None a names h = absurd h
shallow_read (Some (re, found)) a names h = (
  (re.value, found),
  ap (λ b. cond b (Ok (re.value, found)) (Err invalid_argument)) (le-leb re.depth 250 h.0),
  (h.1, h.2),
)

pub is_compiled : (t : Text) (r : Regex) → regex_source r ≡ t → regex_config r ≡ default_config → IsReadFromSource r → IsCompiled t r
unfolding Reads
is_compiled t r is_source is_config is_read =
    let reads : Reads default_config t r.pattern.program.hir (names_of r.pattern.names.items) = rw (is_source, is_config) at is_read in
    shallow_read (read default_config (chars t)) _ _ reads

-- no text that is refused is read
shallow_refused : (o : Option (Nested Re × Names)) (kind : ErrorKind) →
    (o ≡ None) ⊎ ((kind ≡ NestLimitExceeded) × IfSome o (λ (re, found). default_config.nest_limit < re.depth)) →
    shallow o ≡ Err invalid_argument
shallow_refused None kind h = refl
shallow_refused (Some (re, found)) kind h = ⊎_elim (λ e. cc)
    (λ deep. let far : 250 < re.depth = deep.1 in ⊎_elim (λ t. absurd (omega (arith, t.1))) (λ t. ap (λ b. cond b (Ok (re.value, found)) (Err invalid_argument)) t.0) (leb_tells re.depth 250)) h

pub is_refused : (t : Text) (kind : ErrorKind) → Refuses default_config t kind → ¬ (kind ≡ OutOfMemory) →
    pattern_in t ≡ Err invalid_argument
unfolding Refuses
is_refused t kind refused known =
    ⊎_elim (λ e. absurd (known e)) (shallow_refused (read default_config (chars t)) kind) refused
