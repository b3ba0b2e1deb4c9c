-- Where safe answers come from.
use Rattle.std.proofs.Common.{◌≡◌, ◌^◌, codes, Bool, true, false, ◌&&◌, cond, List, ℕ, Result, Ok, Err, refl, ap, ◌∙◌}
use Rattle.std.specs.Str.{is_utf8}
use Rattle.tera_errors.specs.Fault.{Fault, message}
use Rattle.tera_values.specs.Val.{Val, undefined, none, bool, int, text, bytes, array, map}
use Rattle.tera_values.specs.Access.{is_safe}
use Rattle.tera_values.specs.Alphabet.{plain}
use Rattle.base64.specs.GeneralPurpose.{decode_of}
use Rattle.tera_built_ins.specs.Arguments.{◌▸◌, Given, as_bool, as_bytes, as_integer, as_natural, as_text, needed, optional, or_default}
use Rattle.tera_built_ins.specs.Truncate.{ellipsis}
use Rattle.tera_filters.specs.declared.extra_filter.ExtraFilter.TheVariants as filter
use Rattle.tera_filters.specs.Base64Texts.{engine, or_message, unsafe_text}
use Rattle.tera_filters.specs.Dates.{moment_of, shown, turned_to}
use Rattle.tera_filters.specs.FileSizes.{natural}
use Rattle.tera_filters.specs.JsonTexts.{json_of}
use Rattle.tera_filters.specs.Laws.{SafeAnswersAreOfSafeTexts}
use Rattle.tera_filters.specs.Patterns.{pattern_in}
use Rattle.tera_filters.specs.Texts.{with_its_mark}

-- what is answered is safe only where this is true
abbrev Trusts : Bool → Result Val Fault → Type 0
Trusts s r = (answer : Val) → r ≡ Ok answer → is_safe answer ≡ true → s ≡ true

both-true : (a b : Bool) → (a && b) ≡ true → a ≡ true
both-true true b h = refl
both-true false b h = h

refused : (s : Bool) (fault : Fault) → Trusts s (Err fault)
refused s fault answer e h = cc

with-mark : (s mark : Bool) (t : List ℕ) → (mark ≡ true → s ≡ true) → Trusts s (Ok (text t mark))
with-mark s mark t go answer e h = let same : text t mark ≡ answer = cc in go (ap is_safe same ∙ h)

unmarked : (s : Bool) (t : List ℕ) → Trusts s (Ok (text t false))
unmarked s t = with-mark s false t (λ h. cc)

-- where one thing comes after another
after : {A : Type 0} (s : Bool) (r : Result A Fault) (go : A → Result Val Fault) → ((a : A) → Trusts s (go a)) → Trusts s (r ▸ go)
after s (Ok a) go trusts = trusts a
after s (Err fault) go trusts = refused s fault

of-text : (v : Val) (go : Given → Result Val Fault) → ((g : Given) → Trusts g.safe (go g)) → Trusts (is_safe v) (as_text v ▸ go)
of-text undefined go trusts = refused _ _
of-text none go trusts = refused _ _
of-text (bool b) go trusts = refused _ _
of-text (int z) go trusts = refused _ _
of-text (text t s) go trusts = trusts (record { text = t; safe = s })
of-text (bytes b) go trusts = refused _ _
of-text (array vs) go trusts = refused _ _
of-text (map es) go trusts = refused _ _

keeps : (made : List ℕ → List ℕ) (v : Val) → Trusts (is_safe v) (with_its_mark made v)
keeps made v = of-text v _ (λ g. with-mark g.safe g.safe _ (λ h. h))

decoded : (s : Bool) (t : List ℕ) → Trusts s (unsafe_text t)
decoded s t = by (is_utf8 t)
  where
    by : (b : Bool) → Trusts s (cond b (Ok (text t false)) (Err message))
    by true = unmarked s t
    by false = refused s _

pub safe_answers_are_of_safe_texts : SafeAnswersAreOfSafeTexts
safe_answers_are_of_safe_texts filter.B64decode v answer given other =
    of-text v _ (λ g. after g.safe (or_default false as_bool (codes "url_safe") given) _ (λ for_url. after g.safe (or_message (decode_of (engine for_url) g.text)) _ (decoded g.safe))) answer
safe_answers_are_of_safe_texts filter.B64encode v answer given other =
    of-text v _ (λ g. after g.safe (or_default false as_bool (codes "url_safe") given) _ (λ for_url. with-mark g.safe g.safe _ (λ h. h))) answer
safe_answers_are_of_safe_texts filter.Capitalize v answer given other = keeps _ v answer
safe_answers_are_of_safe_texts filter.Date v answer given other =
    let s = is_safe v in
    after s (moment_of v) _ (λ m. after s (or_default (codes "%Y-%m-%d") (as_bytes plain) (codes "format") given) _ (λ format. after s (optional as_text (codes "timezone") given) _ (λ zone. after s (turned_to zone m) _ (λ m. after s (shown format m) _ (unmarked s))))) answer
safe_answers_are_of_safe_texts filter.Filesizeformat v answer given other =
    let s = is_safe v in
    after s (as_integer v) _ (λ z. after s (natural z) _ (λ n. after s (or_default false as_bool (codes "binary") given) _ (λ binary. unmarked s _))) answer
safe_answers_are_of_safe_texts filter.JsonEncode v answer given other =
    let s = is_safe v in
    after s (or_default false as_bool (codes "pretty") given) _ (λ is_pretty. after s (json_of is_pretty v) _ (λ t. unmarked s _)) answer
safe_answers_are_of_safe_texts filter.Linebreaks v answer given other = absurd (other refl)
safe_answers_are_of_safe_texts filter.Lower v answer given other = keeps _ v answer
safe_answers_are_of_safe_texts filter.Md5 v answer given other = keeps _ v answer
safe_answers_are_of_safe_texts filter.RegexReplace v answer given other =
    of-text v _ (λ g. after g.safe (needed as_text (codes "pattern") given) _ (λ source. after g.safe (needed as_text (codes "rep") given) _ (λ rep. after g.safe (pattern_in source.text) _ (λ pattern. with-mark g.safe (g.safe && rep.safe) _ (both-true g.safe rep.safe))))) answer
safe_answers_are_of_safe_texts filter.Sha256 v answer given other = keeps _ v answer
safe_answers_are_of_safe_texts filter.Slugify v answer given other = keeps _ v answer
safe_answers_are_of_safe_texts filter.Spaceless v answer given other = keeps _ v answer
safe_answers_are_of_safe_texts filter.Striptags v answer given other = keeps _ v answer
safe_answers_are_of_safe_texts filter.Title v answer given other = keeps _ v answer
safe_answers_are_of_safe_texts filter.TruncateWords v answer given other =
    of-text v _ (λ g. after g.safe (needed (as_natural (2 ^ 64)) (codes "length") given) _ (λ n. after g.safe (or_default ellipsis (as_bytes plain) (codes "end") given) _ (λ end. unmarked g.safe _))) answer
safe_answers_are_of_safe_texts filter.Upper v answer given other = keeps _ v answer
safe_answers_are_of_safe_texts filter.Urlencode v answer given other = keeps _ v answer
safe_answers_are_of_safe_texts filter.UrlencodeStrict v answer given other = keeps _ v answer
