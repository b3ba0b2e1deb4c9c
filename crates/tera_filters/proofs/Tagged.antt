-- What std's searches say of the tags of a text, and of the white space between them.
use Rattle.std.proofs.Common.{◌≡◌, ◌≢◌, ℕ, zero, suc, ◌+◌, ◌<◌, ◌≤◌, Bool, true, false, cond, if◌then◌else◌, List, [], ◌∷◌, ◌++◌, length, take, drop, codes, refl, sym, ap, ◌∙◌, Option, Some, None, option_map, unwrap_or, arith, drop-drop}
use Rattle.std.specs.Char.{is_ascii_whitespace}
use Rattle.std.specs.List.{prefix_len}
use Rattle.std.specs.Str.{IsTrimAsciiStart, IsAsciiWhitespaceBelow}
use Rattle.std.specs.Str.Pattern.{FindsText, FindsTextPrefix, LacksTextAt, SplitsAroundMatch, StripsPrefix, HasPrefixMatch}
use Rattle.std.specs.Prelude.{slice_index}
use Rattle.std.proofs.lemmas.List.{take-append-drop}
use Rattle.std.proofs.lemmas.Option.{same_Some}
use Rattle.tera_built_ins.specs.Pieces.{begins}
use Rattle.tera_built_ins.proofs.Trimming.{byte, begins-own, lacks}
use Rattle.tera_built_ins.proofs.Replacing.{Parted, parted, cut-parted}
use Rattle.tera_built_ins.proofs.Splitting.{split-found, split-none}
use Rattle.tera_filters.specs.Tags.{through_first, through, starts_with, tag_size, without_tags, stripped, gap_size, without_gaps, compact}

-- ---- what stands behind a pattern

through-two : (long : ℕ) (front : List ℕ) {ts : List (List ℕ)} → Parted ts → through_first long (front ∷ ts) ≡ Some (length front + long)
through-two long front (parted u us) = refl

pub behind-found : (pat s front back : List ℕ) → pat ≢ [] → SplitsAroundMatch (FindsText pat) s front back → Some back ≡ option_map (λ n. drop n s) (through pat s)
behind-found [] s front back h f = absurd (h refl)
behind-found (p ∷ ps) s front back h (i, j, f, e, g, within, at, total) =
    let cut = split-found (p ∷ ps) s front back h (i, j, f, e, g, within, at, total) in
    let two = through-two (length (p ∷ ps)) front (cut-parted p ps 0 back) in
    let ends : j ≡ length front + length (p ∷ ps) = omega (arith, f.1.ends, at) in
    let size : through (p ∷ ps) s ≡ Some (length front + length (p ∷ ps)) = ap (through_first (length (p ∷ ps))) cut ∙ two in
    ap Some (g ∙ ap (λ n. drop n s) ends) ∙ sym (ap (option_map (λ n. drop n s)) size)

pub behind-none : (pat s : List ℕ) → pat ≢ [] → FindsText pat s None → None ≡ option_map (λ n. drop n s) (through pat s)
behind-none pat s h f = sym (ap (λ ts. option_map (λ n. drop n s) (through_first (length pat) ts)) (split-none pat s h f))

-- ---- what stands behind a tag

shift : (t : List ℕ) (o : Option ℕ) → option_map (λ n. drop n (drop 3 t)) o ≡ option_map (λ n. drop n t) (option_map (λ n. 3 + n) o)
shift t None = refl
shift t (Some n) = ap Some (drop-drop n 3 t)

-- whether a text begins with a pattern, as `strip_prefix` and `starts_with` of std say it
pub begins-some : (pat t : List ℕ) (n : ℕ) → FindsTextPrefix pat t (Some n) → starts_with pat t ≡ true
begins-some pat t n f = ap (starts_with pat) f.1 ∙ begins-own pat (drop n t)

size-of : (t : List ℕ) (b : Bool) → starts_with (codes "!--") t ≡ b → tag_size t ≡ (if b then option_map (λ n. 3 + n) (through (codes "-->") (drop 3 t)) else through (codes ">") t)
size-of t b e = ap (λ (q : Bool). if q then option_map (λ n. 3 + n) (through (codes "-->") (drop 3 t)) else through (codes ">") t) e

pub behind-comment : (t comment : List ℕ) (r : Option (List ℕ)) → StripsPrefix (FindsTextPrefix (codes "!--")) t comment → r ≡ option_map (λ n. drop n comment) (through (codes "-->") comment) → r ≡ option_map (λ n. drop n t) (tag_size t)
behind-comment t comment r (n, f, e, l) h =
    let same : comment ≡ drop 3 t = e ∙ ap (λ k. drop k t) f.0 in
    h ∙ ap (λ d. option_map (λ n. drop n d) (through (codes "-->") d)) same ∙ shift t (through (codes "-->") (drop 3 t))
    ∙ ap (option_map (λ n. drop n t)) (sym (size-of t true (begins-some (codes "!--") t n f)))

pub behind-other : (t : List ℕ) (r : Option (List ℕ)) → FindsTextPrefix (codes "!--") t None → r ≡ option_map (λ n. drop n t) (through (codes ">") t) → r ≡ option_map (λ n. drop n t) (tag_size t)
behind-other t r f h = h ∙ ap (option_map (λ n. drop n t)) (sym (size-of t false (lacks 33 (45 ∷ 45 ∷ []) t f)))

-- ---- a text up to the first place of a sign, where all before it stays

module _ (make : List ℕ → List ℕ) (sign : ℕ) (empty : make [] ≡ []) (stays : (c : ℕ) (t : List ℕ) → begins byte (sign ∷ []) (c ∷ t) ≡ false → make (c ∷ t) ≡ c ∷ make t) where
  up-to : (a : ℕ) (t : List ℕ) → ((i : ℕ) → i < a → LacksTextAt (sign ∷ []) t i) → make t ≡ take a t ++ make (drop a t)
  up-to zero t h = refl
  up-to (suc a) [] h = refl
  up-to (suc a) (c ∷ t) h =
      stays c t (lacks sign [] (c ∷ t) (h 0 (omega arith))) ∙ ap (λ q. c ∷ q) (up-to a t (λ i j. h (suc i) (omega (arith, j))))

  nowhere : (t : List ℕ) → ((i : ℕ) → i ≤ length t → LacksTextAt (sign ∷ []) t i) → make t ≡ t
  nowhere [] h = empty
  nowhere (c ∷ t) h =
      stays c t (lacks sign [] (c ∷ t) (h 0 (omega arith))) ∙ ap (λ q. c ∷ q) (nowhere t (λ i j. h (suc i) (omega (arith, j))))

-- ---- tags

tag-stays : (c : ℕ) (t : List ℕ) → begins byte (60 ∷ []) (c ∷ t) ≡ false → stripped (c ∷ t) ≡ c ∷ stripped t
tag-stays c t h = ap (λ (b : Bool). cond b (unwrap_or (option_map (λ n. without_tags n t) (tag_size t)) (c ∷ t)) (c ∷ without_tags zero t)) h

past-tag : (n : ℕ) (t : List ℕ) → without_tags n t ≡ stripped (drop n t)
past-tag zero t = refl
past-tag (suc n) [] = refl
past-tag (suc n) (c ∷ t) = past-tag n t

closed : (o : Option ℕ) (tag rest : List ℕ) → Some rest ≡ option_map (λ n. drop n tag) o → unwrap_or (option_map (λ n. without_tags n tag) o) (60 ∷ tag) ≡ stripped rest
closed None tag rest h = cc
closed (Some n) tag rest h = past-tag n tag ∙ ap stripped (sym (same_Some rest (drop n tag) h))

unclosed : (o : Option ℕ) (tag : List ℕ) → None ≡ option_map (λ n. drop n tag) o → unwrap_or (option_map (λ n. without_tags n tag) o) (60 ∷ tag) ≡ 60 ∷ tag
unclosed None tag h = refl
unclosed (Some n) tag h = cc

-- a text up to its first `<`, and what becomes of it from there on
at-tag : (s before tag : List ℕ) → SplitsAroundMatch (FindsText (codes "<")) s before tag → (s ≡ before ++ (60 ∷ tag)) × (stripped s ≡ before ++ unwrap_or (option_map (λ n. without_tags n tag) (tag_size tag)) (60 ∷ tag))
at-tag s before tag (i, j, f, e, g, within, at, total) =
    let here : drop i s ≡ 60 ∷ tag = f.1.split ∙ ap (λ t. 60 ∷ t) (sym g) in (
      sym (take-append-drop i s) ∙ ap (λ t. take i s ++ t) here ∙ ap (λ t. t ++ (60 ∷ tag)) (sym e),
      up-to stripped 60 refl tag-stays i s f.0 ∙ ap (λ t. take i s ++ stripped t) here
          ∙ ap (λ t. t ++ unwrap_or (option_map (λ n. without_tags n tag) (tag_size tag)) (60 ∷ tag)) (sym e),
    )

pub tag-closed : (s before tag rest : List ℕ) → SplitsAroundMatch (FindsText (codes "<")) s before tag → Some rest ≡ option_map (λ n. drop n tag) (tag_size tag) → stripped s ≡ before ++ stripped rest
tag-closed s before tag rest f h = (at-tag s before tag f).1 ∙ ap (λ t. before ++ t) (closed (tag_size tag) tag rest h)

pub tag-unclosed : (s before tag : List ℕ) → SplitsAroundMatch (FindsText (codes "<")) s before tag → None ≡ option_map (λ n. drop n tag) (tag_size tag) → stripped s ≡ s
tag-unclosed s before tag f h =
    let parts = at-tag s before tag f in
    parts.1 ∙ ap (λ t. before ++ t) (unclosed (tag_size tag) tag h) ∙ sym parts.0

pub no-tag : (s : List ℕ) → FindsText (codes "<") s None → stripped s ≡ s
no-tag s f = nowhere stripped 60 refl tag-stays s f

-- ---- white space between tags

blank-is : (s : List ℕ) (n : ℕ) → n ≤ length s → IsAsciiWhitespaceBelow s n → (n < length s → is_ascii_whitespace (slice_index s n) ≡ false) → prefix_len is_ascii_whitespace s ≡ n
blank-is [] n le below stop = omega arith
blank-is (c ∷ s) zero le below stop = ap (λ (b : Bool). cond b (1 + prefix_len is_ascii_whitespace s) 0) (stop (omega arith))
blank-is (c ∷ s) (suc n) le below stop =
    let more = blank-is s n (omega arith) (λ i h. below (suc i) (omega (arith, h))) (λ h. stop (omega (arith, h))) in
    ap (λ (b : Bool). cond b (1 + prefix_len is_ascii_whitespace s) 0) (below 0 (omega arith)) ∙ omega (arith, more)

module _ (t r : List ℕ) (trim : IsTrimAsciiStart t r) where
  size-if : (b : Bool) → starts_with (codes "<") r ≡ b → gap_size t ≡ (if b then trim.0 else 0)
  size-if b h =
      let size : prefix_len is_ascii_whitespace t ≡ trim.0 = blank-is t trim.0 (omega (arith, trim.2)) trim.3 trim.4 in
      ap (λ (k : ℕ). if starts_with (codes "<") (drop k t) then k else 0) size
      ∙ ap (λ (b : Bool). if b then trim.0 else 0) (ap (starts_with (codes "<")) (sym trim.1) ∙ h)

  pub gap-some : HasPrefixMatch (FindsTextPrefix (codes "<")) r → r ≡ drop (gap_size t) t
  gap-some (n, f, at) = trim.1 ∙ ap (λ k. drop k t) (sym (size-if true (begins-some (codes "<") r n f)))

  pub gap-none : FindsTextPrefix (codes "<") r None → t ≡ drop (gap_size t) t
  gap-none f = ap (λ k. drop k t) (sym (size-if false (lacks 60 [] r f)))

gap-stays : (c : ℕ) (t : List ℕ) → begins byte (62 ∷ []) (c ∷ t) ≡ false → compact (c ∷ t) ≡ c ∷ compact t
gap-stays c t h = ap (λ (b : Bool). c ∷ without_gaps (if b then gap_size t else 0) t) h

past-gap : (n : ℕ) (t : List ℕ) → without_gaps n t ≡ compact (drop n t)
past-gap zero t = refl
past-gap (suc n) [] = refl
past-gap (suc n) (c ∷ t) = past-gap n t

pub gap-goes : (s before behind rest : List ℕ) → SplitsAroundMatch (FindsText (codes ">")) s before behind → rest ≡ drop (gap_size behind) behind → compact s ≡ before ++ (62 ∷ compact rest)
gap-goes s before behind rest (i, j, f, e, g, within, at, total) h =
    let here : drop i s ≡ 62 ∷ behind = f.1.split ∙ ap (λ t. 62 ∷ t) (sym g) in
    up-to compact 62 refl gap-stays i s f.0 ∙ ap (λ t. take i s ++ compact t) here
    ∙ ap (λ t. take i s ++ (62 ∷ t)) (past-gap (gap_size behind) behind ∙ ap compact (sym h))
    ∙ ap (λ t. t ++ (62 ∷ compact rest)) (sym e)

pub no-gap : (s : List ℕ) → FindsText (codes ">") s None → compact s ≡ s
no-gap s f = nowhere compact 62 refl gap-stays s f
