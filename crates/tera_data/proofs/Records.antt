-- Records that are read one by one are all records, and fields stand under their names.
use Rattle.std.proofs.Common.{◌≡◌, ◌<◌, ◌≤◌, ◌-◌, ◌+◌, ◌==◌, ◌&&◌, ℕ, zero, suc, Bool, true, false, cond, Bor, List, [], ◌∷◌, ◌++◌, length, drop, get_or, Option, Some, None, refl, sym, ap, ◌∙◌, subst, arith, unwrap_or}
use Rattle.std.proofs.lemmas.List.{drop_all, drop_more}
use Rattle.std.specs.Option.{option_map}
use Rattle.csv.specs.Machine.{Read, next_record, step, in_field, start_field, start_record, after_end, ends_with, is_byte, is_end, fields_after, field_after, ends_at_end, line_feed}
use Rattle.csv.specs.Reading.{AreRecords, Reached, default_config, records, records_from, records_next}
use Rattle.csv.specs.Records.{field_at}
use Rattle.csv.specs.declared.parser.Config.{Config}
use Rattle.csv.specs.declared.parser.Terminator.{Terminator}
use Rattle.csv.specs.declared.parser.Terminator.TheVariants as term
use Rattle.csv.specs.declared.parser.State.{State}
use Rattle.csv.specs.declared.parser.State.TheVariants as st
use Rattle.csv.specs.declared.parser.Action.{Action}
use Rattle.tera_value_types.specs.Val.{KeyVal, Val, text}
use Rattle.tera_data.specs.Csv.{under}
use Rattle.tera_data.proofs.Members.{placed}
use Rattle.tera_data.specs.Laws.{FieldsStandUnderNames}

-- a record may begin in this state
abbrev begins : State → Bool
begins st.StartRecord = true
begins st.AfterCr = true
begins other = false

-- where a byte ends a record, the next one may begin
abbrev Ends : State × Action → Type 0
Ends q = is_end q.1 ≡ true → begins q.0 ≡ true

either : (b : Bool) (x y : State × Action) → Ends x → Ends y → Ends (cond b x y)
either true x y h k = h
either false x y h k = k

begins-after_end : (t : Terminator) (c : ℕ) → begins (after_end t c) ≡ true
begins-after_end term.CRLF c = by (c == 13)
  where
    by : (b : Bool) → begins (cond b st.AfterCr st.StartRecord) ≡ true
    by true = refl
    by false = refl
begins-after_end (term.Any t) c = refl

ends-in_field : (cfg : Config) (c : ℕ) → Ends (in_field cfg c)
ends-in_field cfg c =
    either (c == cfg.delimiter) _ _ (λ e. cc e)
    (either (ends_with cfg.terminator c) _ _ (λ e. begins-after_end cfg.terminator c) (λ e. cc e))

ends-start_field : (cfg : Config) (c : ℕ) → Ends (start_field cfg c)
ends-start_field cfg c = either (cfg.quoting && (c == cfg.quote)) _ _ (λ e. cc e) (ends-in_field cfg c)

ends-start_record : (cfg : Config) (c : ℕ) → Ends (start_record cfg c)
ends-start_record cfg c =
    either (ends_with cfg.terminator c) _ _ (λ e. cc e)
    (either (is_byte cfg.comment c) _ _ (λ e. cc e) (ends-start_field cfg c))

ends-step : (cfg : Config) (s : State) (c : ℕ) → Ends (step cfg s c)
ends-step cfg st.StartRecord c = ends-start_record cfg c
ends-step cfg st.StartField c = ends-start_field cfg c
ends-step cfg st.InField c = ends-in_field cfg c
ends-step cfg st.InQuoted c =
    either (cfg.quoting && (c == cfg.quote)) _ _ (λ e. cc e)
    (either (cfg.quoting && is_byte cfg.escape c) _ _ (λ e. cc e) (λ e. cc e))
ends-step cfg st.InEscape c = λ e. cc e
ends-step cfg st.AfterQuote c =
    either (cfg.quoting && cfg.double_quote && (c == cfg.quote)) _ _ (λ e. cc e) (ends-in_field cfg c)
ends-step cfg st.InComment c = either (c == line_feed) _ _ (λ e. cc e) (λ e. cc e)
ends-step cfg st.AfterCr c = either (c == line_feed) _ _ (λ e. cc e) (ends-start_record cfg c)

-- what is left by a record: a state in which one may begin, and less text
abbrev Leaves : List ℕ → Read → Type 0
Leaves xs q = (begins q.1 ≡ true) × (length q.2 ≤ length xs - 1)

leaves : (cfg : Config) (s : State) (f : List (List ℕ)) (p xs : List ℕ) (q : Read) → next_record cfg s f p xs ≡ Some q → Leaves xs q
unfolding next_record
leaves cfg s f p [] q e = by (ends_at_end s) e
  where
    by : (b : Bool) → cond b (Some (f ++ (p ∷ []), st.StartRecord, [])) None ≡ Some q → Leaves [] q
    by true h =
        let same : (f ++ (p ∷ []), st.StartRecord, []) ≡ q = cc h in
        subst (Leaves []) same (refl, omega arith)
    by false h = cc h
leaves cfg s f p (c ∷ rest) q e =
    by (is_end (step cfg s c).1) refl e
    (leaves cfg (step cfg s c).0 (fields_after (step cfg s c).1 f p) (field_after (step cfg s c).1 c p) rest q)
  where
    by : (b : Bool) → is_end (step cfg s c).1 ≡ b
        → cond b (Some (fields_after (step cfg s c).1 f p, (step cfg s c).0, rest))
        (next_record cfg (step cfg s c).0 (fields_after (step cfg s c).1 f p) (field_after (step cfg s c).1 c p) rest) ≡ Some q
        → (next_record cfg (step cfg s c).0 (fields_after (step cfg s c).1 f p) (field_after (step cfg s c).1 c p) rest ≡ Some q → Leaves rest q)
        → Leaves (c ∷ rest) q
    by true t h more =
        let same : (fields_after (step cfg s c).1 f p, (step cfg s c).0, rest) ≡ q = cc h in
        subst (Leaves (c ∷ rest)) same (ends-step cfg s c t, omega arith)
    by false t h more =
        let (b, short) = more h in
        (b, omega arith)

-- no record begins at the end of the text
some_left : (cfg : Config) (s : State) (xs : List ℕ) (q : Read) → begins s ≡ true → next_record cfg s [] [] xs ≡ Some q → 0 < length xs
unfolding next_record
some_left cfg s (c ∷ rest) q b e = omega arith
some_left cfg st.StartRecord [] q b e = cc e
some_left cfg st.AfterCr [] q b e = cc e
some_left cfg st.StartField [] q b e = cc b
some_left cfg st.InField [] q b e = cc b
some_left cfg st.InQuoted [] q b e = cc b
some_left cfg st.AfterQuote [] q b e = cc b
some_left cfg st.InEscape [] q b e = cc b
some_left cfg st.InComment [] q b e = cc b

all_from : (n : ℕ) (cfg : Config) (s : State) (xs : List ℕ) (rows : List (List (List ℕ))) (s2 : State) (ys : List ℕ) → begins s ≡ true → length xs < n
    → Reached cfg s xs rows s2 ys → next_record cfg s2 [] [] ys ≡ None → records_from cfg n s xs ≡ rows
unfolding Reached records_from
all_from zero cfg s xs rows s2 ys b lt h none = absurd (omega arith)
all_from (suc n) cfg s xs [] s2 ys b lt h none =
    let stop : next_record cfg s [] [] xs ≡ None = rw (h.0, h.1) none in
    ap (records_next (records_from cfg n)) stop
all_from (suc n) cfg s xs (r ∷ rs) s2 ys b lt h none =
    let (p, e, er, rest) = h in
    let (pb, short) = leaves cfg s [] [] xs p e in
    let some = some_left cfg s xs p b e in
    let less : length p.2 < n = omega arith in
    ap (records_next (records_from cfg n)) e
    ∙ ap (λ (l : List (List (List ℕ))). p.0 ∷ l) (all_from n cfg p.1 p.2 rs s2 ys pb less rest none)
    ∙ ap (λ (x : List (List ℕ)). x ∷ rs) (sym er)

pub records_all : (xs : List ℕ) (rows : List (List (List ℕ))) → AreRecords default_config st.StartRecord xs rows → records default_config xs ≡ rows
records_all xs rows (s2, ys, reached, none) =
    all_from (length xs + 1) default_config st.StartRecord xs rows s2 ys refl (omega arith) reached none

-- the field at a place, or an empty one
pub field_or : (fields : List (List ℕ)) (i : ℕ) → unwrap_or (field_at fields i) [] ≡ get_or fields i []
unfolding field_at
field_or [] i = refl
field_or (f ∷ fs) zero = refl
field_or (f ∷ fs) (suc i) = field_or fs i

now_or : (o : Option (Bor (List ℕ))) (d : Bor (List ℕ)) → (unwrap_or o d).now ≡ unwrap_or (option_map (λ s. s.now) o) d.now
now_or None d = refl
now_or (Some s) d = refl

pub field_now : (o : Option (Bor (List ℕ))) (d : Bor (List ℕ)) (fields : List (List ℕ)) (i : ℕ) → d.now ≡ []
    → option_map (λ s. s.now) o ≡ field_at fields i → (unwrap_or o d).now ≡ get_or fields i []
field_now o d fields i none h = now_or o d ∙ rw (none, h) (field_or fields i)

-- no name is left, so nothing is put
pub under_none : (all : List (KeyVal × Val)) (names fields : List (List ℕ)) (i : ℕ) → length names ≤ i
    → placed all (under (drop i names) (drop i fields)) ≡ all
under_none all names fields i h = rw (drop_all i names h) refl

-- one name with its field, and those after it
pub under_more : (names fields : List (List ℕ)) (i : ℕ) → length fields ≡ length names → i < length names
    → under (drop i names) (drop i fields) ≡ (get_or names i [], text (get_or fields i []) false) ∷ under (drop (i + 1) names) (drop (i + 1) fields)
under_more names fields i same lt =
    let within : i < length fields = omega arith in
    rw (drop_more names i [] lt, drop_more fields i [] within) refl

pub under_names : FieldsStandUnderNames
under_names [] fields same = refl
under_names (n ∷ names) [] same = absurd (omega (arith, same))
under_names (n ∷ names) (t ∷ fields) same = ap (λ (l : List (List ℕ)). n ∷ l) (under_names names fields (omega arith))
