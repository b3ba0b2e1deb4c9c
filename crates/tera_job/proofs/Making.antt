-- Pages, one after another.
use Rattle.std.proofs.Common.{◌≡◌, Bool, true, false, cond, filter, ℕ, ◌+◌, ◌<◌, List, [], ◌∷◌, ◌++◌, length, take, drop, map, Ok, Err, refl, sym, ap, ◌∙◌, subst}
use Rattle.std.proofs.Math.ListN.{get_or}
use Rattle.std.proofs.lemmas.List.{take_more, drop_more, take-append-drop, get_or-map}
use Rattle.std.specs.Prelude.{String, string_bytes, Some, None}
use Rattle.tera.specs.Site.{Name}
use Rattle.tera.specs.Fault.{Fault}
use Rattle.tera.specs.Answer.{SeenError, SaysOneOf}
use Rattle.tera.specs.Val.{Val}
use Rattle.tera.specs.Named.{Named}
use Rattle.tera.specs.MeaningRegistry.{Registry}
use Rattle.tera_job.specs.Pages.{SeenPage, IsPage, AreMade, StopsAt, PagesOf}

pub made_more : (r : Registry) (context : Named Val) (names : List Name) (pages : List SeenPage) (name : Name) (page : SeenPage) → AreMade r context names pages → IsPage r context name (Ok page) → AreMade r context (names ++ name ∷ []) (pages ++ page ∷ [])
made_more r context [] [] name page h k = (k, tt)
made_more r context [] (q ∷ qs) name page h k = absurd h
made_more r context (n ∷ ns) [] name page h k = absurd h
made_more r context (n ∷ ns) (q ∷ qs) name page h k = (h.0, made_more r context ns qs name page h.1 k)

-- one more
pub made_at : (r : Registry) (context : Named Val) (names : List Name) (i : ℕ) (name : Name) (pages : List SeenPage) (page : SeenPage) → i < length names → get_or names i [] ≡ name → AreMade r context (take i names) pages → IsPage r context name (Ok page) → AreMade r context (take (i + 1) names) (pages ++ page ∷ [])
made_at r context names i name pages page lt at h k =
    subst (λ ns. AreMade r context ns (pages ++ page ∷ [])) (sym (take_more names i [] lt ∙ ap (λ n. take i names ++ n ∷ []) at)) (made_more r context (take i names) pages name page h k)

-- the first that fails
pub stops_at : (r : Registry) (context : Named Val) (names : List Name) (i : ℕ) (name : Name) (pages : List SeenPage) (fault : Fault) → i < length names → get_or names i [] ≡ name → AreMade r context (take i names) pages → IsPage r context name (Err fault) → StopsAt r context names fault
stops_at r context names i name pages fault lt at h k = record {
  before = take i names;
  name = name;
  rest = drop (i + 1) names;
  are_all = sym (take-append-drop i names) ∙ ap (λ (rest : List Name). take i names ++ rest) (drop_more names i [] lt) ∙ ap (λ n. take i names ++ n ∷ drop (i + 1) names) at;
  pages = pages;
  made = h;
  stops = k;
}

pub error_at : (r : Registry) (context : Named Val) (names : List Name) (i : ℕ) (name : Name) (pages : List SeenPage) (e : SeenError) → i < length names → get_or names i [] ≡ name → AreMade r context (take i names) pages → SaysOneOf e (IsPage r context name) → SaysOneOf e (PagesOf r context names)
error_at r context names i name pages None lt at h k = tt
error_at r context names i name pages (Some fault) lt at h k = stops_at r context names i name pages fault lt at h k

-- a name at its place
pub name_at : {Z : Type 0} (names : List (String Z)) (i : ℕ) (name : String Z) → i < length names → get_or names i name ≡ name → get_or (map string_bytes names) i [] ≡ string_bytes name
name_at names i name lt at = get_or-map string_bytes names i name [] lt ∙ ap string_bytes at

-- what a test of their bytes leaves of texts
pub filter_bytes : {Z : Type 0} (test : Name → Bool) (names : List (String Z)) → map string_bytes (filter (λ name. test (string_bytes name)) names) ≡ filter test (map string_bytes names)
filter_bytes test [] = refl
filter_bytes test (n ∷ ns) = by (test (string_bytes n)) (filter_bytes test ns)
  where
    by : (b : Bool) → map string_bytes (filter (λ name. test (string_bytes name)) ns) ≡ filter test (map string_bytes ns)
        → map string_bytes (cond b (n ∷ filter (λ name. test (string_bytes name)) ns) (filter (λ name. test (string_bytes name)) ns)) ≡ cond b (string_bytes n ∷ filter test (map string_bytes ns)) (filter test (map string_bytes ns))
    by true h = ap (λ rest. string_bytes n ∷ rest) h
    by false h = h
