-- What is no text of a template holds no markup, where nothing is marked safe.
use Rattle.std.proofs.Common.{◌≡◌, ℕ, true, IsTrue, List, [], ◌∷◌, Option, Some, None, Result, Ok, refl, ◌∙◌, flat_map}
use Rattle.std.specs.List.{AllByRecursion}
use Rattle.tera_errors.specs.Site.{Text}
use Rattle.tera_errors.specs.Fault.{Fault}
use Rattle.tera_values.specs.Alphabet.{Mark, template, marked_safe, escaped, made, outside, Marked, marking}
use Rattle.tera_meaning.specs.Registry.{Registry}
use Rattle.tera_built_ins.specs.Filters.{filter_named}
use Rattle.tera_built_ins.specs.FunctionTable.{function_named}
use Rattle.tera_state.specs.Engine.{own, own_or_built_in, standard_engine}
use Rattle.tera_meaning.specs.Marks.Sources.{safe_texts, stands_in, Sources, IsAnswered, by_filter, by_function, IsMarkedSafe, in_value, in_answer, by_template, ComesBy, ComesFrom}
use Rattle.tera_meaning.specs.Marks.Renderings.{Rendering, answered_in, sources}
use Rattle.tera_meaning.specs.Marks.Foreign.{foreign, HoldsNoMarkup, HasOwnMarkup, MarksNoneSafe, MarkupIsTheTemplates}
use Rattle.tera_meaning.proofs.Marks.Standing.{answers, refuses, seen-is}
use Rattle.tera_meaning.proofs.Marks.Renderings.{TextStands, rendering-stands}
use Rattle.tera_meaning.proofs.Marks.Coming.{came, came-holds, all-come}

stands-in-none : (b : ℕ) (ts : List Text) → ts ≡ [] → IsTrue (stands_in b ts) → ⊥
stands-in-none b [] e h = cc
stands-in-none b (t ∷ ts) e h = absurd (cc)

module _ (s : Sources) (none_safe : MarksNoneSafe s) where
  never-safe : (b : ℕ) → IsMarkedSafe s b → ⊥
  never-safe b (in_value h) = stands-in-none b (flat_map safe_texts s.values) none_safe.values_are_unsafe h
  never-safe b (in_answer a) = none_safe.answers_are_unsafe b a
  never-safe b (by_template h) = let e = none_safe.none_applies_safe in cc

  foreign-more : (mark : Mark) (b : ℕ) (cs : List Marked) → ComesBy s mark b → HoldsNoMarkup (foreign cs) → HoldsNoMarkup (foreign ((b, mark) ∷ cs))
  foreign-more template b cs h rest = rest
  foreign-more marked_safe b cs h rest = absurd (never-safe b h)
  foreign-more escaped b cs h rest = (h, rest)
  foreign-more made b cs h rest = (h, rest)
  foreign-more outside b cs h rest = absurd h

  foreign-all : (cs : List Marked) → AllByRecursion (ComesFrom s) cs → HoldsNoMarkup (foreign cs)
  foreign-all [] h = tt
  foreign-all (c ∷ cs) h = foreign-more c.1 c.0 cs h.0 (foreign-all cs h.1)

same-text : (t u : Text) → (let x : Result Text Fault = Ok t in x ≡ Ok u) → t ≡ u
same-text t u e = cc

module _ (r : Registry) (call : Rendering) (page : Text) (none_safe : MarksNoneSafe (sources r call)) where
  own-by : {x : Result (List Marked) Fault} {y : Result Text Fault} → TextStands (came (sources r call)) x y → answered_in marking r call ≡ x → y ≡ Ok page → HasOwnMarkup r call page
  own-by (answers {a = marked} {b = t} rs) m e =
      record {
        marked = marked;
        is_meant = m;
        is_page = seen-is true rs ∙ same-text t page e;
        foreign_holds_none = foreign-all (sources r call) none_safe marked (all-come (sources r call) rs);
      }
  own-by (refuses fault) m e = absurd (cc)

pub markup_is_the_templates : MarkupIsTheTemplates
markup_is_the_templates r call page by_html on none_safe e =
    let s = sources r call in
    own-by r call page none_safe (rendering-stands (came s) r call by_html on (came-holds s)) refl e

never-own : {O B : Type 0} (o : O) (b : Option B) → own_or_built_in None b ≡ Some (own o) → ⊥
never-own o None e = cc
never-own o (Some b) e = cc

-- no object of the caller answers anything where none is registered
pub none_answers : (b : ℕ) → IsAnswered standard_engine b → ⊥
none_answers b (by_filter name o v given view e h) = never-own o (filter_named name) e
none_answers b (by_function name o given view e h) = never-own o (function_named name) e
