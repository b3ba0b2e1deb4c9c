-- The names that filters of the caller took.
use mathlib.Core.Path.{fun_ext}
use Rattle.std.proofs.Common.{◌≡◌, Bool, true, false, ◌||◌, ◌&&◌, not, is_some, List, [], ◌∷◌, ◌++◌, Option, Some, None, option_map, refl, sym, ap, ◌∙◌, cond, if◌then◌else◌, ℕ, take, Result, Ok, Err, OnOk, OnErr}
use Rattle.std.specs.List.{list_any}
use Rattle.std.specs.Str.{bytes_eq}
use Rattle.std.specs.Cmp.Lexicographic.{bytes_decides}
use Rattle.tera_errors.specs.Site.{Name}
use Rattle.tera_values.specs.Named.{Named, at_name, put}
use Rattle.tera_values.proofs.Named.{at_put}
use Rattle.tera_built_ins.specs.declared.built_in_filter.BuiltInFilter.{BuiltInFilter}
use Rattle.tera_built_ins.specs.Filters.{filter_named}
use Rattle.tera_state.specs.View.{filters_left}
use Rattle.tera_state.specs.Engine.{built_in_unless}
use Rattle.tera_state.specs.Kept.{each}
use Rattle.tera_state.specs.Table.{more, moved}
use Rattle.tera_state.specs.Taken.{AreTaken}
use Rattle.tera_state.proofs.Each.{at-each}

any-last : (test : Name → Bool) (ns : List Name) (n : Name) → list_any test (ns ++ n ∷ []) ≡ (test n || list_any test ns)
any-last test [] n = refl
any-last test (m ∷ ns) n = ap (λ (b : Bool). test m || b) (any-last test ns n) ∙ swap (test m) (test n) (list_any test ns)
  where
    swap : (a b c : Bool) → (a || (b || c)) ≡ (b || (a || c))
    swap true true c = refl
    swap true false c = refl
    swap false true c = refl
    swap false false c = refl

stands : (known there : Bool) → known ≡ true → (known && not there) ≡ false → true ≡ there
stands true true h g = refl
stands true false h g = g
stands false there h g = (let q : false ≡ true = h in cc)

module _ {F : Type 0} where
  some-there : (n m : Name) (f : F) (here : Named F) (b : Bool) → bytes_eq n m ≡ b → is_some (filter_named n) ≡ true → (is_some (filter_named m) && not (is_some (at_name m here))) ≡ false → is_some (cond b (Some f) (at_name n here)) ≡ is_some (at_name n here)
  some-there n m f here true h known none =
      stands (is_some (filter_named n)) (is_some (at_name n here)) known (ap (λ k. is_some (filter_named k) && not (is_some (at_name k here))) ((bytes_decides n m).0 h) ∙ none)
  some-there n m f here false h known none = refl

  -- a filter that takes no name of a built-in one but what is taken
  pub taken-again : (taken : List Name) (here : Named F) (m : Name) (f : F) → (is_some (filter_named m) && not (is_some (at_name m here))) ≡ false → AreTaken taken here → AreTaken taken (put m f here)
  taken-again taken here m f none are n known =
      are n known ∙ sym (ap is_some (at_put n m f here) ∙ some-there n m f here (bytes_eq n m) refl known none)

  some-more : (b c : Bool) (f : F) (o : Option F) → c ≡ is_some o → (b || c) ≡ is_some (cond b (Some f) o)
  some-more true c f o h = refl
  some-more false c f o h = h

  -- a filter at one more name
  pub taken-more : (taken : List Name) (here : Named F) (m : Name) (f : F) → AreTaken taken here → AreTaken (taken ++ m ∷ []) (put m f here)
  taken-more taken here m f are n known =
      any-last (bytes_eq n) taken m
      ∙ some-more (bytes_eq n m) (list_any (bytes_eq n) taken) f (at_name n here) (are n known)
      ∙ sym (ap is_some (at_put n m f here))

  apart : (n m : Name) (f : F) (o : Option F) (b : Bool) → bytes_eq n m ≡ b → is_some (filter_named n) ≡ true → is_some (filter_named m) ≡ false → is_some o ≡ is_some (cond b (Some f) o)
  apart n m f o true h known other =
      let k : is_some (filter_named m) ≡ true = ap (λ k. is_some (filter_named k)) (sym ((bytes_decides n m).0 h)) ∙ known in
      cc
  apart n m f o false h known other = refl

  by-one : (taken : List Name) (here : Named F) (e : Name × F) (s t : Bool) → is_some (filter_named e.0) ≡ s → AreTaken taken here → AreTaken taken (if s || t then here else put e.0 e.1 here)
  by-one taken here e true t h are = are
  by-one taken here e false true h are = are
  by-one taken here e false false h are = λ n known. are n known ∙ apart n e.0 e.1 (at_name n here) (bytes_eq n e.0) refl known h ∙ sym (ap is_some (at_put n e.0 e.1 here))

  -- What is moved has no name of a built-in filter.
  pub taken-moved : (taken : List Name) (here others : Named F) → AreTaken taken here → AreTaken taken (moved (λ n. is_some (filter_named n)) here others)
  taken-moved taken here [] are = are
  taken-moved taken here (e ∷ es) are =
      taken-moved taken (more (λ n. is_some (filter_named n)) here e) es (by-one taken here e (is_some (filter_named e.0)) (is_some (at_name e.0 here)) refl are)

  -- what calls leave
  pub taken-new : (taken new : List Name) (here there : Named F) (n m : Name) (f : F) → new ≡ taken ++ n ∷ [] → n ≡ m → there ≡ put m f here → AreTaken taken here → AreTaken new there
  taken-new taken new here there n m f a b c are = rw (a, b, c) (taken-more taken here m f are)

  pub taken-kept : {T E : Type 0} (taken : List Name) (here there : Named F) (m : Name) (f : F) → (is_some (filter_named m) && not (is_some (at_name m here))) ≡ false → (r : Result T E) → OnOk r (there ≡ put m f here) → OnErr r (there ≡ here) → AreTaken taken here → AreTaken taken there
  taken-kept taken here there m f none (Ok x) done same are = rw done (taken-again taken here m f none are)
  taken-kept taken here there m f none (Err e) done same are = rw same are

  pub taken-from : {T E : Type 0} (taken : List Name) (here others there : Named F) (r : Result T E) → OnOk r (there ≡ moved (λ n. is_some (filter_named n)) here others) → OnErr r ((k : ℕ) × (there ≡ moved (λ n. is_some (filter_named n)) here (take k others))) → AreTaken taken here → AreTaken taken there
  taken-from taken here others there (Ok x) done part are = rw done (taken-moved taken here others are)
  taken-from taken here others there (Err e) done part are = rw part.1 (taken-moved taken here (take part.0 others) are)

  module _ {G : Type 0} (meaning : F → G) where
    left-by : (f : Option BuiltInFilter) (t : Bool) (o : Option F) → (is_some f ≡ true → t ≡ is_some o) → (if t then None else f) ≡ built_in_unless (option_map meaning o) f
    left-by None true (Some x) h = refl
    left-by None false (Some x) h = refl
    left-by None true None h = refl
    left-by None false None h = refl
    left-by (Some b) t (Some x) h = ap (λ (s : Bool). if s then None else Some b) (h refl)
    left-by (Some b) t None h = ap (λ (s : Bool). if s then None else Some b) (h refl)

    left-at : (taken : List Name) (here : Named F) → AreTaken taken here → (n : Name) → filters_left (Some taken) n ≡ built_in_unless (at_name n (each meaning here)) (filter_named n)
    left-at taken here are n =
        left-by (filter_named n) (list_any (bytes_eq n) taken) (at_name n here) (are n)
        ∙ ap (λ (o : Option G). built_in_unless o (filter_named n)) (sym (at-each meaning n here))

    -- the built-in filters that are left
    pub left : (taken : List Name) (here : Named F) → AreTaken taken here → filters_left (Some taken) ≡ (λ n. built_in_unless (at_name n (each meaning here)) (filter_named n))
    left taken here are = fun_ext (left-at taken here are)
