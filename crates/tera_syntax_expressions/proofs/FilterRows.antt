-- Filters in a row, one behind another, and the rounds of the loop that reads them.
use Rattle.std.proofs.Common.{◌≡◌, ℕ, suc, ◌+◌, ◌-◌, ◌<◌, ◌≤◌, max, List, [], ◌∷◌, ◌++◌, true, false, nat_lt, Option, Some, refl, sym, ◌∙◌, ap, ap₂, arith}
use Rattle.std.proofs.lemmas.Grind.{common_steps}
use Rattle.tera_syntax_tree.specs.declared.node.SectionFilter.{SectionFilter}
use Rattle.tera_errors.specs.Site.{Name}
use Rattle.tera_errors.specs.declared.span.Span.{Span}
use Rattle.tera_syntax_tree.specs.Tree.{Arguments, Filters, NoFilters, MoreFilters}
use Rattle.tera_syntax_tree.specs.Depth.{arguments_depth, filters_depth}
use Rattle.tera_syntax_tree.specs.View.{arguments_of, filters_of}
use Rattle.tera_syntax_tokens.specs.declared.token.Kind.TheVariants.{Bar}
use Rattle.tera_syntax_tokens.specs.Input.{Input, Parsed, Parser, and_then, kind, text, start, next, same, span, is_word}
use Rattle.tera_syntax_expressions.specs.Expressions as r
use Rattle.tera_syntax_expressions.specs.Expressions.{Deep, join_filters, one_filter}
use Rattle.tera_syntax_expressions.proofs.Steps.{unlike, alike}
use Rattle.tera_syntax_expressions.proofs.Rounds.{one_more}

pub filters_of-push : (all : List SectionFilter) (f : SectionFilter) → filters_of (all ++ f ∷ []) ≡ join_filters (filters_of all) (one_filter f.name.now (arguments_of f.arguments.items) f.span)
filters_of-push [] f = refl
filters_of-push (g ∷ all) f = ap (MoreFilters g.name.now (arguments_of g.arguments.items) g.span) (filters_of-push all f)

pub join-no-filters : (fs : Filters) → join_filters fs NoFilters ≡ fs
join-no-filters NoFilters = refl
join-no-filters (MoreFilters n all at rest) = ap (MoreFilters n all at) (join-no-filters rest)

pub join-filters : (fs gs hs : Filters) → join_filters (join_filters fs gs) hs ≡ join_filters fs (join_filters gs hs)
join-filters NoFilters gs hs = refl
join-filters (MoreFilters n all at rest) gs hs = ap (MoreFilters n all at) (join-filters rest gs hs)

abbrev pub sifted : Filters → ℕ → Input → Option ((Filters × ℕ) × Input)
sifted fs d j = Some ((fs, d), j)

pub sifted-last : (found : Filters) (n : Name) (all : Arguments) (at : Span) (d : ℕ) (j : Input)
    → sifted (join_filters found (one_filter n all at)) (max d (arguments_depth all + 1)) j ≡ sifted (join_filters found (MoreFilters n all at NoFilters)) (max d (filters_depth (MoreFilters n all at NoFilters))) j
sifted-last found n all at d j =
    let e : max d (arguments_depth all + 1) ≡ max d (max (suc (arguments_depth all)) 0) = omega arith in
    ap (λ m. sifted (join_filters found (one_filter n all at)) m j) e

pub sifted-more : (found : Filters) (n : Name) (all : Arguments) (at : Span) (fs : Filters) (d : ℕ) (j : Input)
    → sifted (join_filters (join_filters found (one_filter n all at)) fs) (max (max d (arguments_depth all + 1)) (filters_depth fs)) j ≡ sifted (join_filters found (MoreFilters n all at fs)) (max d (filters_depth (MoreFilters n all at fs))) j
sifted-more found n all at fs d j =
    let e : max (max d (arguments_depth all + 1)) (filters_depth fs) ≡ max d (max (suc (arguments_depth all)) (filters_depth fs)) = omega arith in
    ap (λ f. sifted f (max (max d (arguments_depth all + 1)) (filters_depth fs)) j) (join-filters found (one_filter n all at) fs)
    ∙ ap (λ m. sifted (join_filters found (MoreFilters n all at fs)) m j) e

module _ (limit : ℕ) (sub : ℕ → Parser Deep) where
  pub filter_read : (found : Filters) (i j : Input) (g : Arguments × ℕ) → is_word (kind i) ≡ true → r.optional_arguments limit sub (next i) ≡ Some (g, j) → g.1 < limit
      → r.section_filter limit sub found i ≡ Some ((join_filters found (one_filter (text i) g.0 (span (start i) j)), g.1 + 1), j)
  unfolding r.section_filter
  filter_read found i j g h e lt = let t : nat_lt g.1 limit ≡ true = grind (arith, common_steps) in rw (h, e, t) refl

  abbrev pub filters_behind : ℕ → ℕ → Filters × ℕ → Parser (Filters × ℕ)
  filters_behind n d p = r.behind_filter limit sub (r.filters_from limit sub n) d p

  pub filters_next : (n : ℕ) (found : Filters) (d : ℕ) (i : Input) → r.filters_from limit sub (suc n) found d i ≡ and_then (r.section_filter limit sub found i) (filters_behind n d)
  unfolding r.filters_from
  filters_next n found d i = refl

  pub filters_bar : (n d : ℕ) (p : Filters × ℕ) (j : Input) → same Bar (kind j) ≡ true → filters_behind n d p j ≡ r.filters_from limit sub n p.0 (max d p.1) (next j)
  filters_bar n d p j h = rw h refl

  pub filters_end : (n d : ℕ) (p : Filters × ℕ) (j : Input) → same Bar (kind j) ≡ false → filters_behind n d p j ≡ Some ((p.0, max d p.1), j)
  filters_end n d p j h = rw h refl

  -- a round of the loop: a filter, the bar behind it, and no bar
  module _ {meant : Parsed (Filters × ℕ)} (n at : ℕ) (found : Filters) (d : ℕ) (i : Input) (lt : at < n) (round : meant ≡ r.filters_from limit sub (n - at) found d i) where
    pub filters_round : {o : Parsed (Filters × ℕ)} → r.section_filter limit sub found i ≡ o → meant ≡ and_then o (filters_behind (n - (at + 1)) d)
    filters_round e = one_more (λ n. r.filters_from limit sub n found d i) n at lt round ∙ filters_next (n - (at + 1)) found d i ∙ ap (λ o. and_then o (filters_behind (n - (at + 1)) d)) e

    pub filters_more : {all : Filters} {b : ℕ} {j : Input} → r.section_filter limit sub found i ≡ Some ((all, b), j) → same Bar (kind j) ≡ true → {most : ℕ} → most ≡ max d b → {a : Input} → a ≡ next j
        → meant ≡ r.filters_from limit sub (n - (at + 1)) all most a
    filters_more {all = all} {b = b} {j = j} e h f g = filters_round e ∙ filters_bar (n - (at + 1)) d (all, b) j h ∙ ap₂ (r.filters_from limit sub (n - (at + 1)) all) (sym f) (sym g)

    pub filters_over : {all : Filters} {b : ℕ} {j : Input} → r.section_filter limit sub found i ≡ Some ((all, b), j) → same Bar (kind j) ≡ false → {most : ℕ} → most ≡ max d b → meant ≡ Some ((all, most), j)
    filters_over {all = all} {b = b} {j = j} e h f = filters_round e ∙ filters_end (n - (at + 1)) d (all, b) j h ∙ ap (λ m. Some ((all, m), j)) (sym f)

  -- what is derived is read: the last filter, and one with more behind it
  pub filter-last : (n : ℕ) (found : Filters) (d : ℕ) (all : Arguments) (i j : Input) → is_word (kind i) ≡ true → r.optional_arguments limit sub (next i) ≡ Some ((all, arguments_depth all), j) → suc (arguments_depth all) ≤ limit
      → (kind j ≡ Bar → ⊥) → r.filters_from limit sub (suc n) found d i ≡ sifted (join_filters found (one_filter (text i) all (span (start i) j))) (max d (arguments_depth all + 1)) j
  filter-last n found d all i j h e le f =
      filters_next n found d i ∙ ap (λ o. and_then o (filters_behind n d)) (filter_read found i j (all, arguments_depth all) h e (omega arith))
      ∙ filters_end n d (join_filters found (one_filter (text i) all (span (start i) j)), arguments_depth all + 1) j (unlike Bar (kind j) f)

  pub filter-more : (n : ℕ) (found : Filters) (d : ℕ) (all : Arguments) (i j : Input) → is_word (kind i) ≡ true → r.optional_arguments limit sub (next i) ≡ Some ((all, arguments_depth all), j) → suc (arguments_depth all) ≤ limit
      → kind j ≡ Bar → r.filters_from limit sub (suc n) found d i ≡ r.filters_from limit sub n (join_filters found (one_filter (text i) all (span (start i) j))) (max d (arguments_depth all + 1)) (next j)
  filter-more n found d all i j h e le f =
      filters_next n found d i ∙ ap (λ o. and_then o (filters_behind n d)) (filter_read found i j (all, arguments_depth all) h e (omega arith))
      ∙ filters_bar n d (join_filters found (one_filter (text i) all (span (start i) j)), arguments_depth all + 1) j (alike Bar (kind j) f)
