-- Filters in a row: what is read is derived, and what is derived is read.
use Rattle.std.proofs.Common.{◌≡◌, ℕ, zero, suc, ◌+◌, ◌<◌, ◌≤◌, max, true, nat_lt, Some, refl, sym, ◌∙◌, ap, subst, arith}
use Rattle.std.proofs.lemmas.Grind.{common_steps}
use Rattle.tera_syntax_tree.specs.Tree.{Arguments, Filters, NoFilters, MoreFilters}
use Rattle.tera_syntax_tree.specs.Depth.{arguments_depth, filters_depth}
use Rattle.tera_syntax_tokens.specs.declared.token.Kind.TheVariants as k
use Rattle.tera_syntax_tokens.specs.Input.{Input, Parser, and_then, same, kind, start, text, next, left, span, is_word}
use Rattle.tera_syntax_expressions.specs.Grammar.{DerivesGiven, DerivesFilters, last_filter, more_filters}
use Rattle.tera_syntax_expressions.specs.Expressions as r
use Rattle.tera_syntax_expressions.specs.Expressions.{Deep, expr, join_filters, one_filter}
use Rattle.tera_syntax_expressions.proofs.Steps.{and_then-some, guard, chosen, same-is, some-pair, either}
use Rattle.tera_syntax_expressions.proofs.Extent.{token, word-left, shorter-given}
use Rattle.tera_syntax_expressions.proofs.ArgumentRows.{Reads}
use Rattle.tera_syntax_expressions.proofs.Passing.{given-got}
use Rattle.tera_syntax_expressions.proofs.FilterRows.{join-filters, sifted, sifted-last, sifted-more, filter-last, filter-more}
use Rattle.tera_syntax_expressions.proofs.Sound.{what_is_read}
use Rattle.tera_syntax_expressions.proofs.Complete.{goes-given}

-- one filter, behind those that were found
record GotOne (limit : ℕ) (found : Filters) (i : Input) (z : Filters × ℕ) (j : Input) : Type 0 where
  all : Arguments
  word : is_word (kind i) ≡ true
  derived : DerivesGiven all (next i) j
  joined : z.0 ≡ join_filters found (one_filter (text i) all (span (start i) j))
  deep : z.1 ≡ suc (arguments_depth all)
  fits : suc (arguments_depth all) ≤ limit

-- filters behind those that were found
record GotFilters (limit : ℕ) (found : Filters) (d : ℕ) (i : Input) (z : Filters × ℕ) (j : Input) : Type 0 where
  filters : Filters
  derived : DerivesFilters filters i j
  joined : z.0 ≡ join_filters found filters
  deep : z.1 ≡ max d (filters_depth filters)
  fits : filters_depth filters ≤ limit

module _ (limit : ℕ) (part : ℕ → Parser Deep) (reads : Reads part) where
  one-got : (found : Filters) (i j : Input) (z : Filters × ℕ) → r.section_filter limit part found i ≡ Some (z, j) → GotOne limit found i z j
  unfolding r.section_filter
  one-got found i j z h =
      let g = guard (is_word (kind i)) (and_then (r.optional_arguments limit part (next i)) (r.filter_of limit part found (text i) (start i))) (z, j) h in
      let q = and_then-some (r.optional_arguments limit part (next i)) (r.filter_of limit part found (text i) (start i)) (z, j) g.1 in
      let w = given-got limit part reads (next i) q.1 q.0 q.2 in
      let made : Filters × ℕ = (join_filters found (one_filter (text i) q.0.0 (span (start i) q.1)), q.0.1 + 1) in
      let u = guard (nat_lt q.0.1 limit) (Some (made, q.1)) (z, j) q.3 in
      let s = some-pair (made, q.1) (z, j) u.1 in
      let lt : q.0.1 < limit = grind (arith, common_steps, u.0) in
      let e = w.1 in
      let first : GotOne limit found i made q.1 = record { all = q.0.0; word = g.0; derived = w.0; joined = refl; deep = omega (arith, e); fits = omega (arith, e, lt) } in
      subst (λ z. GotOne limit found i z j) s.0 (subst (λ j. GotOne limit found i made j) s.1 first)

  last-got : (found : Filters) (d : ℕ) (i j : Input) (z : Filters × ℕ) → GotOne limit found i z j → GotFilters limit found d i (z.0, max d z.1) j
  last-got found d i j z w =
      let e = w.deep in let f = w.fits in
      record { filters = MoreFilters (text i) w.all (span (start i) j) NoFilters; derived = last_filter w.word w.derived; joined = w.joined; deep = omega (arith, e); fits = omega (arith, f) }

  more-got : (found : Filters) (d : ℕ) (i a j : Input) (y z : Filters × ℕ) → GotOne limit found i y a → kind a ≡ k.Bar → GotFilters limit y.0 (max d y.1) (next a) z j → GotFilters limit found d i z j
  more-got found d i a j y z w h v =
      let e = w.deep in let f = w.fits in let g = v.deep in let l = v.fits in
      record {
        filters = MoreFilters (text i) w.all (span (start i) a) v.filters;
        derived = more_filters w.word w.derived h v.derived;
        joined = v.joined ∙ ap (λ f. join_filters f v.filters) w.joined ∙ join-filters found (one_filter (text i) w.all (span (start i) a)) v.filters;
        deep = omega (arith, e, g);
        fits = omega (arith, f, l);
      }

  filters-got : (n : ℕ) (found : Filters) (d : ℕ) (i j : Input) (z : Filters × ℕ) → r.filters_from limit part n found d i ≡ Some (z, j) → GotFilters limit found d i z j
  unfolding r.filters_from
  filters-got zero found d i j z h = cc
  filters-got (suc n) found d i j z h =
      let t = and_then-some (r.section_filter limit part found i) (r.behind_filter limit part (r.filters_from limit part n) d) (z, j) h in
      let w = one-got found i t.1 t.0 t.2 in
      either (chosen (same k.Bar (kind t.1)) (r.filters_from limit part n t.0.0 (max d t.0.1) (next t.1)) (Some ((t.0.0, max d t.0.1), t.1)) (Some (z, j)) t.3)
      (λ q. more-got found d i t.1 j t.0 z w (same-is k.Bar (kind t.1) q.0) (filters-got n t.0.0 (max d t.0.1) (next t.1) j z q.1))
      (λ q. let s = some-pair ((t.0.0, max d t.0.1), t.1) (z, j) q.1 in
      subst (λ z. GotFilters limit found d i z j) s.0 (subst (λ j. GotFilters limit found d i (t.0.0, max d t.0.1) j) s.1 (last-got found d i t.1 t.0 w)))

pub reads-expr : (b : ℕ) → Reads (expr b)
reads-expr b i j x h = let w = what_is_read b i j x h in (w.0, w.1)

pub filters_are_derived : (b : ℕ) (i j : Input) (z : Filters × ℕ) → r.filters b i ≡ Some (z, j) → DerivesFilters z.0 i j × (z.1 ≡ filters_depth z.0) × (filters_depth z.0 ≤ b)
unfolding r.filters
filters_are_derived zero i j z h = cc
filters_are_derived (suc b) i j z h =
    let w = filters-got (suc b) (expr b) (reads-expr b) (left i) NoFilters 0 i j z h in
    let e : w.filters ≡ z.0 = sym w.joined in
    let d = w.deep in
    let P : Filters → Type 0 = λ fs. DerivesFilters fs i j × (z.1 ≡ filters_depth fs) × (filters_depth fs ≤ suc b) in
    subst P e (w.derived, omega (arith, d), w.fits)

goes-filters : {fs : Filters} {i j : Input} → DerivesFilters fs i j → (kind j ≡ k.Bar → ⊥) → (b n : ℕ) (found : Filters) (d : ℕ) → filters_depth fs ≤ suc b → left i ≤ n
    → r.filters_from (suc b) (expr b) n found d i ≡ sifted (join_filters found fs) (max d (filters_depth fs)) j
goes-filters (last_filter {i = i} h q) e b zero found d le fu = let t1 = word-left i h in absurd (omega arith)
goes-filters (last_filter {all = all} {i = i} {j = j} h q) e b (suc n) found d le fu =
    filter-last (suc b) (expr b) n found d all i j h (goes-given q b (omega arith)) (omega arith) e ∙ sifted-last found (text i) all (span (start i) j) d j
goes-filters (more_filters {i = i} h q g u) e b zero found d le fu = let t1 = word-left i h in absurd (omega arith)
goes-filters (more_filters {all = all} {fs = fs} {i = i} {a = a} {j = j} h q g u) e b (suc n) found d le fu =
    let t1 = word-left i h in let t2 = token k.Bar a g (λ e. cc) in let s1 = shorter-given q in
    let at = span (start i) a in
    filter-more (suc b) (expr b) n found d all i a h (goes-given q b (omega arith)) (omega arith) g
    ∙ goes-filters u e b n (join_filters found (one_filter (text i) all at)) (max d (arguments_depth all + 1)) (omega arith) (omega arith)
    ∙ sifted-more found (text i) all at fs d j

-- there is one filter at least
some-filter : {fs : Filters} {i j : Input} → DerivesFilters fs i j → 0 < filters_depth fs
some-filter (last_filter h q) = omega arith
some-filter (more_filters h q g u) = omega arith

-- What is derived is read, where nothing follows.
pub filters_are_read : (fs : Filters) (i j : Input) → DerivesFilters fs i j → kind j ≡ k.End → (b : ℕ) → filters_depth fs ≤ b → r.filters b i ≡ Some ((fs, filters_depth fs), j)
unfolding r.filters
filters_are_read fs i j d h zero le = let e = some-filter d in absurd (omega arith)
filters_are_read fs i j d h (suc b) le =
    let e : max 0 (filters_depth fs) ≡ filters_depth fs = omega arith in
    goes-filters d (λ p. let f : k.End ≡ k.Bar = sym h ∙ p in cc) b (left i) NoFilters 0 le (omega arith) ∙ ap (λ m. sifted fs m j) e
