-- Parameters with commas between: the rounds of the loop that reads them.
use Rattle.std.proofs.Common.{◌≡◌, ℕ, suc, ◌+◌, ◌-◌, ◌<◌, List, [], ◌∷◌, ◌++◌, map, true, false, Option, Some, None, refl, sym, ap, ◌∙◌}
use Rattle.tera_errors.specs.Site.{Name}
use Rattle.std.proofs.lemmas.List.{map-append}
use Rattle.tera_syntax_tree.specs.declared.component.Parameter as declared
use Rattle.tera_syntax_tree.specs.Tree.{Parameter}
use Rattle.tera_syntax_tree.specs.View.{parameter_of}
use Rattle.tera_syntax_tokens.specs.declared.token.Kind.TheVariants.{Spread, Comma}
use Rattle.tera_syntax_tokens.specs.Input.{Input, Parsed, Parser, and_then, kind, next, same}
use Rattle.tera_syntax_expressions.specs.Headings.{name}
use Rattle.tera_syntax_expressions.specs.Parameters.{parameter, with_parameter, rest_name, behind_parameter, parameters_from}
use Rattle.tera_syntax_expressions.proofs.Rounds.{one_more}

pub rest_named : (found : List Parameter) (i j : Input) (n : Name) → name i ≡ Some (n, j) → rest_name found i ≡ Some ((found, Some n), j)
unfolding rest_name
rest_named found i j n h = rw h refl

module _ (limit : ℕ) where
  -- a parameter behind those that were found: none, and one that was read
  pub with_none : (found : List Parameter) (i : Input) → parameter limit i ≡ None → with_parameter limit found i ≡ None
  unfolding with_parameter
  with_none found i h = rw h refl

  pub with_read : (found : List declared.Parameter) (p : declared.Parameter) (i : Input) {j : Input} → parameter limit i ≡ Some (parameter_of p, j) → {all : List declared.Parameter} → all ≡ found ++ p ∷ []
      → with_parameter limit (map parameter_of found) i ≡ Some (map parameter_of all, j)
  unfolding with_parameter
  with_read found p i {j = j} h e = rw h (ap (λ all. Some (all, j)) (sym (ap (map parameter_of) e ∙ map-append parameter_of found (p ∷ []))))

  abbrev pub parameters_behind : ℕ → List Parameter → Parser (List Parameter × Option Name)
  parameters_behind n = behind_parameter (parameters_from limit n)

  pub parameters_rest : (n : ℕ) (found : List Parameter) (i : Input) → same Spread (kind i) ≡ true → parameters_from limit (suc n) found i ≡ rest_name found (next i)
  unfolding parameters_from
  parameters_rest n found i h = rw h refl

  pub parameters_next : (n : ℕ) (found : List Parameter) (i : Input) → same Spread (kind i) ≡ false → parameters_from limit (suc n) found i ≡ and_then (with_parameter limit found i) (parameters_behind n)
  unfolding parameters_from
  parameters_next n found i h = rw h refl

  pub parameters_comma : (n : ℕ) (found : List Parameter) (j : Input) → same Comma (kind j) ≡ true → parameters_behind n found j ≡ parameters_from limit n found (next j)
  parameters_comma n found j h = rw h refl

  pub parameters_end : (n : ℕ) (found : List Parameter) (j : Input) → same Comma (kind j) ≡ false → parameters_behind n found j ≡ Some ((found, None), j)
  parameters_end n found j h = rw h refl

  -- a round of the loop: what takes all others, a parameter, the comma behind it, and no comma
  module _ {meant : Parsed (List Parameter × Option Name)} (n at : ℕ) (found : List Parameter) (i : Input) (lt : at < n) (round : meant ≡ parameters_from limit (n - at) found i) where
    pub parameters_last : same Spread (kind i) ≡ true → {a : Input} → a ≡ next i → {o : Parsed Name} → name a ≡ o → meant ≡ and_then o (λ rest. λ j. Some ((found, Some rest), j))
    unfolding rest_name
    parameters_last h {a = a} f e = one_more (λ n. parameters_from limit n found i) n at lt round ∙ parameters_rest (n - (at + 1)) found i h ∙ ap (rest_name found) (sym f) ∙ ap (λ o. and_then o (λ rest. λ j. Some ((found, Some rest), j))) e

    pub parameters_round : same Spread (kind i) ≡ false → {o : Parsed (List Parameter)} → with_parameter limit found i ≡ o → meant ≡ and_then o (parameters_behind (n - (at + 1)))
    parameters_round h e = one_more (λ n. parameters_from limit n found i) n at lt round ∙ parameters_next (n - (at + 1)) found i h ∙ ap (λ o. and_then o (parameters_behind (n - (at + 1)))) e

    pub parameters_more : same Spread (kind i) ≡ false → {all : List Parameter} {j : Input} → with_parameter limit found i ≡ Some (all, j) → same Comma (kind j) ≡ true → {a : Input} → a ≡ next j
        → meant ≡ parameters_from limit (n - (at + 1)) all a
    parameters_more h {all = all} {j = j} e c f = parameters_round h e ∙ parameters_comma (n - (at + 1)) all j c ∙ ap (parameters_from limit (n - (at + 1)) all) (sym f)

    pub parameters_over : same Spread (kind i) ≡ false → {all : List Parameter} {j : Input} → with_parameter limit found i ≡ Some (all, j) → same Comma (kind j) ≡ false → meant ≡ Some ((all, None), j)
    parameters_over h {all = all} {j = j} e c = parameters_round h e ∙ parameters_end (n - (at + 1)) all j c
