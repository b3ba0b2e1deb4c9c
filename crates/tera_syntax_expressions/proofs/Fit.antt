-- The names of a signature.
use Rattle.std.proofs.Common.{◌≡◌, Bool, true, false, not, ◌&&◌, List, [], ◌∷◌, ◌++◌, Option, map, refl, sym, ap, ◌∙◌}
use Rattle.std.specs.Prelude.{codes}
use Rattle.tera_errors.specs.Site.{Name}
use Rattle.tera_syntax_tree.specs.declared.component.Parameter as declared
use Rattle.tera_syntax_tree.specs.Blocks.{are_distinct, is_among}
use Rattle.tera_syntax_tree.specs.Definitions.{rest_names}
use Rattle.tera_syntax_tree.specs.View.{parameter_of}
use Rattle.tera_syntax_expressions.specs.Parts.{signature_names}

-- the names of the parameters, and of what takes all other arguments
pub fit_names : (ps : List declared.Parameter) (rest : Option Name) → map (λ p. p.name) (map parameter_of ps) ++ rest_names rest ≡ signature_names ps rest
fit_names [] rest = refl
fit_names (p ∷ ps) rest = ap (λ names. p.name.now ∷ names) (fit_names ps rest)

module _ (ps : List declared.Parameter) (rest : Option Name) where
  -- the name of what a component is handed, and those of the signature
  abbrev pub all_names : List Name
  all_names = codes "body" ∷ (map (λ p. p.name) (map parameter_of ps) ++ rest_names rest)

  with-body : (taken : Bool) → is_among (codes "body") (signature_names ps rest) ≡ taken → (not taken && are_distinct (signature_names ps rest)) ≡ are_distinct all_names
  with-body taken e =
      ap (λ b. not b && are_distinct (signature_names ps rest)) (sym e) ∙ ap (λ names. are_distinct (codes "body" ∷ names)) (sym (fit_names ps rest))

  -- one of them is called `body`
  pub body_taken : is_among (codes "body") (signature_names ps rest) ≡ true → false ≡ are_distinct all_names
  body_taken e = with-body true e

  -- none of them is
  pub body_free : is_among (codes "body") (signature_names ps rest) ≡ false → are_distinct (signature_names ps rest) ≡ are_distinct all_names
  body_free e = with-body false e
