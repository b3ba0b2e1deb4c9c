-- What code lacks is what the nodes lack whose code it is.
use Rattle.std.proofs.Common.{◌≡◌, ℕ, zero, suc, ◌+◌, ◌-◌, ◌<◌, ◌≤◌, Bool, true, false, not, ◌||◌, List, [], ◌∷◌, ◌++◌, length, map, slice_get, option_and_then, Option, Some, None, inl, inr, refl, sym, ap, ap₂, ◌∙◌, arith}
use Rattle.std.proofs.lemmas.Bool.{cases_lt}
use Rattle.std.specs.List.{list_any}
use Rattle.tera_errors.specs.Site.{Name}
use Rattle.tera_syntax_tree.specs.Tree.{Signature, Nodes, Tree}
use Rattle.tera_syntax_tree.specs.Blocks as in_tree
use Rattle.tera_syntax_tree.specs.Calls.{Callee}
use Rattle.tera_code.specs.Listing.{Listing}
use Rattle.tera_code.specs.Code.{Code, nodes_code}
use Rattle.tera_code.specs.Called.{called_by, callees}
use Rattle.tera_code.proofs.Callees.{code_calls_the_same}
use Rattle.tera_meaning.specs.Known.{has_unknown, lacks_a_callee}
use Rattle.tera_registry.specs.declared.components.Component.{Component}
use Rattle.tera_registry.specs.Components.{kept_of, kept_as, kept_all}
use Rattle.tera_registry.specs.Known.{is_missing, calls_missing, code_lacks}

or-true : (b : Bool) → (b || true) ≡ true
or-true true = refl
or-true false = refl

module _ (known : Callee → Bool) where
  abbrev unknown : Callee → Bool
  unknown c = not (known c)

  code_lacks-callees : (code : Code) → code_lacks known code ≡ list_any unknown (callees code)
  code_lacks-callees [] = refl
  code_lacks-callees (i ∷ code) = go (called_by i) refl (code_lacks-callees code)
    where
      go : (c : Option Callee) → called_by i ≡ c → code_lacks known code ≡ list_any unknown (callees code) → code_lacks known (i ∷ code) ≡ list_any unknown (callees (i ∷ code))
      go None e rest = rw e rest
      go (Some c) e rest = rw e (ap (λ b. unknown c || b) rest)

  code_lacks_as_nodes : (code : Code) (nodes : Nodes) → code ≡ nodes_code nodes 0 → code_lacks known code ≡ has_unknown known nodes
  code_lacks_as_nodes code nodes e =
      ap (code_lacks known) e ∙ code_lacks-callees (nodes_code nodes 0) ∙ ap (list_any unknown) (code_calls_the_same nodes 0)

  kept_lack : (file : Name) (ds : List (Signature × Nodes)) → list_any (λ k. code_lacks known k.1.code) (map (kept_as file) ds) ≡ list_any (has_unknown known) (map (λ d. d.1) ds)
  kept_lack file [] = refl
  kept_lack file (d ∷ ds) = ap₂ (λ x y. x || y) (code_lacks_as_nodes (nodes_code d.1 0) d.1 refl) (kept_lack file ds)

  components_lack : (cs : List Component) → list_any (λ c. code_lacks known c.code.value.chunk.code) cs ≡ list_any (λ k. code_lacks known k.1.code) (map kept_of cs)
  components_lack [] = refl
  components_lack (c ∷ cs) = ap (λ x. code_lacks known c.code.value.chunk.code || x) (components_lack cs)

  -- the code of nodes without blocks, with that of their components
  pub codes_lack_as_tree : (file : Name) (body : Listing) (components : List Component) (tree : Tree) → body.code ≡ nodes_code tree.nodes 0 → map kept_of components ≡ kept_all file tree.definitions → in_tree.blocks tree.nodes ≡ [] → (code_lacks known body.code || list_any (λ c. code_lacks known c.code.value.chunk.code) components) ≡ lacks_a_callee known tree
  codes_lack_as_tree file body components tree e g none =
      let of_components = components_lack components ∙ ap (list_any (λ k. code_lacks known k.1.code)) g ∙ kept_lack file tree.definitions in
      ap₂ (λ x y. x || y) (code_lacks_as_nodes body.code tree.nodes e) of_components ∙ ap (λ bs. has_unknown known tree.nodes || list_any (has_unknown known) (map (λ b. b.1) bs ++ map (λ d. d.1) tree.definitions)) (sym none)

  -- The code is looked through position by position.

  abbrev missing_at : Code → ℕ → Bool
  missing_at code i = is_missing known (option_and_then called_by (slice_get code i))

  -- nothing that is missing is called before a position
  abbrev pub LacksNothing : Code → ℕ → Type 0
  LacksNothing code i = (k : ℕ) → k < i → is_missing known (option_and_then called_by (slice_get code k)) ≡ false

  pub lacks-nothing-more : (code : Code) (i : ℕ) → LacksNothing code i → is_missing known (option_and_then called_by (slice_get code i)) ≡ false → LacksNothing code (i + 1)
  lacks-nothing-more code i none here = λ k lt.
      elim (cases_lt k i) [
        | inl before ↦ none k before
        | inr after ↦ (let last : k ≡ i = omega arith in ap (missing_at code) last ∙ here)
      ]

  pub code_lacks-at : (code : Code) (i : ℕ) → is_missing known (option_and_then called_by (slice_get code i)) ≡ true → code_lacks known code ≡ true
  code_lacks-at [] i e = (let q : false ≡ true = e in cc)
  code_lacks-at (x ∷ code) zero e = rw e refl
  code_lacks-at (x ∷ code) (suc i) e =
      ap (λ b. calls_missing known x || b) (code_lacks-at code i e) ∙ or-true (calls_missing known x)

  pub code_lacks-none : (code : Code) (n : ℕ) → length code ≤ n → LacksNothing code n → code_lacks known code ≡ false
  code_lacks-none [] n over none = refl
  code_lacks-none (x ∷ code) n over none =
      ap₂ (λ a b. a || b) (none 0 (omega arith)) (code_lacks-none code (n - 1) (omega arith) (λ k lt. none (suc k) (omega arith)))
