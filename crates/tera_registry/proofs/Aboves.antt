-- The numbers of the bodies above that the table keeps, one template more at a time.
use Rattle.std.proofs.Common.{◌≡◌, ℕ, zero, suc, ◌+◌, ◌<◌, List, [], ◌∷◌, ◌++◌, length, map, take, get_or, slice_get, Option, Some, None, String, Global, option_map, refl, sym, ap, ap₂, ◌∙◌, append_assoc, arith}
use Rattle.std.specs.declared.rc.Rc.{Rc}
use Rattle.std.specs.List.{flat_map}
use Rattle.std.proofs.lemmas.Grind.{flat_map-append}
use Rattle.std.proofs.lemmas.List.{append-nil, length-map, map-append}
use Rattle.std.proofs.lemmas.Option.{get_or_from_slice_get, slice_get-get_or, slice_get-map}
use Rattle.std.proofs.lemmas.Simd.{map-map}
use mathlib.Core.Path.{fun_ext}
use Rattle.tera_errors.specs.Site.{Name}
use Rattle.tera_syntax_tree.specs.Tree.{Signature, Nodes}
use Rattle.tera_state.specs.Engine.{Engine}
use Rattle.tera_meaning.specs.Registry.{Registry, Entry}
use Rattle.tera_meaning.specs.Lineage.{ancestors}
use Rattle.tera_registry.specs.declared.code.TemplateBlock.{TemplateBlock}
use Rattle.tera_registry.specs.declared.components.Component.{Component}
use Rattle.tera_registry.specs.declared.body_table.LinkedBody.{LinkedBody as Linked}
use Rattle.tera_registry.specs.declared.template.Template.{Template as Stored}
use Rattle.tera_registry.specs.Components.{kept_of, kept_as}
use Rattle.tera_registry.specs.Definers.{blocks_of, names_of}
use Rattle.tera_registry.specs.Kept.{entry_of, entries_of, seen, seen_by}
use Rattle.tera_registry.specs.Linking.{above_block}
use Rattle.tera_registry.specs.Numbers.{lineage, first_of, Standing, blocks_in, block_at, above_in, above_of, aboves}
use Rattle.tera_registry.proofs.Placing.{block-names}
use Rattle.tera_registry.proofs.Rows.{take-more}

consts : {X Y Z : Type 0} (z : Z) (xs : List X) (ys : List Y) → length xs ≡ length ys → map (λ _. z) xs ≡ map (λ _. z) ys
consts z [] [] e = refl
consts z [] (y ∷ ys) e = absurd (omega (arith, e))
consts z (x ∷ xs) [] e = absurd (omega (arith, e))
consts z (x ∷ xs) (y ∷ ys) e = ap (λ l. z ∷ l) (consts z xs ys (omega (arith, e)))

module _ (r : Registry) where
  -- of the blocks of a template as they are kept, and of those in its text
  kept-block-aboves : (t : Entry) (bs : List TemplateBlock) → map (λ b. b.name) bs ≡ names_of t → map (above_block r t) bs ≡ map (above_in r) (map (λ b. Some (t, b)) (blocks_of t))
  kept-block-aboves t bs same =
      let number = λ (m : Name). first_of (lineage r m (ancestors r t)) in
      sym (map-map number (λ (b : TemplateBlock). b.name) bs) ∙ ap (map number) same ∙ map-map number (λ (b : Name × Nodes). b.0) (blocks_of t) ∙ sym (map-map (above_in r) (λ (b : Name × Nodes). Some (t, b)) (blocks_of t))

  -- of all its bodies
  kept-aboves : (t : Stored) → None ∷ (map (above_block r (entry_of t)) t.blocks.items ++ map (λ _. None) t.components.items) ≡ map (above_in r) (blocks_in (entry_of t))
  kept-aboves t =
      let e = entry_of t in
      let definitions = e.1.tree.definitions in
      let of_block : Name × Nodes → Option Standing = λ b. Some (e, b) in
      let of_component : Signature × Nodes → Option Standing = λ d. None in
      let bs = map of_block (blocks_of e) in
      let ds = map of_component definitions in
      let none : Option ℕ = None in
      let many : length t.components.items ≡ length definitions = omega (arith, ap length t.defined, length-map t.components.items kept_of, length-map definitions (kept_as e.0)) in
      let of_blocks = kept-block-aboves e t.blocks.items (block-names t.blocks.items e.0 (blocks_of e) t.divided) in
      let of_components = consts none t.components.items definitions many ∙ sym (map-map (above_in r) of_component definitions) in
      ap (λ l. None ∷ l) (ap₂ (λ x y. x ++ y) of_blocks of_components ∙ sym (map-append (above_in r) bs ds))

  -- its own body, its blocks and its components, one behind the other
  pub aboves-added : (t : Stored) (old one two three : List (Option ℕ)) (own : Option ℕ) → own ≡ None → one ≡ old ++ own ∷ [] → two ≡ one ++ map (above_block r (entry_of t)) t.blocks.items → three ≡ two ++ map (λ _. None) t.components.items → three ≡ old ++ map (above_in r) (blocks_in (entry_of t))
  aboves-added t old one two three own is e f g =
      let bs = map (above_block r (entry_of t)) t.blocks.items in
      let none : Option ℕ = None in
      let cs = map (λ (_ : Component). none) t.components.items in
      g ∙ ap (λ l. l ++ cs) f ∙ ap (λ l. (l ++ bs) ++ cs) e ∙ ap (λ l. l ++ cs) (append_assoc old (own ∷ []) bs) ∙ append_assoc old (own ∷ bs) cs ∙ ap (λ o. old ++ (o ∷ (bs ++ cs))) is ∙ ap (λ l. old ++ l) (kept-aboves t)

  -- the templates before one more position
  pub aboves-on : (es : List Entry) (i : ℕ) (t : Entry) (old new : List (Option ℕ)) → slice_get es i ≡ Some t → old ≡ map (above_in r) (flat_map blocks_in (take i es)) → new ≡ old ++ map (above_in r) (blocks_in t) → new ≡ map (above_in r) (flat_map blocks_in (take (i + 1) es))
  aboves-on es i t old new at before added =
      let rows = flat_map blocks_in (take i es) in
      added ∙ ap (λ l. l ++ map (above_in r) (blocks_in t)) before ∙ sym (map-append (above_in r) rows (blocks_in t)) ∙ ap (λ l. map (above_in r) (rows ++ l)) (sym (append-nil (blocks_in t))) ∙ ap (map (above_in r)) (sym (flat_map-append blocks_in (take i es) (t ∷ [])) ∙ ap (flat_map blocks_in) (take-more es i t at))

  none-past : (ps : List (Option Standing)) (n : ℕ) → get_or (map (above_in r) ps) n None ≡ above_in r (get_or ps n None)
  none-past [] n = refl
  none-past (p ∷ ps) zero = refl
  none-past (p ∷ ps) (suc n) = none-past ps n

  -- what the entry of a number has
  pub above-at : (entries : List Linked) (n : ℕ) (e d : Linked) → map above_of entries ≡ aboves r → e ≡ get_or entries n d → n < length entries → e.above ≡ above_in r (block_at r.templates n)
  above-at entries n e d climbed is lt =
      let there : slice_get (aboves r) n ≡ Some e.above = ap (λ l. slice_get l n) (sym climbed) ∙ slice_get-map above_of entries n ∙ ap (option_map above_of) (slice_get-get_or entries n d lt ∙ ap Some (sym is)) in
      sym (get_or_from_slice_get (aboves r) n e.above None there) ∙ none-past (flat_map blocks_in r.templates) n

-- no templates
pub none-climbed : (ts : List (Rc Stored Global)) (ps : List (String Global)) (entries : List Linked) → ts ≡ [] → entries ≡ [] → map above_of entries ≡ aboves (seen ts ps)
none-climbed ts ps entries e f = rw (e, f) refl

-- the engine has no say in them
aboves-served : (engine : Engine) (ts : List (Rc Stored Global)) (ps : List (String Global)) → aboves (seen_by engine ts ps) ≡ aboves (seen ts ps)
aboves-served engine ts ps = ap (λ f. map f (flat_map blocks_in (entries_of ts))) (fun_ext same)
  where
    same : (o : Option Standing) → above_in (seen_by engine ts ps) o ≡ above_in (seen ts ps) o
    same None = refl
    same (Some p) = refl

-- templates that are lent
pub kept-climbed : (engine : Engine) (ts lent : List (Rc Stored Global)) (ps lent_ps : List (String Global)) (entries : List Linked) → lent ≡ ts → lent_ps ≡ ps → map above_of entries ≡ aboves (seen_by engine lent lent_ps) → map above_of entries ≡ aboves (seen ts ps)
kept-climbed engine ts lent ps lent_ps entries e f a =
    (let meant : map above_of entries ≡ aboves (seen_by engine ts ps) = rw (e, f) at a in meant ∙ aboves-served engine ts ps)
