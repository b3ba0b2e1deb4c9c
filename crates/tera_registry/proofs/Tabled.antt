-- The table of bodies, one template more at a time.
use Rattle.std.proofs.Common.{◌≡◌, ℕ, zero, suc, ◌+◌, ◌<◌, List, [], ◌∷◌, ◌++◌, length, map, take, get_or, slice_get, option_map, Some, None, refl, sym, ap, ap₂, ◌∙◌, inl, inr, append_assoc, arith}
use Rattle.std.proofs.lemmas.List.{append-nil, length-append, length-map, map-append}
use Rattle.std.proofs.lemmas.Option.{slice_get_within, slice_get-map, slice_get-get_or}
use Rattle.tera_errors.specs.Site.{Name}
use Rattle.tera_syntax_tree.specs.Tree.{Signature, Nodes}
use Rattle.tera_syntax_tree.specs.Blocks.{blocks}
use Rattle.tera_code.specs.Listing.{Listing}
use Rattle.tera_code.specs.Code.{listing_of}
use Rattle.tera_code.specs.Blocks.{block_listings, block_of}
use Rattle.tera_code.specs.declared.blocks.BlockCode.{BlockCode}
use Rattle.tera_meaning.specs.Registry.{Entry, Registry}
use Rattle.tera_meaning.specs.Resolve.{root}
use Rattle.tera_registry.specs.declared.code.TemplateBlock.{TemplateBlock}
use Rattle.tera_registry.specs.declared.components.Component.{Component}
use Rattle.tera_registry.specs.declared.body_table.LinkedBody.{LinkedBody as Linked}
use Rattle.tera_registry.specs.declared.template.Template.{Template as Stored}
use Rattle.tera_registry.specs.Bodies.{codes_of, listings, start, AreStarts, AreRooted}
use Rattle.tera_registry.specs.Links.{AreRoots}
use Rattle.tera_registry.proofs.Element.{element}
use Rattle.tera_registry.specs.Components.{kept_block, kept_of, kept_as}
use Rattle.tera_registry.specs.Kept.{entry_of}
use Rattle.tera_registry.specs.References.{chunk_of}
use Rattle.tera_registry.proofs.Rows.{get-push, length-push, take-more}

blocks-codes : (file : Name) (bs : List (Name × Nodes)) → map (λ b. b.1) (block_listings file bs) ≡ map (listing_of file) (map (λ b. b.1) bs)
blocks-codes file [] = refl
blocks-codes file (b ∷ bs) = ap (λ l. listing_of file b.1 ∷ l) (blocks-codes file bs)

components-codes : (file : Name) (ds : List (Signature × Nodes)) → map (λ k. k.1) (map (kept_as file) ds) ≡ map (listing_of file) (map (λ d. d.1) ds)
components-codes file [] = refl
components-codes file (d ∷ ds) = ap (λ l. listing_of file d.1 ∷ l) (components-codes file ds)

kept-blocks-codes : (bs : List TemplateBlock) → map (λ b. b.code.value.chunk) bs ≡ map (λ b. b.1) (map kept_block bs)
kept-blocks-codes [] = refl
kept-blocks-codes (b ∷ bs) = ap (λ l. b.code.value.chunk ∷ l) (kept-blocks-codes bs)

kept-components-codes : (cs : List Component) → map (λ c. c.code.value.chunk) cs ≡ map (λ k. k.1) (map kept_of cs)
kept-components-codes [] = refl
kept-components-codes (c ∷ cs) = ap (λ l. c.code.value.chunk ∷ l) (kept-components-codes cs)

-- the code of a template's bodies as it is kept
pub kept-codes : (t : Stored) → t.body.value.chunk ∷ (map (λ b. b.code.value.chunk) t.blocks.items ++ map (λ c. c.code.value.chunk) t.components.items) ≡ codes_of (entry_of t)
kept-codes t =
    let file = (entry_of t).0 in
    let nodes = (entry_of t).1.tree.nodes in
    let definitions = (entry_of t).1.tree.definitions in
    let of_blocks = kept-blocks-codes t.blocks.items ∙ ap (map (λ b. b.1)) t.divided ∙ blocks-codes file (blocks nodes) in
    let of_components = kept-components-codes t.components.items ∙ ap (map (λ k. k.1)) t.defined ∙ components-codes file definitions in
    ap₂ (λ x l. x ∷ l) t.compiled (ap₂ (λ x y. x ++ y) of_blocks of_components ∙ sym (map-append (listing_of file) (map (λ b. b.1) (blocks nodes)) (map (λ d. d.1) definitions)))

-- its own body, its blocks and its components, one behind the other
pub template-added : (t : Stored) (old one two three : List Listing) (body : Listing) → body ≡ t.body.value.chunk → one ≡ old ++ body ∷ [] → two ≡ one ++ map (λ b. b.code.value.chunk) t.blocks.items → three ≡ two ++ map (λ c. c.code.value.chunk) t.components.items → three ≡ old ++ codes_of (entry_of t)
template-added t old one two three body is e f g =
    let bs = map (λ b. b.code.value.chunk) t.blocks.items in
    let cs = map (λ c. c.code.value.chunk) t.components.items in
    g ∙ ap (λ l. l ++ cs) f ∙ ap (λ l. (l ++ bs) ++ cs) e ∙ ap (λ l. l ++ cs) (append_assoc old (body ∷ []) bs) ∙ append_assoc old (body ∷ bs) cs ∙ ap (λ b. old ++ (b ∷ (bs ++ cs))) is ∙ ap (λ l. old ++ l) (kept-codes t)

flat-append : (es fs : List Entry) → listings (es ++ fs) ≡ listings es ++ listings fs
flat-append [] fs = refl
flat-append (e ∷ es) fs = ap (λ l. codes_of e ++ l) (flat-append es fs) ∙ sym (append_assoc (codes_of e) (listings es) (listings fs))

-- the templates before one more position
pub listings-on : (es : List Entry) (i : ℕ) (t : Entry) (old new : List Listing) → slice_get es i ≡ Some t → old ≡ listings (take i es) → new ≡ old ++ codes_of t → new ≡ listings (take (i + 1) es)
listings-on es i t old new at before added =
    added ∙ ap (λ l. l ++ codes_of t) before ∙ ap (λ l. listings (take i es) ++ l) (sym (append-nil (codes_of t))) ∙ sym (flat-append (take i es) (t ∷ [])) ∙ ap listings (take-more es i t at)

pub more-starts : (es : List Entry) (starts : List ℕ) (n many : ℕ) → AreStarts es starts many → n ≡ start es many → AreStarts es (starts ++ n ∷ []) (many + 1)
more-starts es starts n many a is = record {
  as_many = length-push starts n ∙ ap (λ k. k + 1) a.as_many;
  those = λ i m got.
      elim (get-push starts n m i got) [
        | inl old ↦ a.those i m old
        | inr new ↦
            (let here : i ≡ many = new.0 ∙ a.as_many in new.1 ∙ is ∙ ap (start es) (sym here))
      ];
}

-- the bodies of one template more are numbered
pub start-on : (es : List Entry) (i : ℕ) (t : Entry) → slice_get es i ≡ Some t → start es (i + 1) ≡ start es i + length (codes_of t)
start-on es i t at =
    let before = listings (take i es) in
    sym (ap length (listings-on es i t before (before ++ codes_of t) at refl refl)) ∙ length-append before (codes_of t)

-- What stands at a number.

pub get-front : {X : Type 0} (xs ys : List X) (i : ℕ) → i < length xs → slice_get (xs ++ ys) i ≡ slice_get xs i
get-front [] ys i lt = absurd (omega arith)
get-front (x ∷ xs) ys zero lt = refl
get-front (x ∷ xs) ys (suc i) lt = get-front xs ys i (omega arith)

pub get-behind : {X : Type 0} (xs ys : List X) (i : ℕ) → slice_get (xs ++ ys) (length xs + i) ≡ slice_get ys i
get-behind [] ys i = (let e : 0 + i ≡ i = omega arith in ap (slice_get ys) e)
get-behind (x ∷ xs) ys i =
    (let e : suc (length xs) + i ≡ suc (length xs + i) = omega arith in
    ap (slice_get (x ∷ (xs ++ ys))) e ∙ get-behind xs ys i)

-- a body that has a number in a template has one among all
pub listing-at : (es : List Entry) (i j : ℕ) (t : Entry) → slice_get es i ≡ Some t → j < length (codes_of t) → slice_get (listings es) (start es i + j) ≡ slice_get (codes_of t) j
listing-at [] i j t at lt = (let q : None ≡ Some t = at in cc)
listing-at (u ∷ es) zero j t at lt =
    (let q : Some u ≡ Some t = at in
    let s : u ≡ t = cc in
    let e : 0 + j ≡ j = omega arith in
    ap (slice_get (codes_of u ++ listings es)) e ∙ ap (λ v. slice_get (codes_of v ++ listings es) j) s ∙ get-front (codes_of t) (listings es) j lt)
listing-at (u ∷ es) (suc i) j t at lt =
    (let e : length (codes_of u ++ listings (take i es)) + j ≡ length (codes_of u) + (start es i + j) = omega (arith, length-append (codes_of u) (listings (take i es))) in
    ap (slice_get (codes_of u ++ listings es)) e ∙ get-behind (codes_of u) (listings es) (start es i + j) ∙ listing-at es i j t at lt)

-- a template's own body
pub own-listing : (es : List Entry) (i : ℕ) (t : Entry) → slice_get es i ≡ Some t → slice_get (listings es) (start es i) ≡ Some (listing_of t.0 t.1.tree.nodes)
own-listing es i t at =
    (let e : start es i ≡ start es i + 0 = omega arith in
    ap (slice_get (listings es)) e ∙ listing-at es i 0 t at (omega arith))

module _ (t : Entry) where
  abbrev block_bodies : List Nodes
  block_bodies = map (λ b. b.1) (blocks t.1.tree.nodes)

  abbrev component_bodies : List Nodes
  component_bodies = map (λ d. d.1) t.1.tree.definitions

  pub length-codes : length (codes_of t) ≡ 1 + length (blocks t.1.tree.nodes) + length t.1.tree.definitions
  length-codes =
      omega (arith, length-map (t.1.tree.nodes ∷ (block_bodies ++ component_bodies)) (listing_of t.0), length-append block_bodies component_bodies, length-map (blocks t.1.tree.nodes) (λ b. b.1), length-map t.1.tree.definitions (λ d. d.1))

  -- one of its blocks
  pub block-listing-at : (es : List Entry) (i k : ℕ) (b : Name × Nodes) → slice_get es i ≡ Some t → slice_get (blocks t.1.tree.nodes) k ≡ Some b → slice_get (listings es) (start es i + 1 + k) ≡ Some (listing_of t.0 b.1)
  block-listing-at es i k b at is =
      (let there = slice_get_within (blocks t.1.tree.nodes) k b is in
      let few : suc k < length (codes_of t) = omega (arith, length-codes) in
      let e : start es i + 1 + k ≡ start es i + suc k = omega arith in
      ap (slice_get (listings es)) e ∙ listing-at es i (suc k) t at few
      ∙ slice_get-map (listing_of t.0) (block_bodies ++ component_bodies) k
      ∙ ap (option_map (listing_of t.0)) (get-front block_bodies component_bodies k (omega (arith, length-map (blocks t.1.tree.nodes) (λ b. b.1))) ∙ slice_get-map (λ b. b.1) (blocks t.1.tree.nodes) k ∙ ap (option_map (λ b. b.1)) is))

  -- one of its components
  pub component-listing-at : (es : List Entry) (i k : ℕ) (d : Signature × Nodes) → slice_get es i ≡ Some t → slice_get t.1.tree.definitions k ≡ Some d → slice_get (listings es) (start es i + 1 + length (blocks t.1.tree.nodes) + k) ≡ Some (listing_of t.0 d.1)
  component-listing-at es i k d at is =
      (let there = slice_get_within t.1.tree.definitions k d is in
      let n = length block_bodies + k in
      let same = length-map (blocks t.1.tree.nodes) (λ b. b.1) in
      let few : suc n < length (codes_of t) = omega (arith, length-codes, same) in
      let e : start es i + 1 + length (blocks t.1.tree.nodes) + k ≡ start es i + suc n = omega (arith, same) in
      ap (slice_get (listings es)) e ∙ listing-at es i (suc n) t at few
      ∙ slice_get-map (listing_of t.0) (block_bodies ++ component_bodies) n
      ∙ ap (option_map (listing_of t.0)) (get-behind block_bodies component_bodies k ∙ slice_get-map (λ d. d.1) t.1.tree.definitions k ∙ ap (option_map (λ d. d.1)) is))

-- the roots of templates
pub rooted : (r : Registry) (roots : List ℕ) → AreRoots r roots (length r.templates) → AreRooted r roots
rooted r roots a = record {
  as_many = a.as_many;
  inside = λ i k got.
      (let lt = slice_get_within roots i k got in
      let t = element r.templates i (omega (arith, a.as_many, lt)) in
      slice_get_within r.templates k _ (a.those i k t.0 got t.1));
  those = λ i k t got at. own-listing r.templates k (root r t) (a.those i k t got at);
}

-- the entry of a number has the code that stands there
pub entry-code : (entries : List Linked) (codes : List Listing) (n : ℕ) (e d : Linked) → map chunk_of entries ≡ codes → e ≡ get_or entries n d → n < length entries → slice_get codes n ≡ Some (chunk_of e)
entry-code entries codes n e d whole is lt =
    ap (λ l. slice_get l n) (sym whole) ∙ slice_get-map chunk_of entries n ∙ ap (option_map chunk_of) (slice_get-get_or entries n d lt ∙ ap Some (sym is))

pub entries-many : (entries : List Linked) (codes : List Listing) → map chunk_of entries ≡ codes → length codes ≡ length entries
entries-many entries codes whole = sym (ap length whole) ∙ length-map entries chunk_of

-- The components of a text and their entries stand at the same places.

module _ (entries : List Linked) (cs : List Component) (whole : map chunk_of entries ≡ map (λ c. c.code.value.chunk) cs) where
  pub entry-each : length entries ≡ length cs
  entry-each = sym (length-map entries chunk_of) ∙ ap length whole ∙ length-map cs (λ (c : Component). c.code.value.chunk)

  -- the code of an entry, beside what the component of its place is given, is that component as it is kept
  pub entry-kept : (k : ℕ) (e u : Linked) (c d : Component) → k < length cs → e ≡ get_or entries k u → c ≡ get_or cs k d → slice_get (map kept_of cs) k ≡ Some (c.definition, chunk_of e)
  entry-kept k e u c d lt at is =
      let there : slice_get cs k ≡ Some c = slice_get-get_or cs k d lt ∙ ap Some (sym is) in
      let code : Some (chunk_of e) ≡ Some c.code.value.chunk = sym (entry-code entries (map (λ c. c.code.value.chunk) cs) k e u whole at (omega (arith, entry-each, lt))) ∙ slice_get-map (λ (c : Component). c.code.value.chunk) cs k ∙ ap (option_map (λ (c : Component). c.code.value.chunk)) there in
      slice_get-map kept_of cs k ∙ ap (option_map kept_of) there ∙ ap (option_map (λ l. (c.definition, l))) (sym code)

-- Numbers that a template, a block or a component has.

module _ (es : List Entry) (starts : List ℕ) (many : ℕ) (a : AreStarts es starts many) where
  pub start-there : (i n d : ℕ) → i < many → n ≡ get_or starts i d → n ≡ start es i
  start-there i n d lt is =
      a.those i n (slice_get-get_or starts i d (omega (arith, a.as_many)) ∙ ap Some (sym is))

-- one block more is kept
pub one-kept : (old new : List TemplateBlock) (b : BlockCode) (left rest : List BlockCode) (all : List (Name × Listing)) → map kept_block new ≡ map kept_block old ++ block_of b ∷ [] → left ≡ b ∷ rest → map kept_block old ++ map block_of left ≡ all → map kept_block new ++ map block_of rest ≡ all
one-kept old new b left rest all e f g =
    ap (λ l. l ++ map block_of rest) e ∙ append_assoc (map kept_block old) (block_of b ∷ []) (map block_of rest) ∙ ap (λ l. map kept_block old ++ map block_of l) (sym f) ∙ g
