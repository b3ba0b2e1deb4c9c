-- Names whose first places are noted, one by one.
use Rattle.std.proofs.Common.{string_bytes, nat_cmp, ◌≡◌, ℕ, suc, ◌+◌, ◌<◌, ◌≤◌, Bool, true, false, ◌||◌, is_some, if◌then◌else◌, bytes_eq, List, [], ◌∷◌, length, drop, map, Option, Some, None, option_map, refl, sym, ap, ◌∙◌, inl, inr, arith, slice_get, get_or, cond, String, Global}
use Rattle.std.specs.Cmp.Lexicographic.{bytes_decides, slice_cmp}
use Rattle.std.specs.Map.{update, lookup}
use Rattle.std.specs.Ordering.{is_eq}
use Rattle.std.specs.Option.{option_or}
use Rattle.std.specs.declared.collections.BTreeMap.{BTreeMap}
use Rattle.std.proofs.lemmas.Bool.{cases_Bool}
use Rattle.std.proofs.lemmas.List.{drop_all, length-map}
use Rattle.std.proofs.lemmas.Simd.{map-map}
use Rattle.std.proofs.lemmas.Option.{slice_get_read, slice_get-map}
use Rattle.tera_errors.specs.Site.{Name}
use Rattle.tera_syntax_tree.specs.Tree.{Nodes}
use Rattle.tera_meaning.specs.Resolve.{entry_at}
use Rattle.tera_code.specs.Blocks.{block_listing, block_listings}
use Rattle.tera_code.specs.Listing.{Listing}
use Rattle.tera_registry.specs.declared.code.TemplateBlock.{TemplateBlock}
use Rattle.std.specs.List.{list_any}
use Rattle.tera_components.specs.Definition.{Definition}
use Rattle.tera_registry.specs.declared.components.Component.{Component as Kept}
use Rattle.tera_registry.specs.Components.{kept_block, kept_of, kept_names, first_kept}
use Rattle.tera_registry.specs.Places.{stands, place_from}
use Rattle.tera_registry.specs.Positions.{IsPosition}
use Rattle.tera_registry.proofs.Choosing.{bytes_eq-flip}
use Rattle.tera_registry.proofs.Rows.{drop-at}

-- a name that was not noted
pub noted : (old new : BTreeMap (String Global) ℕ Global) (key name : Name) (position : ℕ) (q : Name) → key ≡ name → is_some (stands old name) ≡ false → stands new q ≡ update bytes_eq (stands old) key (Some position) q → stands new q ≡ option_or (stands old q) (if bytes_eq q name then Some position else None)
noted old new key name position q keyed none there =
    let put : stands new q ≡ update bytes_eq (stands old) name (Some position) q = rw (← keyed) there in
    elim (cases_Bool (bytes_eq q name)) [
      | inl same ↦
          (let e : q ≡ name = (bytes_decides q name).0 same in
          let gone : stands old q ≡ None = nothing (stands old q) (rw e none) in
          put ∙ ap (λ b. if b then Some position else stands old q) (bytes_eq-flip name q ∙ same) ∙ sym (ap (λ o. option_or o (if bytes_eq q name then Some position else None)) gone ∙ ap (λ b. if b then Some position else None) same))
      | inr other ↦
          put ∙ ap (λ b. if b then Some position else stands old q) (bytes_eq-flip name q ∙ other) ∙ sym (ap (λ b. option_or (stands old q) (if b then Some position else None)) other ∙ alone (stands old q))
    ]
  where
    nothing : (o : Option ℕ) → is_some o ≡ false → o ≡ None
    nothing None e = refl
    nothing (Some n) e = (let t : true ≡ false = e in cc)

    alone : (o : Option ℕ) → option_or o None ≡ o
    alone None = refl
    alone (Some n) = refl

-- one that was
pub noted-before : (old : BTreeMap (String Global) ℕ Global) (name : Name) (position : ℕ) (q : Name) → is_some (stands old name) ≡ true → stands old q ≡ option_or (stands old q) (if bytes_eq q name then Some position else None)
noted-before old name position q is =
    elim (cases_Bool (bytes_eq q name)) [
      | inl same ↦
          (let e : q ≡ name = (bytes_decides q name).0 same in
          sym (stays (stands old q) (if bytes_eq q name then Some position else None) (rw e is)))
      | inr other ↦ sym (ap (λ b. option_or (stands old q) (if b then Some position else None)) other ∙ alone (stands old q))
    ]
  where
    stays : (o p : Option ℕ) → is_some o ≡ true → option_or o p ≡ o
    stays None p e = (let t : false ≡ true = e in cc)
    stays (Some n) p e = refl

    alone : (o : Option ℕ) → option_or o None ≡ o
    alone None = refl
    alone (Some n) = refl

-- one name more
pub placed-more : (q n : Name) (k : ℕ) (names : List Name) (old : Option ℕ) → slice_get names k ≡ Some n → option_or old (place_from q k (drop k names)) ≡ option_or (option_or old (if bytes_eq q n then Some k else None)) (place_from q (k + 1) (drop (k + 1) names))
placed-more q n k names old at =
    let next : suc k ≡ k + 1 = omega arith in
    ap (λ l. option_or old (place_from q k l)) (drop-at names k n at)
    ∙ ap (λ m. option_or old (if bytes_eq q n then Some k else place_from q m (drop (k + 1) names))) next
    ∙ joined old (bytes_eq q n) (place_from q (k + 1) (drop (k + 1) names))
  where
    joined : (o : Option ℕ) (b : Bool) (rest : Option ℕ) → option_or o (if b then Some k else rest) ≡ option_or (option_or o (if b then Some k else None)) rest
    joined (Some x) b rest = refl
    joined None true rest = refl
    joined None false rest = refl

pub placed-all : (q : Name) (k : ℕ) (names : List Name) (old : Option ℕ) → length names ≤ k → option_or old (place_from q k (drop k names)) ≡ old
placed-all q k names old over =
    ap (λ l. option_or old (place_from q k l)) (drop_all k names over) ∙ alone old
  where
    alone : (o : Option ℕ) → option_or o None ≡ o
    alone None = refl
    alone (Some n) = refl

pub block-name-at : (bs : List TemplateBlock) (k : ℕ) (b : TemplateBlock) → k < length bs → b ≡ get_or bs k b → slice_get (map (λ c. c.name) bs) k ≡ Some b.name
block-name-at bs k b lt is =
    slice_get-map (λ (c : TemplateBlock). c.name) bs k ∙ ap (option_map (λ (c : TemplateBlock). c.name)) (slice_get_read bs (length bs) k b refl lt is)

-- The place of a name is that of the first entry that has it.
module _ {A : Type 0} (q : Name) where
  FirstAt : List (Name × A) → ℕ → Option ℕ → Type 0
  FirstAt xs p None = entry_at q xs ≡ None
  FirstAt xs p (Some n) = (i : ℕ) × (n ≡ p + i) × (entry_at q xs ≡ slice_get xs i) × (i < length xs)

  later : (x : Name × A) (xs : List (Name × A)) (p : ℕ) → bytes_eq q x.0 ≡ false → (o : Option ℕ) → FirstAt xs (suc p) o → FirstAt (x ∷ xs) p o
  unfolding FirstAt
  later x xs p e None h = ap (λ c. cond c (Some x) (entry_at q xs)) e ∙ h
  later x xs p e (Some n) h = (suc h.0, omega (arith, h.1), ap (λ c. cond c (Some x) (entry_at q xs)) e ∙ h.2, omega (arith, h.3))

  here-or-later : (x : Name × A) (xs : List (Name × A)) (p : ℕ) (o : Option ℕ) (b : Bool) → bytes_eq q x.0 ≡ b → FirstAt xs (suc p) o → FirstAt (x ∷ xs) p (if b then Some p else o)
  unfolding FirstAt
  here-or-later x xs p o true e h = (0, omega arith, ap (λ c. cond c (Some x) (entry_at q xs)) e, omega arith)
  here-or-later x xs p o false e h = later x xs p e o h

  first-at : (xs : List (Name × A)) (p : ℕ) → FirstAt xs p (place_from q p (map (λ e. e.0) xs))
  unfolding FirstAt
  first-at [] p = refl
  first-at (x ∷ xs) p = here-or-later x xs p (place_from q (suc p) (map (λ e. e.0) xs)) (bytes_eq q x.0) refl (first-at xs (suc p))

  from-the-start : (xs : List (Name × A)) (o : Option ℕ) → FirstAt xs 0 o → IsPosition xs o (entry_at q xs)
  unfolding FirstAt
  from-the-start xs None h = h
  from-the-start xs (Some n) h = (let e : n ≡ h.0 = omega (arith, h.1) in (h.2 ∙ ap (slice_get xs) (sym e), omega (arith, e, h.3)))

  pub place-position : (es : List (Name × A)) (o : Option ℕ) → o ≡ place_from q 0 (map (λ e. e.0) es) → IsPosition es o (entry_at q es)
  place-position es o is = rw is (from-the-start es (place_from q 0 (map (λ e. e.0) es)) (first-at es 0))

-- the names of the blocks as they are kept are those in the text
pub block-names : (bs : List TemplateBlock) (file : Name) (ns : List (Name × Nodes)) → map kept_block bs ≡ block_listings file ns → map (λ b. b.name) bs ≡ map (λ n. n.0) ns
block-names bs file ns e =
    sym (map-map (λ (p : Name × Listing). p.0) kept_block bs) ∙ ap (map (λ (p : Name × Listing). p.0)) e ∙ map-map (λ (p : Name × Listing). p.0) (block_listing file) ns

pub no-places : (places : BTreeMap (String Global) ℕ Global) (q : Name) → places.entries ≡ [] → stands places q ≡ None
no-places places q e = ap (lookup (λ k. is_eq (slice_cmp nat_cmp q (string_bytes k)))) e

-- a name that stands somewhere is one of theirs
pub own-placed : (q : Name) (k : ℕ) (cs : List Kept) → is_some (place_from q k (kept_names cs)) ≡ list_any (λ c. bytes_eq q c.definition.name) cs
own-placed q k [] = refl
own-placed q k (c ∷ cs) =
    one (bytes_eq q c.definition.name) (place_from q (suc k) (kept_names cs)) (list_any (λ c. bytes_eq q c.definition.name) cs) (own-placed q (suc k) cs)
  where
    one : (b : Bool) (rest : Option ℕ) (any : Bool) → is_some rest ≡ any → is_some (if b then Some k else rest) ≡ (b || any)
    one true rest any e = refl
    one false rest any e = e

-- the first component of a name is that of the first entry that has it
abbrev pub named-kept : Kept → Name × (Definition × Listing)
named-kept c = (c.definition.name, kept_of c)

pub kept-entry : (q : Name) (cs : List Kept) → first_kept q (map kept_of cs) ≡ option_map (λ e. e.1) (entry_at q (map named-kept cs))
kept-entry q [] = refl
kept-entry q (c ∷ cs) = one (bytes_eq q c.definition.name) (kept-entry q cs)
  where
    one : (b : Bool) → first_kept q (map kept_of cs) ≡ option_map (λ e. e.1) (entry_at q (map named-kept cs)) → (if b then Some (kept_of c) else first_kept q (map kept_of cs)) ≡ option_map (λ e. e.1) (cond b (Some (named-kept c)) (entry_at q (map named-kept cs)))
    one true e = refl
    one false e = e

pub names-many : (bs : List TemplateBlock) → length (map (λ b. b.name) bs) ≡ length bs
names-many [] = refl
names-many (b ∷ bs) = ap suc (names-many bs)

pub component-nowhere : (q : Name) (cs : List Kept) → None ≡ place_from q 0 (kept_names cs) → first_kept q (map kept_of cs) ≡ None
component-nowhere q cs is =
    kept-entry q cs ∙ ap (option_map (λ e. e.1)) (place-position q (map named-kept cs) None (is ∙ ap (place_from q 0) (sym (map-map (λ e. e.0) named-kept cs))))

pub component-at-place : (q : Name) (cs : List Kept) (k : ℕ) → Some k ≡ place_from q 0 (kept_names cs) → (first_kept q (map kept_of cs) ≡ slice_get (map kept_of cs) k) × (k < length cs)
component-at-place q cs k is =
    let p = place-position q (map named-kept cs) (Some k) (is ∙ ap (place_from q 0) (sym (map-map (λ e. e.0) named-kept cs))) in (
      kept-entry q cs ∙ ap (option_map (λ e. e.1)) p.0 ∙ sym (slice_get-map (λ e. e.1) (map named-kept cs) k) ∙ ap (λ l. slice_get l k) (map-map (λ e. e.1) named-kept cs),
      omega (arith, p.1, length-map cs named-kept),
    )
