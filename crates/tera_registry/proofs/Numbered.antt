-- Blocks by the numbers of their bodies: where one stands, and who defines it from there on.
use Rattle.std.proofs.Common.{◌≡◌, ℕ, zero, suc, ◌+◌, ◌-◌, ◌<◌, Bool, true, false, is_some, if◌then◌else◌, cond, bytes_eq, List, [], ◌∷◌, ◌++◌, length, map, take, get_or, slice_get, Option, Some, None, IfSome, option_map, Result, Ok, Err, Less, refl, sym, ap, ap₂, subst, ◌∙◌, inl, inr, arith}
use Rattle.std.specs.List.{flat_map, cons_option}
use Rattle.std.specs.Cmp.Lexicographic.{bytes_decides}
use Rattle.std.proofs.lemmas.Bool.{cases_lt}
use Rattle.std.proofs.lemmas.List.{get_or-append-add, get_or_append_left, length-append, length-map}
use Rattle.std.proofs.lemmas.Option.{slice_get_within}
use Rattle.tera_errors.specs.Fault.{Fault, circular_extend, missing_parent}
use Rattle.tera_errors.specs.Site.{Name}
use Rattle.tera_syntax_tree.specs.Tree.{Signature, Nodes}
use Rattle.tera_code.specs.Code.{listing_of}
use Rattle.tera_values.specs.Named.{name_cmp}
use Rattle.tera_meaning.specs.Registry.{Registry, Entry}
use Rattle.tera_meaning.specs.Resolve.{entry_at, onto, or_missing, or_none, up, resolve, parents}
use Rattle.tera_meaning.specs.Lineage.{Definer, definers_in, ancestors}
use Rattle.tera_registry.specs.Bodies.{codes_of, listings, start}
use Rattle.tera_registry.specs.Definers.{blocks_of, names_of}
use Rattle.tera_registry.specs.Numbers.{number_of, lineage, first_of, lineage_from, first_number, Standing, name_of, blocks_in, block_at, IsBlock, from_standing, from_number, from_first, above_in}
use Rattle.tera_registry.specs.Order.{Rises}
use Rattle.tera_registry.specs.Places.{place_from}
use Rattle.tera_registry.proofs.Ancestors.{own-first, none-own, up-more}
use Rattle.tera_registry.proofs.Element.{element}
use Rattle.tera_registry.proofs.Placed.{all-at, apart, entry-found, itself, named}
use Rattle.tera_registry.proofs.Placing.{place-position}
use Rattle.tera_registry.proofs.Resolved.{first-there-own}
use Rattle.tera_registry.proofs.Tabled.{length-codes, block-listing-at}

pub length-blocks : (t : Entry) → length (blocks_in t) ≡ length (codes_of t)
length-blocks t =
    let of_block : Name × Nodes → Option Standing = λ b. Some (t, b) in
    let of_component : Signature × Nodes → Option Standing = λ d. None in
    let bs = map of_block (blocks_of t) in
    let ds = map of_component t.1.tree.definitions in
    omega (arith, length-codes t, length-append bs ds, length-map (blocks_of t) of_block, length-map t.1.tree.definitions of_component)

-- What has the number of a block is the block.

first-in : (t : Entry) (rest : List (Option Standing)) (k : ℕ) (b : Name × Nodes) → slice_get (blocks_of t) k ≡ Some b → get_or (blocks_in t ++ rest) (suc k) None ≡ Some (t, b)
first-in t rest k b at = among (blocks_of t) t.1.tree.definitions k at
  where
    among : {D : Type 0} (bs : List (Name × Nodes)) (ds : List D) (k : ℕ) → slice_get bs k ≡ Some b → get_or ((map (λ b. Some (t, b)) bs ++ map (λ d. None) ds) ++ rest) k None ≡ Some (t, b)
    among [] ds k at = (let q : None ≡ Some b = at in cc)
    among (c ∷ bs) ds zero at = (let q : Some c ≡ Some b = at in ap (λ d. Some (t, d)) cc)
    among (c ∷ bs) ds (suc k) at = among bs ds k at

-- what is said of a number by the names of a template and of a block
abbrev pub Numbered : List Entry → Name → Name → Option ℕ → Type 0
Numbered es template block None =
    (t : Entry) → entry_at template es ≡ Some t → entry_at block (blocks_of t) ≡ None
Numbered es template block (Some n) =
    (t : Entry) × (b : Name × Nodes) × (entry_at template es ≡ Some t) × (entry_at block (blocks_of t) ≡ Some b) × (block_at es n ≡ Some (t, b))

module _ (template block : Name) where
  here : (t : Entry) (es : List Entry) (o : Option ℕ) → bytes_eq template t.0 ≡ true → place_from block 0 (names_of t) ≡ o → Numbered (t ∷ es) template block (option_map suc o)
  here t es None e is = λ u found.
      let q : Some t ≡ Some u = sym (ap (λ c. cond c (Some t) (entry_at template es)) e) ∙ found in
      let same : t ≡ u = cc in
      ap (λ (v : Entry). entry_at block (blocks_of v)) (sym same) ∙ place-position block (blocks_of t) None (sym is)
  here t es (Some k) e is =
      let p = place-position block (blocks_of t) (Some k) (sym is) in
      let b = element (blocks_of t) k p.1 in
      (t, b.0, ap (λ c. cond c (Some t) (entry_at template es)) e, p.0 ∙ b.1, first-in t (flat_map blocks_in es) k b.0 b.1)

  there : (t : Entry) (es : List Entry) (o : Option ℕ) → bytes_eq template t.0 ≡ false → Numbered es template block o → Numbered (t ∷ es) template block (option_map (λ n. length (codes_of t) + n) o)
  there t es None e h = λ u found. h u (sym (ap (λ c. cond c (Some t) (entry_at template es)) e) ∙ found)
  there t es (Some n) e h =
      let long : length (codes_of t) ≡ length (blocks_in t) = sym (length-blocks t) in
      (h.0, h.1, ap (λ c. cond c (Some t) (entry_at template es)) e ∙ h.2, h.3, ap (λ m. get_or (blocks_in t ++ flat_map blocks_in es) (m + n) None) long ∙ get_or-append-add (blocks_in t) (flat_map blocks_in es) n None ∙ h.4)

  pub numbered : (es : List Entry) → Numbered es template block (number_of es template block)
  numbered [] = λ t found. (let q : None ≡ Some t = found in cc)
  numbered (t ∷ es) = by_name (bytes_eq template t.0) refl (numbered es)
    where
      by_name : (c : Bool) → bytes_eq template t.0 ≡ c → Numbered es template block (number_of es template block) → Numbered (t ∷ es) template block (if c then option_map suc (place_from block 0 (names_of t)) else option_map (λ n. length (codes_of t) + n) (number_of es template block))
      by_name true e rest = here t es (place_from block 0 (names_of t)) e refl
      by_name false e rest = there t es (number_of es template block) e rest

-- the number of a block of the template at a position
pub number-there : (es : List Entry) (block : Name) (i : ℕ) (t : Entry) → Rises es → slice_get es i ≡ Some t → number_of es t.0 block ≡ option_map (λ k. start es i + suc k) (place_from block 0 (names_of t))
number-there [] block i t rises at = (let q : None ≡ Some t = at in cc)
number-there (u ∷ es) block zero t rises at =
    (let q : Some u ≡ Some t = at in
    let s : u ≡ t = cc in
    let same : bytes_eq t.0 u.0 ≡ true = (bytes_decides t.0 u.0).1 (ap (λ (v : Entry). v.0) (sym s)) in
    ap (λ c. if c then option_map suc (place_from block 0 (names_of u)) else option_map (λ n. length (codes_of u) + n) (number_of es t.0 block)) same
    ∙ ap (λ (v : Entry). option_map suc (place_from block 0 (names_of v))) s
    ∙ none-before (place_from block 0 (names_of t)))
  where
    none-before : (o : Option ℕ) → option_map suc o ≡ option_map (λ k. 0 + suc k) o
    none-before None = refl
    none-before (Some k) = (let e : suc k ≡ 0 + suc k = omega arith in ap Some e)
number-there (u ∷ es) block (suc i) t rises at =
    (let less : name_cmp u.0 t.0 ≡ Less = all-at (λ f. name_cmp u.0 f.0 ≡ Less) es i t rises.0 at in
    ap (λ c. if c then option_map suc (place_from block 0 (names_of u)) else option_map (λ n. length (codes_of u) + n) (number_of es t.0 block)) (apart t.0 u.0 less)
    ∙ ap (option_map (λ n. length (codes_of u) + n)) (number-there es block i t rises.1 at)
    ∙ behind (place_from block 0 (names_of t)))
  where
    behind : (o : Option ℕ) → option_map (λ n. length (codes_of u) + n) (option_map (λ k. start es i + suc k) o) ≡ option_map (λ k. length (codes_of u ++ listings (take i es)) + suc k) o
    behind None = refl
    behind (Some k) =
        (let e : length (codes_of u) + (start es i + suc k) ≡ length (codes_of u ++ listings (take i es)) + suc k = omega (arith, length-append (codes_of u) (listings (take i es))) in ap Some e)

-- Lineages.

module _ (r : Registry) (block : Name) where
  pub lineage-own : (t : Entry) (ts : List Entry) (n : ℕ) → number_of r.templates t.0 block ≡ Some n → lineage r block (t ∷ ts) ≡ n ∷ lineage r block ts
  lineage-own t ts n is = ap (λ o. cons_option o (lineage r block ts)) is

  pub lineage-pass : (t : Entry) (ts : List Entry) → number_of r.templates t.0 block ≡ None → lineage r block (t ∷ ts) ≡ lineage r block ts
  lineage-pass t ts none = ap (λ o. cons_option o (lineage r block ts)) none

  -- the number of its own block, where it defines it
  pub own-number : (i k : ℕ) (t : Entry) (ts : List Entry) → Rises r.templates → slice_get r.templates i ≡ Some t → Some k ≡ place_from block 0 (names_of t) → Some (start r.templates i + suc k) ≡ first_of (lineage r block (t ∷ ts))
  own-number i k t ts rises at is =
      let n : number_of r.templates t.0 block ≡ Some (start r.templates i + suc k) = number-there r.templates block i t rises at ∙ ap (option_map (λ k. start r.templates i + suc k)) (sym is) in
      sym (ap first_of (lineage-own t ts _ n))

  pub pass-number : (i : ℕ) (t : Entry) (ts : List Entry) → Rises r.templates → slice_get r.templates i ≡ Some t → None ≡ place_from block 0 (names_of t) → lineage r block (t ∷ ts) ≡ lineage r block ts
  pass-number i t ts rises at none =
      lineage-pass t ts (number-there r.templates block i t rises at ∙ ap (option_map (λ k. start r.templates i + suc k)) (sym none))

  named-in : (template : Name) (n : ℕ) (o : Option ℕ) → Numbered r.templates template block o → o ≡ Some n → option_map name_of (block_at r.templates n) ≡ Some block
  named-in template n None h e = (let q : None ≡ Some n = e in cc)
  named-in template n (Some m) h e =
      (let q : Some m ≡ Some n = e in
      let s : n ≡ m = cc in
      ap (λ k. option_map name_of (block_at r.templates k)) s ∙ ap (option_map name_of) h.4 ∙ ap Some (sym (named (blocks_of h.0) block h.1 h.3)))

  -- the block with which its lineage begins has its name
  pub first-named : (ts : List Entry) (n : ℕ) → first_of (lineage r block ts) ≡ Some n → option_map name_of (block_at r.templates n) ≡ Some block
  first-named [] n is = (let q : None ≡ Some n = is in cc)
  first-named (t ∷ ts) n is =
      by_own (number_of r.templates t.0 block) (numbered t.0 block r.templates) is (first-named ts n)
    where
      by_own : (o : Option ℕ) → Numbered r.templates t.0 block o → first_of (cons_option o (lineage r block ts)) ≡ Some n → (first_of (lineage r block ts) ≡ Some n → option_map name_of (block_at r.templates n) ≡ Some block) → option_map name_of (block_at r.templates n) ≡ Some block
      by_own None h e rest = rest e
      by_own (Some m) h e rest = named-in t.0 n (Some m) h e

  pub first-is-block : (ts : List Entry) (n : ℕ) → first_of (lineage r block ts) ≡ Some n → IsBlock r.templates n
  first-is-block ts n is = by_name (block_at r.templates n) (first-named ts n is)
    where
      by_name : (o : Option Standing) → option_map name_of o ≡ Some block → is_some o ≡ true
      by_name None e = (let q : None ≡ Some block = e in cc)
      by_name (Some p) e = refl

-- The block whose body has the first number for a name has that name, so no two names share one.

pub first-number-named : (r : Registry) (template block : Name) (n : ℕ) → first_number r template block ≡ Some n → option_map name_of (block_at r.templates n) ≡ Some block
first-number-named r template block n is = by_entry (entry_at template r.templates) is
  where
    by_entry : (o : Option Entry) → first_of (lineage_from r block o) ≡ Some n → option_map name_of (block_at r.templates n) ≡ Some block
    by_entry None e = (let q : None ≡ Some n = e in cc)
    by_entry (Some t) e = first-named r block (t ∷ ancestors r t) n e

pub same-number-same-name : (r : Registry) (template other a b : Name) (n : ℕ) → first_number r template a ≡ Some n → first_number r other b ≡ Some n → a ≡ b
same-number-same-name r template other a b n is of =
    let e = first-number-named r template a n is in
    let f = first-number-named r other b n of in
    let q : Some a ≡ Some b = sym e ∙ f in
    cc

-- Templates of which each is found by its name, and has those behind it as its parents.
abbrev pub Climbs : Registry → List Entry → Type 0
Climbs r [] = Unit {0}
Climbs r (t ∷ ts) = (entry_at t.0 r.templates ≡ Some t) × (ts ≡ ancestors r t) × Climbs r ts

module _ (r : Registry) where
  next-up : (k : ℕ) (o : Option Name) (w : Entry) (ts : List Entry) → up (resolve r) k o ≡ Ok (w ∷ ts) → (entry_at w.0 r.templates ≡ Some w) × (up (resolve r) k w.1.tree.parent ≡ Ok ts)
  next-up k None w ts e = (let q : Ok [] ≡ Ok (w ∷ ts) = e in cc)
  next-up zero (Some n) w ts e = (let q : Err circular_extend ≡ Ok (w ∷ ts) = e in cc)
  next-up (suc k) (Some n) w ts e = by_found (resolve r n) refl e
    where
      by_rest : (u : Entry) (q : Result (List Entry) Fault) → resolve r n ≡ Some u → up (resolve r) k u.1.tree.parent ≡ q → onto u q ≡ Ok (w ∷ ts) → (entry_at w.0 r.templates ≡ Some w) × (up (resolve r) (suc k) w.1.tree.parent ≡ Ok ts)
      by_rest u (Err f) found is e = (let q : Err f ≡ Ok (w ∷ ts) = e in cc)
      by_rest u (Ok qs) found is e =
          (let q : Ok (u ∷ qs) ≡ Ok (w ∷ ts) = e in
          let same : u ≡ w = cc in
          let rest : qs ≡ ts = cc in
          let own : entry_at u.0 r.templates ≡ Some u = first-there-own r.templates (n ∷ map (λ p. p ++ n) r.prefixes) u found in (
            ap (λ (v : Entry). entry_at v.0 r.templates) (sym same) ∙ own ∙ ap Some same,
            ap (λ (v : Entry). up (resolve r) (suc k) v.1.tree.parent) (sym same) ∙ up-more (resolve r) k u.1.tree.parent qs is ∙ ap Ok rest,
          ))

      by_found : (o : Option Entry) → resolve r n ≡ o → or_missing o (λ t. onto t (up (resolve r) k t.1.tree.parent)) ≡ Ok (w ∷ ts) → (entry_at w.0 r.templates ≡ Some w) × (up (resolve r) (suc k) w.1.tree.parent ≡ Ok ts)
      by_found None found e = (let q : Err missing_parent ≡ Ok (w ∷ ts) = e in cc)
      by_found (Some u) found e = by_rest u (up (resolve r) k u.1.tree.parent) found refl e

  up-climbs : (ts : List Entry) (o : Option Name) → up (resolve r) (length r.templates) o ≡ Ok ts → Climbs r ts
  up-climbs [] o e = tt
  up-climbs (w ∷ ts) o e =
      (let next = next-up (length r.templates) o w ts e in
      (next.0, sym (ap or_none next.1), up-climbs ts w.1.tree.parent next.1))

  -- the parents of a template, where it has all
  pub parents-climb : (t : Entry) → parents r t ≡ Ok (ancestors r t) → Climbs r (ancestors r t)
  parents-climb t ok = up-climbs (ancestors r t) t.1.tree.parent ok

  pub template-climbs : (i : ℕ) (t : Entry) → Rises r.templates → slice_get r.templates i ≡ Some t → parents r t ≡ Ok (ancestors r t) → Climbs r (t ∷ ancestors r t)
  template-climbs i t rises at ok =
      (entry-found r.templates t.0 i t rises at (itself t.0), refl, parents-climb t ok)

  -- those are they, from the first on whose body has this number, or nobody
  abbrev pub AreFrom : Option ℕ → List Definer → Type 0
  AreFrom None ds = ds ≡ []
  AreFrom (Some n) ds = (ds ≡ from_number r n) × IsBlock r.templates n

  from-moved : (o p : Option ℕ) (ds es : List Definer) → o ≡ p → ds ≡ es → AreFrom p es → AreFrom o ds
  from-moved o p ds es e f a = rw (e, f) a

  -- those who define a block are those from the first number of its lineage on
  pub are-from : (block : Name) (ts : List Entry) → Climbs r ts → AreFrom (first_of (lineage r block ts)) (definers_in block ts)
  are-from block [] c = refl
  are-from block (t ∷ ts) c =
      by_own (number_of r.templates t.0 block) refl (numbered t.0 block r.templates) (are-from block ts c.2)
    where
      by_own : (o : Option ℕ) → number_of r.templates t.0 block ≡ o → Numbered r.templates t.0 block o → AreFrom (first_of (lineage r block ts)) (definers_in block ts) → AreFrom (first_of (lineage r block (t ∷ ts))) (definers_in block (t ∷ ts))
      by_own None is h rest =
          from-moved _ (first_of (lineage r block ts)) _ (definers_in block ts) (ap first_of (lineage-pass r block t ts is)) (none-own block t ts (h t c.0)) rest
      by_own (Some n) is h rest =
          (let b = h.1 in
          let q : Some h.0 ≡ Some t = sym h.2 ∙ c.0 in
          let same : h.0 ≡ t = cc in
          let own : entry_at block (blocks_of t) ≡ Some b = ap (λ (v : Entry). entry_at block (blocks_of v)) (sym same) ∙ h.3 in
          let stands : block_at r.templates n ≡ Some (t, b) = h.4 ∙ ap (λ (v : Entry). Some (v, b)) same in
          let name : block ≡ b.0 = named (blocks_of t) block b own in
          let d : Definer = record { file = t.0; body = b.1 } in
          let those : definers_in block (t ∷ ts) ≡ from_number r n = own-first block t ts b own ∙ ap₂ (λ m us. d ∷ definers_in m us) name c.1 ∙ sym (ap (from_standing r) stands) in
          let there : is_some (block_at r.templates n) ≡ true = ap is_some stands in
          from-moved _ (Some n) _ (definers_in block (t ∷ ts)) (ap first_of (lineage-own r block t ts n is)) refl (those, there))

  pub from-so : (o : Option ℕ) (ds : List Definer) → AreFrom o ds → from_first r o ≡ ds
  from-so None ds a = sym a
  from-so (Some n) ds a = sym a.0

  pub from-lineage : (block : Name) (ts : List Entry) → Climbs r ts → from_first r (first_of (lineage r block ts)) ≡ definers_in block ts
  from-lineage block ts c = from-so _ _ (are-from block ts c)

  -- a number with which a lineage begins is that of a block
  pub first-block : (block : Name) (ts : List Entry) → IfSome (first_of (lineage r block ts)) (IsBlock r.templates)
  first-block block ts = by_first (first_of (lineage r block ts)) refl
    where
      by_first : (o : Option ℕ) → first_of (lineage r block ts) ≡ o → IfSome o (IsBlock r.templates)
      by_first None e = tt
      by_first (Some n) e = first-is-block r block ts n e

  pub block-of-first : (block : Name) (ts : List Entry) (o : Option ℕ) → o ≡ first_of (lineage r block ts) → IfSome o (IsBlock r.templates)
  block-of-first block ts o e = subst (λ p. IfSome p (IsBlock r.templates)) (sym e) (first-block block ts)

  pub above-block : (o : Option Standing) → IfSome (above_in r o) (IsBlock r.templates)
  above-block None = tt
  above-block (Some p) = first-block p.1.0 (ancestors r p.0)

-- Where the block of a number stands.
pub record Place (es : List Entry) (n : ℕ) (p : Standing) : Type 0 where
  pub template : ℕ
  pub block : ℕ
  pub here : slice_get es template ≡ Some p.0
  pub there : slice_get (blocks_of p.0) block ≡ Some p.1
  pub is : n ≡ start es template + 1 + block

one-of : {D : Type 0} (t : Entry) (bs : List (Name × Nodes)) (ds : List D) (k : ℕ) (p : Standing) → get_or (map (λ b. Some (t, b)) bs ++ map (λ d. None) ds) k None ≡ Some p → (slice_get bs k ≡ Some p.1) × (t ≡ p.0)
one-of t [] [] k p e = (let q : None ≡ Some p = e in cc)
one-of t [] (d ∷ ds) zero p e = (let q : None ≡ Some p = e in cc)
one-of t [] (d ∷ ds) (suc k) p e = one-of t [] ds k p e
one-of t (b ∷ bs) ds zero p e =
    (let q : Some (t, b) ≡ Some p = e in
    let s : (t, b) ≡ p = cc in
    (ap (λ (x : Standing). Some x.1) s, ap (λ (x : Standing). x.0) s))
one-of t (b ∷ bs) ds (suc k) p e = one-of t bs ds k p e

in-template : (t : Entry) (es : List Entry) (n : ℕ) (p : Standing) → get_or (blocks_in t) n None ≡ Some p → Place (t ∷ es) n p
in-template t es zero p e = (let q : None ≡ Some p = e in cc)
in-template t es (suc k) p e =
    (let one = one-of t (blocks_of t) t.1.tree.definitions k p e in record {
      template = 0;
      block = k;
      here = ap Some one.1;
      there = ap (λ (u : Entry). slice_get (blocks_of u) k) (sym one.1) ∙ one.0;
      is = omega arith;
    })

further : (t : Entry) (es : List Entry) (n m : ℕ) (p : Standing) → n ≡ length (blocks_in t) + m → Place es m p → Place (t ∷ es) n p
further t es n m p is rest = record {
  template = suc rest.template;
  block = rest.block;
  here = rest.here;
  there = rest.there;
  is = omega (arith, is, rest.is, length-blocks t, length-append (codes_of t) (listings (take rest.template es)));
}

pub place-of-block : (es : List Entry) (n : ℕ) (p : Standing) → block_at es n ≡ Some p → Place es n p
place-of-block [] n p e = (let q : None ≡ Some p = e in cc)
place-of-block (t ∷ es) n p e =
    elim (cases_lt n (length (blocks_in t))) [
      | inl inside ↦ in-template t es n p (sym (get_or_append_left (blocks_in t) (flat_map blocks_in es) None n inside) ∙ e)
      | inr past ↦
          (let m = n - length (blocks_in t) in
          let is : n ≡ length (blocks_in t) + m = omega (arith, past) in
          further t es n m p is (place-of-block es m p (sym (get_or-append-add (blocks_in t) (flat_map blocks_in es) m None) ∙ ap (λ k. get_or (blocks_in t ++ flat_map blocks_in es) k None) (sym is) ∙ e)))
    ]

-- the code of the block whose body has a number
pub block-listing : (es : List Entry) (n : ℕ) (p : Standing) → block_at es n ≡ Some p → slice_get (listings es) n ≡ Some (listing_of p.0.0 p.1.1)
block-listing es n p is =
    let at = place-of-block es n p is in
    ap (slice_get (listings es)) at.is ∙ block-listing-at p.0 es at.template at.block p.1 at.here at.there

pub block-some : (es : List Entry) (n : ℕ) → IsBlock es n → (p : Standing) × (block_at es n ≡ Some p)
block-some es n is = by_standing (block_at es n) refl is
  where
    by_standing : (o : Option Standing) → block_at es n ≡ o → is_some o ≡ true → (p : Standing) × (block_at es n ≡ Some p)
    by_standing None e t = (let q : false ≡ true = t in cc)
    by_standing (Some p) e t = (p, e)

pub block-within : (es : List Entry) (n : ℕ) → IsBlock es n → n < length (listings es)
block-within es n is =
    let p = block-some es n is in
    slice_get_within (listings es) n _ (block-listing es n p.0 p.1)
